-- what one turn of a leg leaves: by which reference a wire is lent, and where its target tells what it answers, the breaches
use Rattle.std.proofs.Common.{◌≡◌, ℕ, Bool, inl, inr, List, ap}
use Rattle.std.specs.Prelude.{Contains}
use Rattle.z_types.specs.declared.address.Address.{Address}
use Rattle.z_types.specs.declared.sitting.Sitting as sitting
use Rattle.z_types.specs.declared.world.World as world
use Rattle.gw_outside.specs.Counts.{Counts}
use Rattle.gw_outside.specs.Happened.{Happened}
use Rattle.gw_outside.specs.Sessions.{LookCounts, OpenCounts, OpenHappens}
use Rattle.gw_outside.specs.declared.backends.Heard.{Heard}
use Rattle.gw_outside.specs.declared.backends.Heard.TheVariants as look
use Rattle.gw_outside.specs.declared.backends.Opening.{Opening}
use Rattle.gw_outside.specs.declared.backends.Opening.TheVariants as opening
use Rattle.package_quiet.specs.leg.Deeds.{Deed, BackendView, CountsMove, HappensThen, took, opened, began, heard, put_back, gave_up, redialled, no_memory, nothing}
use Rattle.package_quiet.specs.leg.Rules.{answer_of, lack_of, left_by, next}
use Rattle.package_quiet.specs.leg.Terms.{Terms, sites}
use Rattle.package_quiet.specs.leg.Turns.{DoorView, IsTurn}
use Rattle.package_quiet.specs.leg.declared.accounts.Account.{Account}
use Rattle.package_quiet.specs.leg.declared.answers.Turned.{Turned}
use Rattle.package_quiet.specs.leg.declared.phases.Phase.{Phase}
use Rattle.package_quiet.specs.leg.declared.tasks.Task.{Task}
use Rattle.replay.proofs.SitsLemmas.{LooksAt, SitsAt, ends-sits, goes-sits, left-by-sits}

-- ---- the reference

open-lent : {S : Type 0} (made : Opening S) (old new : Happened) → OpenHappens made old new → new.lent ≡ old.lent
open-lent (opening.Session session) old new h = h.lent
open-lent (opening.Failed linked) old new h = h.lent
open-lent opening.Memory old new h = h.lent

-- ---- breaches

open-breaches : {S : Type 0} (exact : Bool) (made : Opening S) (old new : Counts) → OpenCounts exact made old new → new.breaches ≡ old.breaches
open-breaches exact (opening.Session session) old new h = h.no_breach tt
open-breaches exact (opening.Failed linked) old new h = h.no_breach tt
open-breaches exact opening.Memory old new (inl h) = h.no_breach tt
open-breaches exact opening.Memory old new (inr h) = h.no_breach tt

look-breaches : (exact : Bool) (told : Type 0) (reply : Heard) (old new : Counts) → told → LookCounts exact told reply old new → new.breaches ≡ old.breaches
look-breaches exact told look.Opened old new is h = h.no_breach is
look-breaches exact told (look.Hits hits) old new is h = h.no_breach is
look-breaches exact told (look.Refused diag) old new is h = h.no_breach is
look-breaches exact told (look.Items items) old new is h = h.no_breach is
look-breaches exact told look.Gone old new is h = h.no_breach is
look-breaches exact told (look.Scanned entries) old new is h = h.no_breach is
look-breaches exact told look.NotYet old new is h = h.no_breach is
look-breaches exact told look.Failed old new is h = h.no_breach is
look-breaches exact told look.Memory old new is (inl h) = h.no_breach is
look-breaches exact told look.Memory old new is (inr h) = h.no_breach is

module _ {W S : Type 0} (w : world.Ghosts W) (t : sitting.Ghosts S W) (exact : Bool) where
  deed-lent : (deed : Deed S) (old new : Happened) → HappensThen w t exact deed old new → new.lent ≡ old.lent
  deed-lent (took taken) old new h = ap (λ (x : Happened). x.lent) h
  deed-lent (opened made) old new h = open-lent made old new h
  deed-lent (began asked answer session) old new h = h.lent
  deed-lent (heard reply session) old new h = h.lent
  deed-lent put_back old new h = ap (λ (x : Happened). x.lent) h
  deed-lent gave_up old new h = ap (λ (x : Happened). x.lent) h
  deed-lent (redialled member) old new h = ap (λ (x : Happened). x.lent) h
  deed-lent no_memory old new h = ap (λ (x : Happened). x.lent) h
  deed-lent nothing old new h = ap (λ (x : Happened). x.lent) h

  module _ (at : List Address) (told : (address : Address) → Contains at address → w.told address) where
    deed-breaches : (deed : Deed S) (old new : Counts) → LooksAt w t at deed → CountsMove w t exact deed old new → new.breaches ≡ old.breaches
    deed-breaches (took taken) old new is h = ap (λ (c : Counts). c.breaches) h
    deed-breaches (opened made) old new is h = open-breaches exact made old new h
    deed-breaches (began asked answer session) old new is h = h.no_breach tt
    deed-breaches (heard reply session) old new is h = look-breaches exact (w.told (t.address session)) reply old new (told (t.address session) is) h
    deed-breaches put_back old new is h = ap (λ (c : Counts). c.breaches) h
    deed-breaches gave_up old new is h = ap (λ (c : Counts). c.breaches) h
    deed-breaches (redialled member) old new is h = ap (λ (c : Counts). c.breaches) h
    deed-breaches no_memory old new is h = ap (λ (c : Counts). c.breaches) h
    deed-breaches nothing old new is h = ap (λ (c : Counts). c.breaches) h

-- ---- a turn

module _ {W S : Type 0} (w : world.Ghosts W) (t : sitting.Ghosts S W) (exact : Bool) (terms : Terms) (task : Task) (now : ℕ)
    (old new : Phase S) (a b : Account) (answer : Turned) (door after : DoorView S) (backend moved : BackendView)
    (h : IsTurn w t exact terms task now old new a b answer door after backend moved) where
  pub turn-lent : moved.happened.lent ≡ backend.happened.lent
  turn-lent = deed-lent w t exact h.deed backend.happened moved.happened h.backend_moves.happened

  pub turn-sits : SitsAt w t (sites terms) old → SitsAt w t (sites terms) new
  turn-sits is =
      ends-sits w t (sites terms) (lack_of h.deed) (next terms task now b.gones old h.deed) (left_by old h.deed) (answer_of h.deed new) answer new
      (goes-sits w t terms door.counts.most task now b.gones old h.deed is h.due).0 (left-by-sits w t (sites terms) old h.deed) h.goes

  pub turn-breaches : SitsAt w t (sites terms) old → ((address : Address) → Contains (sites terms) address → w.told address)
      → moved.counts.breaches ≡ backend.counts.breaches
  turn-breaches is told =
      deed-breaches w t exact (sites terms) told h.deed backend.counts moved.counts
      (goes-sits w t terms door.counts.most task now b.gones old h.deed is h.due).1 h.backend_moves.counts
