-- The legs of a request by turns: they share their classes
use Rattle.std.proofs.Common.{◌≡◌, ◌≢◌, ◌++◌, ℕ, Bool, true, false, if◌then◌else◌, inl, inr, List, [], ◌∷◌, map, Some, refl, sym, subst, nat_eq}
use Rattle.std.specs.List.{AllByRecursion, IsDistinct}
use Rattle.z_types.specs.declared.sitting.Sitting as sitting
use Rattle.z_types.specs.declared.work.Work.{Work}
use Rattle.z_types.specs.declared.world.World as world
use Rattle.route_config.specs.declared.route.Route.{Route}
use Rattle.pool_sets.specs.Plain.{Pool}
use Rattle.package_quiet.specs.leg.Deeds.{BackendView}
use Rattle.package_quiet.specs.leg.LegView.{LegView}
use Rattle.package_quiet.specs.leg.Turns.{DoorView}
use Rattle.package_quiet.specs.leg.declared.answers.Turned.{Turned}
use Rattle.package_quiet.specs.leg.declared.answers.Turned.TheVariants as turned
use Rattle.package_quiet.specs.package_rules.Asked.{Asked, first_asked}
use Rattle.package_quiet.specs.package.declared.turning.Round.{Round}
use Rattle.package_quiet.specs.package.steps.Packages.{PackageView, begun, new_package}
use Rattle.package_quiet.specs.package.steps.Turns.{GoesOn, IsPackageTurn, Plans, TakesTurn, all_done, no_round}
use Rattle.sharing_rules.specs.Uses.{Use}
use Rattle.leg_shares.specs.steps.Pools.{sharers_at}
use Rattle.package_quiet.specs.steps.Quiet.{AreWell, HasNoCause}
use Rattle.package_quiet.proofs.PackageLemmas.{HadMemories}
use Rattle.package_shares.specs.steps.Packages.{MayPackageShare, PackageShares, PackageSharesOver}
use Rattle.package_shares.specs.steps.Together.{AreAllKept, AreApart, AreSharing, AreUndisturbed, HadItsCost, IsSharing, uses_behind}
use Rattle.package_shares.proofs.RoundLemmas.{AreUnfull, legs-share, others-of, round-shares}
use Rattle.package_shares.proofs.UsesLemmas.{done-leave}

-- ---- two parts

module _ {X : Type 0} (P : X → Type 0) where
  pub front-all : (front back : List X) → AllByRecursion P (front ++ back) → AllByRecursion P front
  front-all [] back are = tt
  front-all (x ∷ front) back are = (are.0, front-all front back are.1)

  pub back-all : (front back : List X) → AllByRecursion P (front ++ back) → AllByRecursion P back
  back-all [] back are = are
  back-all (x ∷ front) back are = back-all front back are.1

-- ---- legs that are begun

module _ {W S : Type 0} (w : world.Ghosts W) (t : sitting.Ghosts S W) (route : Route) (now : ℕ) (before : List Use) (pool : Pool S)
    (kept : AreAllKept w route now before pool) where
  begun-each : (asked : List Asked) → AllByRecursion (IsSharing w t route now before pool) (map begun asked)
  begun-each [] = tt
  begun-each (ask ∷ asked) = (record { stands = kept.each (sharers_at route ask.login ask.leg); dials = refl; searches = refl }, begun-each asked)

  begun-share : (asked : List Asked) → AreSharing w t route now before (map begun asked) pool
  begun-share asked = record { of = kept.of; each = begun-each asked; rest = λ who none_of. kept.each who }

  pub package-begins : (work : Work) → PackageShares w t route now before (new_package {S = S} route work).planned (new_package route work) pool
  package-begins work = (begun-share (first_asked route work), refl)

-- ---- memory

lacks-said : (lacks : Bool) (other answer : Turned) → answer ≡ (if lacks then turned.Memory else other) → answer ≢ turned.Memory → lacks ≡ false
lacks-said false other answer is has = refl
lacks-said true other answer is has = absurd (has is)

-- ---- the turn

module _ {W S : Type 0} (w : world.Ghosts W) (t : sitting.Ghosts S W) (exact : Bool) (route : Route) (now : ℕ) (before : List Use) where
  goes-memory : (over : Bool) (new : PackageView S) (round : Round) (answer : Turned) → all_done new.first ≡ over
      → GoesOn w t exact route now over new round answer → answer ≢ turned.Memory → HadMemories round new.first
  goes-memory false new round answer is h has = inl (lacks-said round.lacks _ answer h.1 has)
  goes-memory true new round answer is h has = inr is

  -- it is known what is asked then
  planned-shares : (new : PackageView S) (answer : Turned) (pool : Pool S) → Plans route new answer → answer ≢ turned.Memory
      → AllByRecursion (HadItsCost w route now before) new.first → AreAllKept w route now (uses_behind route now before new.first) pool
      → PackageShares w t route now before new.planned new pool
  planned-shares new turned.Memory pool h has costs kept = absurd (has refl)
  planned-shares new turned.Went pool h has costs kept =
      subst (λ (b : Bool). PackageShares w t route now before b new pool) (sym h.0.planned) (
        costs,
        subst (λ (ls : List (LegView S)). AreSharing w t route now (uses_behind route now before new.first) ls pool) (sym h.0.later)
            (begun-share w t route now (uses_behind route now before new.first) pool kept _),
      )
  planned-shares new turned.NotYet pool h has costs kept =
      subst (λ (b : Bool). PackageShares w t route now before b new pool) (sym h.0.planned) (
        costs,
        subst (λ (ls : List (LegView S)). AreSharing w t route now (uses_behind route now before new.first) ls pool) (sym h.0.later)
            (begun-share w t route now (uses_behind route now before new.first) pool kept _),
      )
  planned-shares new turned.Done pool h has costs kept =
      subst (λ (b : Bool). PackageShares w t route now before b new pool) (sym h.0.planned) (
        costs,
        subst (λ (ls : List (LegView S)). AreSharing w t route now (uses_behind route now before new.first) ls pool) (sym h.0.later)
            (begun-share w t route now (uses_behind route now before new.first) pool kept _),
      )

  goes-on : (over : Bool) (new : PackageView S) (round : Round) (answer : Turned) (pool : Pool S) → all_done new.first ≡ over
      → GoesOn w t exact route now over new round answer → answer ≢ turned.Memory → AreApart route new.first
      → AreSharing w t route now before new.first pool → PackageShares w t route now before new.planned new pool
  goes-on false new round answer pool is h has apart share =
      subst (λ (b : Bool). PackageShares w t route now before b new pool) (sym h.0.planned) (share, h.0.later)
  goes-on true new round answer pool is h has apart share =
      let done = done-leave w t route now before pool new.first apart share is in planned-shares new answer pool h has done.0 done.1

  turn-by : (planned : Bool) (old new : PackageView S) (answer : Turned) (round : Round) (door after : DoorView S) (backend moved : BackendView)
      (pool : Pool S) → MayPackageShare w route now before old
      → TakesTurn w t exact route now planned old new answer round door after backend moved → answer ≢ turned.Memory
      → AreUndisturbed (new.first ++ new.later) → door.pool ≡ Some pool → PackageShares w t route now before planned old pool
      → PackageSharesOver w t route now before new after.pool
  turn-by false old new answer round door after backend moved pool may h has none told shares =
      let over = round-shares w t exact route now before old.first new.first no_round round door after backend moved pool may.first h.0
      (goes-memory (all_done new.first) new round answer refl h.1 has) (front-all (λ leg. HasNoCause leg.account) new.first new.later none) told shares.0 in
      record {
        pool = over.0.pool;
        told = over.0.told;
        shares =
            goes-on (all_done new.first) new round answer over.0.pool refl h.1 has
            (subst (λ (ks : List ℕ). IsDistinct nat_eq ks) (sym over.1) may.first.apart) over.0.share;
      }
  turn-by true old new answer round door after backend moved pool may h has none told shares =
      let over = round-shares w t exact route now (uses_behind route now before old.first) old.later new.later no_round round door after backend moved pool
      may.later h.2 (inl (lacks-said round.lacks _ answer h.3 has)) (back-all (λ leg. HasNoCause leg.account) new.first new.later none) told shares.1 in
      record {
        pool = over.0.pool;
        told = over.0.told;
        shares =
            subst (λ (b : Bool). PackageShares w t route now before b new over.0.pool) (sym h.1)
            (subst (λ (ls : List (LegView S)). AllByRecursion (HadItsCost w route now before) ls
            × AreSharing w t route now (uses_behind route now before ls) new.later over.0.pool) (sym h.0) (shares.0, over.0.share));
      }

  pub package-shares : (old new : PackageView S) (answer : Turned) (door after : DoorView S) (backend moved : BackendView) (pool : Pool S)
      → MayPackageShare w route now before old → IsPackageTurn w t exact route now old new answer door after backend moved
      → answer ≢ turned.Memory → AreUndisturbed (new.first ++ new.later) → door.pool ≡ Some pool
      → PackageShares w t route now before old.planned old pool
      → PackageSharesOver w t route now before new after.pool
  package-shares old new answer door after backend moved pool may h has none told shares =
      turn-by old.planned old new answer h.round door after backend moved pool may h.turns has none told shares

  -- ---- the door is never full

  begun-unfull : (asked : List Asked) → AreUnfull {S = S} (map begun asked)
  begun-unfull [] = tt
  begun-unfull (ask ∷ asked) = (refl, begun-unfull asked)

  plans-unfull : (new : PackageView S) (answer : Turned) → Plans route new answer → AreUnfull new.later
  plans-unfull new turned.Memory h = subst (λ (ls : List (LegView S)). AreUnfull ls) (sym h.later) tt
  plans-unfull new turned.Went h = subst (λ (ls : List (LegView S)). AreUnfull ls) (sym h.0.later) (begun-unfull _)
  plans-unfull new turned.NotYet h = subst (λ (ls : List (LegView S)). AreUnfull ls) (sym h.0.later) (begun-unfull _)
  plans-unfull new turned.Done h = subst (λ (ls : List (LegView S)). AreUnfull ls) (sym h.0.later) (begun-unfull _)

  goes-unfull : (over : Bool) (new : PackageView S) (round : Round) (answer : Turned) → GoesOn w t exact route now over new round answer
      → AreUnfull new.later
  goes-unfull false new round answer h = subst (λ (ls : List (LegView S)). AreUnfull ls) (sym h.0.later) tt
  goes-unfull true new round answer h = plans-unfull new answer h

  unfull-by : (planned : Bool) (old new : PackageView S) (answer : Turned) (round : Round) (door after : DoorView S) (backend moved : BackendView)
      (pool : Pool S) → MayPackageShare w route now before old
      → TakesTurn w t exact route now planned old new answer round door after backend moved → answer ≢ turned.Memory
      → AreUndisturbed (new.first ++ new.later) → door.pool ≡ Some pool → PackageShares w t route now before planned old pool
      → AreUnfull old.first → AreUnfull old.later → AreUnfull new.first × AreUnfull new.later
  unfull-by false old new answer round door after backend moved pool may h has none told shares first later =
      let all = legs-share w t exact route now before old.first new.first no_round round door after backend moved pool may.first.apart may.first.each h.0
      (goes-memory (all_done new.first) new round answer refl h.1 has) (front-all (λ leg. HasNoCause leg.account) new.first new.later none) told
      shares.0.of shares.0.each (others-of w t exact route now before old.first pool may.first.apart shares.0) in (all.unfull first, goes-unfull (all_done new.first) new round answer h.1)
  unfull-by true old new answer round door after backend moved pool may h has none told shares first later =
      let all = legs-share w t exact route now (uses_behind route now before old.first) old.later new.later no_round round door after backend moved pool
      may.later.apart may.later.each h.2 (inl (lacks-said round.lacks _ answer h.3 has))
      (back-all (λ leg. HasNoCause leg.account) new.first new.later none) told shares.1.of shares.1.each
      (others-of w t exact route now (uses_behind route now before old.first) old.later pool may.later.apart shares.1) in
      (subst (λ (ls : List (LegView S)). AreUnfull ls) (sym h.0) first, all.unfull later)

  pub package-unfull : (old new : PackageView S) (answer : Turned) (door after : DoorView S) (backend moved : BackendView) (pool : Pool S)
      → MayPackageShare w route now before old → IsPackageTurn w t exact route now old new answer door after backend moved
      → answer ≢ turned.Memory → AreUndisturbed (new.first ++ new.later) → door.pool ≡ Some pool
      → PackageShares w t route now before old.planned old pool → AreUnfull old.first → AreUnfull old.later
      → AreUnfull new.first × AreUnfull new.later
  package-unfull old new answer door after backend moved pool may h has none told shares first later =
      unfull-by old.planned old new answer h.round door after backend moved pool may h.turns has none told shares first later

-- ---- a quiet backend

-- legs that are well have counted nothing that goes wrong
pub undisturbed : {W S : Type 0} (w : world.Ghosts W) (t : sitting.Ghosts S W) (route : Route) (legs : List (LegView S)) → AreWell w t route legs
    → AreUndisturbed legs
undisturbed w t route [] are = tt
undisturbed w t route (leg ∷ legs) are = (are.0.none, undisturbed w t route legs are.1)
