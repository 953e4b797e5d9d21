-- Which events can be played behind others, the closing ones too
use Rattle.std.proofs.Common.{◌≡◌, ◌+◌, ◌≤◌, ℕ, zero, suc, Bool, true, false, List, [], ◌∷◌, ◌++◌, sym, subst, append_assoc, append-nil, arith}
use Rattle.std.specs.List.{AllByRecursion, flat_map, list_all}
use Rattle.std.specs.Prelude.{if◌then◌else◌}
use Rattle.std.proofs.lemmas.Bool.{and_parts, not-true}
use Rattle.z_types.specs.declared.sitting.Sitting as sitting
use Rattle.z_types.specs.declared.world.World as world
use Rattle.route_config.specs.declared.route.Route.{Route}
use Rattle.script.specs.declared.event.Event.{Event}
use Rattle.script.specs.declared.event.Event.TheVariants.{Feed, End, Step, Run, Tick, Gone, Cut, Slow}
use Rattle.script.specs.Events.{IsClient, IsEvent, are_in_order, has_ended, is_named, may_follow, most_clients, named, named_upto, seconds_of}
use Rattle.replay.specs.Trace.{ArePlayed, Playing, closing, closings, moment_behind}
use Rattle.replay_shares.specs.Orderly.{is_calm}
use Rattle.replay_shares.proofs.CountLemmas.{all-both}

-- an event of an orderly script behind others: it is of a client that there may be, and feeds an input that has not ended
abbrev pub CanCome : (before : List Event) → Event → Type 0
CanCome before (Feed client octets) = IsClient client × (has_ended before client ≡ false)
CanCome before (End client) = IsClient client
CanCome before (Run client) = IsClient client
CanCome before (Tick seconds) = Unit {0}
CanCome before other = ⊥

abbrev pub AllCanCome : (before : List Event) → List Event → Type 0
AllCanCome before [] = Unit {0}
AllCanCome before (event ∷ events) = CanCome before event × AllCanCome (before ++ event ∷ []) events

one-comes : (targets : ℕ) (before : List Event) (event : Event) → IsEvent targets event → may_follow before event ≡ true → is_calm event ≡ true
    → CanCome before event
one-comes targets before (Feed client octets) is may calm = (is, not-true (has_ended before client) may)
one-comes targets before (End client) is may calm = is
one-comes targets before (Run client) is may calm = is
one-comes targets before (Tick seconds) is may calm = tt
one-comes targets before (Step client) is may calm = absurd cc
one-comes targets before (Gone target presents) is may calm = absurd cc
one-comes targets before (Cut target) is may calm = absurd cc
one-comes targets before (Slow target looks) is may calm = absurd cc

pub all-come : (targets : ℕ) (before events : List Event) → AllByRecursion (IsEvent targets) events → are_in_order before events ≡ true
    → list_all is_calm events ≡ true → AllCanCome before events
all-come targets before [] each order calm = tt
all-come targets before (event ∷ events) each order calm =
    let may = and_parts (may_follow before event) (are_in_order (before ++ event ∷ []) events) order in
    let is = and_parts (is_calm event) (list_all is_calm events) calm in
    (one-comes targets before event each.0 may.0 is.0, all-come targets (before ++ event ∷ []) events each.1 may.1 is.1)

pub come-both : (before events more : List Event) → AllCanCome before events → AllCanCome (before ++ events) more
    → AllCanCome before (events ++ more)
come-both before [] more h k = subst (λ (b : List Event). AllCanCome b more) (append-nil before) k
come-both before (event ∷ events) more h k = (
  h.0,
  come-both (before ++ event ∷ []) events more h.1
      (subst (λ (b : List Event). AllCanCome b more) (sym (append_assoc before (event ∷ []) events)) k),
)

-- ---- closing

closing-comes : (before : List Event) (numbers : List ℕ) → AllByRecursion IsClient numbers → AllCanCome before (flat_map closing numbers)
closing-comes before [] h = tt
closing-comes before (number ∷ numbers) h =
    (h.0, (h.0, closing-comes ((before ++ End number ∷ []) ++ Run number ∷ []) numbers h.1))

named-if : (b : Bool) (number : ℕ) → IsClient number → AllByRecursion IsClient (if b then number ∷ [] else [])
named-if true number is = (is, tt)
named-if false number is = tt

named-clients : (last : ℕ) (events : List Event) → last ≤ most_clients → AllByRecursion IsClient (named_upto last events)
unfolding named_upto
named-clients zero events within = tt
named-clients (suc last) events within =
    all-both IsClient (named_upto last events) (if is_named events (suc last) then suc last ∷ [] else [])
    (named-clients last events (omega (arith, within)))
    (named-if (is_named events (suc last)) (suc last) (omega arith, within))

pub closings-come : (before events : List Event) → AllCanCome before (closings events)
unfolding named
closings-come before events = closing-comes before (named events) (named-clients most_clients events (omega arith))

-- ---- what is played

module _ {W S : Type 0} (w : world.Ghosts W) (t : sitting.Ghosts S W) (exact : Bool) (route : Route) where
  pub played-both : (events more : List Event) (now : ℕ) (old mid new : Playing S) → ArePlayed w t exact route events now old mid
      → ArePlayed w t exact route more (now + moment_behind events) mid new → ArePlayed w t exact route (events ++ more) now old new
  played-both [] more now old mid new h k =
      subst (λ (n : ℕ). ArePlayed w t exact route more n old new) (omega arith)
      (subst (λ (p : Playing S). ArePlayed w t exact route more (now + 0) p new) h k)
  played-both (event ∷ events) more now old mid new h k = (
    h.0,
    h.1,
    played-both events more (now + seconds_of event) h.0 mid new h.2
        (subst (λ (n : ℕ). ArePlayed w t exact route more n mid new) (omega arith) k),
  )
