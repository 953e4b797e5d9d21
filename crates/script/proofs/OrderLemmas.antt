-- events that can be played, and one more
use Rattle.std.proofs.Common.{◌≡◌, ◌<◌, ℕ, true, List, [], ◌∷◌, ◌++◌, length, refl, subst, arith, append_assoc, append-nil}
use Rattle.std.specs.List.{AllByRecursion}
use Rattle.std.proofs.lemmas.List.{length-append}
use Rattle.std.proofs.lemmas.Bool.{and_parts}
use Rattle.script.specs.declared.event.Event.{Event}
use Rattle.script.specs.Events.{IsEvent, AreEvents, are_in_order, may_follow, most_events}

all_more : (P : Event → Type 0) (events : List Event) (event : Event) → AllByRecursion P events → P event → AllByRecursion P (events ++ event ∷ [])
all_more P [] event a p = (p, tt)
all_more P (other ∷ events) event a p = (a.0, all_more P events event a.1 p)

order_more : (before events : List Event) (event : Event) → are_in_order before events ≡ true → may_follow (before ++ events) event ≡ true
    → are_in_order before (events ++ event ∷ []) ≡ true
order_more before [] event h m =
    let none : before ++ [] ≡ before = append-nil before in
    let m' : may_follow before event ≡ true = subst (λ b. may_follow b event ≡ true) none m in
    rw m' refl
order_more before (other ∷ events) event h m =
    let w = and_parts (may_follow before other) (are_in_order (before ++ other ∷ []) events) h in
    rw w.0 (order_more (before ++ other ∷ []) events event w.1 (rw (append_assoc before (other ∷ []) events) m))

-- one event more
pub events_more : (targets : ℕ) (events : List Event) (event : Event) → AreEvents targets events → IsEvent targets event → may_follow events event ≡ true
    → length events < most_events → AreEvents targets (events ++ event ∷ [])
events_more targets events event a e m few = record {
  each = all_more (IsEvent targets) events event a.each e;
  in_order = order_more [] events event a.in_order m;
  few = rw (length-append events (event ∷ [])) (omega arith);
}

-- no events
pub no_events : (targets : ℕ) → AreEvents targets []
no_events targets = record { each = tt; in_order = refl; few = omega arith }
