-- what one event more does to what a client is fed, whether it is named, and whether its input has ended
use Rattle.std.proofs.Common.{arith, ◌≤◌, ◌≡◌, ◌≢◌, ◌∙◌, ℕ, zero, suc, Bool, true, false, List, [], ◌∷◌, ◌++◌, ◌==◌, ◌||◌, None, Some, if◌then◌else◌, take, slice_get, refl, sym, ap, subst, append-nil, append_assoc}
use Rattle.std.specs.List.{AllByRecursion}
use Rattle.std.proofs.lemmas.Option.{none-some, same_Some}
use Rattle.std.specs.Option.{option_map_or}
use Rattle.std.proofs.lemmas.Bool.{and_parts, eq-eqb, ne_eqb, or_parts, or_from, not-true}
use Rattle.std.proofs.lemmas.Grind.{flat_map-append}
use Rattle.std.proofs.lemmas.List.Folds.{list_any-append}
use Rattle.std.proofs.Math.Bool.{or-false, or-true}
use Rattle.script.specs.declared.event.Event.{Event}
use Rattle.script.specs.declared.event.Event.TheVariants.{Feed, End, Step, Run, Tick, Gone, Cut, Slow}
use Rattle.script.specs.Events.{most_amount, seconds_of, IsEvent, are_in_order, client_of, ends, fed, has_ended, is_named, is_of, may_follow, octets_of}
use Rattle.replay.specs.steps.Playing.{ended_with, octets_with}

-- ---- whose an event is

-- an event of a client
pub own : (event : Event) (number : ℕ) → client_of event ≡ Some number → is_of number event ≡ true
own event number e = ap (λ o. option_map_or (λ (n : ℕ). n == number) o false) e ∙ eq-eqb number number refl

-- one of another
pub not_own : (event : Event) (number other : ℕ) → client_of event ≡ Some number → number ≢ other → is_of other event ≡ false
not_own event number other e ne = ap (λ o. option_map_or (λ (n : ℕ). n == other) o false) e ∙ ne_eqb number other ne

-- one of none
pub of_none : (event : Event) (other : ℕ) → client_of event ≡ None → is_of other event ≡ false
of_none event other e = ap (λ o. option_map_or (λ (n : ℕ). n == other) o false) e

-- ---- what is fed

abbrev fed_by : ℕ → Event → List ℕ
fed_by number event = if is_of number event then octets_of event else []

fed-one : (before : List Event) (event : Event) (number : ℕ) → fed (before ++ event ∷ []) number ≡ fed before number ++ fed_by number event
fed-one before event number =
    flat_map-append (fed_by number) before (event ∷ []) ∙ ap (λ more. fed before number ++ more) (append-nil (fed_by number event))

octets_with-is : (event : Event) (before : List ℕ) → before ++ octets_of event ≡ octets_with event before
octets_with-is (Feed client octets) before = refl
octets_with-is (End client) before = append-nil before
octets_with-is (Step client) before = append-nil before
octets_with-is (Run client) before = append-nil before
octets_with-is (Tick seconds) before = append-nil before
octets_with-is (Gone target presents) before = append-nil before
octets_with-is (Cut target) before = append-nil before
octets_with-is (Slow target looks) before = append-nil before

-- an event of a client feeds it what it says
pub fed-more : (before : List Event) (event : Event) (number : ℕ) → client_of event ≡ Some number
    → fed (before ++ event ∷ []) number ≡ octets_with event (fed before number)
fed-more before event number e =
    fed-one before event number
    ∙ ap (λ b. fed before number ++ (if b then octets_of event else [])) (own event number e)
    ∙ octets_with-is event (fed before number)

-- another feeds it nothing
pub fed-other : (before : List Event) (event : Event) (number : ℕ) → is_of number event ≡ false → fed (before ++ event ∷ []) number ≡ fed before number
fed-other before event number e =
    fed-one before event number
    ∙ ap (λ b. fed before number ++ (if b then octets_of event else [])) e
    ∙ append-nil (fed before number)

-- ---- who is named

named-one : (before : List Event) (event : Event) (number : ℕ) → is_named (before ++ event ∷ []) number ≡ (is_named before number || is_of number event)
named-one before event number =
    list_any-append (is_of number) before (event ∷ []) ∙ ap (λ b. is_named before number || b) (or-false (is_of number event))

pub named-more : (before : List Event) (event : Event) (number : ℕ) → client_of event ≡ Some number → is_named (before ++ event ∷ []) number ≡ true
named-more before event number e = named-one before event number ∙ ap (λ b. is_named before number || b) (own event number e) ∙ or-true (is_named before number)

pub named-other : (before : List Event) (event : Event) (number : ℕ) → is_of number event ≡ false → is_named (before ++ event ∷ []) number ≡ is_named before number
named-other before event number e = named-one before event number ∙ ap (λ b. is_named before number || b) e ∙ or-false (is_named before number)

-- ---- whose input has ended

ended-one : (before : List Event) (event : Event) (number : ℕ) → has_ended (before ++ event ∷ []) number ≡ (has_ended before number || ends number event)
ended-one before event number =
    list_any-append (ends number) before (event ∷ []) ∙ ap (λ b. has_ended before number || b) (or-false (ends number event))

ended_with-is : (event : Event) (number : ℕ) (before : Bool) → client_of event ≡ Some number → (before || ends number event) ≡ ended_with event before
ended_with-is (End client) number before e = ap (λ b. before || b) (own (End client) number e) ∙ or-true before
ended_with-is (Feed client octets) number before e = or-false before
ended_with-is (Step client) number before e = or-false before
ended_with-is (Run client) number before e = or-false before
ended_with-is (Tick seconds) number before e = or-false before
ended_with-is (Gone target presents) number before e = or-false before
ended_with-is (Cut target) number before e = or-false before
ended_with-is (Slow target looks) number before e = or-false before

pub ended-more : (before : List Event) (event : Event) (number : ℕ) → client_of event ≡ Some number
    → has_ended (before ++ event ∷ []) number ≡ ended_with event (has_ended before number)
ended-more before event number e = ended-one before event number ∙ ended_with-is event number (has_ended before number) e

-- an event of another ends no input of this one
ends-other : (event : Event) (number : ℕ) → is_of number event ≡ false → ends number event ≡ false
ends-other (End client) number e = e
ends-other (Feed client octets) number e = refl
ends-other (Step client) number e = refl
ends-other (Run client) number e = refl
ends-other (Tick seconds) number e = refl
ends-other (Gone target presents) number e = refl
ends-other (Cut target) number e = refl
ends-other (Slow target looks) number e = refl

pub ended-other : (before : List Event) (event : Event) (number : ℕ) → is_of number event ≡ false → has_ended (before ++ event ∷ []) number ≡ has_ended before number
ended-other before event number e = ended-one before event number ∙ ap (λ b. has_ended before number || b) (ends-other event number e) ∙ or-false (has_ended before number)

-- ---- a client that is not named

fed_by-other : (events : List Event) (event : Event) (number : ℕ) (b : Bool) → b ≡ false → fed events number ≡ []
    → (if b then octets_of event else []) ++ fed events number ≡ []
fed_by-other events event number true e h = cc
fed_by-other events event number false e h = h

-- is fed nothing
pub unnamed-fed : (events : List Event) (number : ℕ) → is_named events number ≡ false → fed events number ≡ []
unnamed-fed [] number h = refl
unnamed-fed (event ∷ events) number h =
    let off = or_parts (is_of number event) (is_named events number) h in
    fed_by-other events event number (is_of number event) off.0 (unnamed-fed events number off.1)

-- and its input has not ended
pub unnamed-ended : (events : List Event) (number : ℕ) → is_named events number ≡ false → has_ended events number ≡ false
unnamed-ended [] number h = refl
unnamed-ended (event ∷ events) number h =
    let off = or_parts (is_of number event) (is_named events number) h in
    or_from (ends number event) (has_ended events number) (ends-other event number off.0) (unnamed-ended events number off.1)

-- ---- what may follow

-- octets may follow for a client whose input has not ended
pub feeds-open : (before : List Event) (number : ℕ) (octets : List ℕ) → may_follow before (Feed number octets) ≡ true → has_ended before number ≡ false
feeds-open before number octets h = not-true (has_ended before number) h

-- of events in order each may follow those before it
pub follows_at : (before events : List Event) (place : ℕ) (event : Event) → slice_get events place ≡ Some event → are_in_order before events ≡ true
    → may_follow (before ++ take place events) event ≡ true
follows_at before [] place event at order = absurd (none-some event at)
follows_at before (first ∷ events) zero event at order =
    let may = (and_parts (may_follow before first) (are_in_order (before ++ first ∷ []) events) order).0 in
    subst (λ (x : Event). may_follow (before ++ []) x ≡ true) (same_Some first event at)
    (subst (λ (es : List Event). may_follow es first ≡ true) (sym (append-nil before)) may)
follows_at before (first ∷ events) (suc place) event at order =
    let rest = (and_parts (may_follow before first) (are_in_order (before ++ first ∷ []) events) order).1 in
    subst (λ (es : List Event). may_follow es event ≡ true) (append_assoc before (first ∷ []) (take place events))
    (follows_at (before ++ first ∷ []) events place event at rest)

-- each is one that there may be
pub event_at : (targets : ℕ) (events : List Event) (place : ℕ) (event : Event) → slice_get events place ≡ Some event
    → AllByRecursion (IsEvent targets) events → IsEvent targets event
event_at targets [] place event at all = absurd (none-some event at)
event_at targets (first ∷ events) zero event at all = subst (λ (x : Event). IsEvent targets x) (same_Some first event at) all.0
event_at targets (first ∷ events) (suc place) event at all = event_at targets events place event at all.1

-- an event takes no more seconds than may be said
pub seconds_few : (event : Event) (targets : ℕ) → IsEvent targets event → seconds_of event ≤ most_amount
seconds_few (Feed client octets) targets h = omega arith
seconds_few (End client) targets h = omega arith
seconds_few (Step client) targets h = omega arith
seconds_few (Run client) targets h = omega arith
seconds_few (Tick seconds) targets h = h
seconds_few (Gone target presents) targets h = omega arith
seconds_few (Cut target) targets h = omega arith
seconds_few (Slow target looks) targets h = omega arith
