-- flags of clients, as events come
use Rattle.std.proofs.Common.{◌≡◌, ◌<◌, ◌∙◌, ℕ, Bool, true, false, List, [], ◌∷◌, ◌++◌, ◌==◌, ◌||◌, inl, inr, length, slice_set, Option, Some, refl, sym, ap, subst, arith}
use Rattle.std.specs.Option.{option_map_or}
use Rattle.std.proofs.Math.ListN.{length-set}
use Rattle.std.proofs.lemmas.Bool.{cases_eq, eq-eqb, ne_eqb, or_right}
use Rattle.std.proofs.lemmas.Grind.{get_or-set_at}
use Rattle.std.proofs.lemmas.List.{get_or-set_other}
use Rattle.std.proofs.lemmas.List.Folds.{list_any-append}
use Rattle.std.proofs.lemmas.Option.{unwrap_or-slice_get}
use Rattle.script.specs.declared.event.Event.{Event}
use Rattle.script.specs.declared.event.Event.TheVariants.{Feed, End, Step, Run, Tick, Gone, Cut, Slow}
use Rattle.script.specs.Events.{IsEvent, most_clients, ended_by, ends, has_ended}
use Rattle.script.specs.Flags.{flag_of, AreEnded}

or_off : (a b : Bool) → b ≡ false → (a || b) ≡ a
or_off true b e = refl
or_off false b e = e

-- an event more ends the inputs that had ended, and that of its own client where it ends one
has_ended-more : (events : List Event) (event : Event) (client : ℕ) (own : Option ℕ) → own ≡ ended_by event
    → has_ended (events ++ event ∷ []) client ≡ (has_ended events client || option_map_or (λ o. o == client) own false)
has_ended-more events event client own e =
    list_any-append (ends client) events (event ∷ [])
    ∙ ap (λ b. has_ended events client || b) (or_off (ends client event) false refl)
    ∙ ap (λ o. has_ended events client || option_map_or (λ x. x == client) o false) (sym e)

-- a flag that is set
flag_of-set : (flags : List Bool) (place client : ℕ) → place < length flags → flag_of (slice_set flags place true) client ≡ (flag_of flags client || (place == client))
flag_of-set flags place client within =
    elim (cases_eq place client) [
      | inl e ↦ unwrap_or-slice_get (slice_set flags place true) client false ∙ get_or-set_at flags place client true false (sym e) within
          ∙ sym (or_right (flag_of flags client) (place == client) (eq-eqb place client e))
      | inr ne ↦ unwrap_or-slice_get (slice_set flags place true) client false ∙ get_or-set_other flags place client true false (λ x. ne (sym x))
          ∙ sym (unwrap_or-slice_get flags client false) ∙ sym (or_off (flag_of flags client) (place == client) (ne_eqb place client ne))
    ]

-- the flag of an event that ends an input is set
pub flags_more : (events : List Event) (event : Event) (flags : List Bool) (place : ℕ) → Some place ≡ ended_by event → place < length flags
    → AreEnded events flags → AreEnded (events ++ event ∷ []) (slice_set flags place true)
flags_more events event flags place e within h client =
    flag_of-set flags place client within ∙ ap (λ b. b || (place == client)) (h client)
    ∙ sym (has_ended-more events event client (Some place) e)

-- a flag that is set leaves as many
pub room_same : (flags : List Bool) (place : ℕ) → most_clients < length flags → most_clients < length (slice_set flags place true)
room_same flags place h = subst (λ count. most_clients < count) (sym (length-set flags place true)) h

-- the client of an event that ends an input has a flag
pub ended_within : (targets : ℕ) (event : Event) (place : ℕ) (flags : List Bool) → Some place ≡ ended_by event → IsEvent targets event → most_clients < length flags → place < length flags
ended_within targets (End client) place flags e h room = let same : place ≡ client = cc in omega (arith, same, h.1, room)
ended_within targets (Feed client octets) place flags e h room = cc
ended_within targets (Step client) place flags e h room = cc
ended_within targets (Run client) place flags e h room = cc
ended_within targets (Tick seconds) place flags e h room = cc
ended_within targets (Gone target presents) place flags e h room = cc
ended_within targets (Cut target) place flags e h room = cc
ended_within targets (Slow target looks) place flags e h room = cc
