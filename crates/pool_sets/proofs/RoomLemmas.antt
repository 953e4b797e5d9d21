-- Room in a table
use Rattle.std.proofs.Common.{◌≡◌, ◌≢◌, ◌<◌, ◌≤◌, ◌+◌, ℕ, zero, suc, Bool, true, false, not, ◌∙◌, cond, List, [], ◌∷◌, map, length, All, None, Some, refl, sym, ap, subst, nat_eq, arith}
use Rattle.std.specs.List.{AllByRecursion, IsDistinct, list_any, range_with_len}
use Rattle.std.specs.Map.{keys_of, lookup_entry}
use Rattle.std.proofs.lemmas.Bool.{eqb-true, not-true, false_from_ne_true}
use Rattle.pool_sets.specs.declared.table.HeldSet.{HeldSet}
use Rattle.std.proofs.lemmas.List.{length-map}
use Rattle.std.proofs.lemmas.List.FromFn.{get_or-range_with_len, length-range_with_len}
use Rattle.std.proofs.lemmas.Map.Steps.{length-le_from_distinct_below}
use Rattle.z_types.specs.equality.Tests.{both_true}
use Rattle.pool_sets.specs.Table.{Entry, Table, is_free, free_slot, last_slot, without, after_forget}
use Rattle.pool_sets.specs.Entries.{HasSlots, IsRoom, slots_of}
use Rattle.pool_sets.proofs.KeptLemmas.{head_of, rest_of, found_holds}
use Rattle.pool_sets.proofs.TableLemmas.{find_passes}
use Rattle.pool_sets.specs.TableView.{entry_of}

-- a free slot is none of the keys
pub free_keys : (slot : ℕ) (es : List (ℕ × HeldSet)) → All (λ (e : Entry). e.slot ≢ slot) (map entry_of es) → AllByRecursion (λ k. nat_eq slot k ≡ false) (keys_of es)
free_keys slot [] a = tt
free_keys slot (e ∷ es) a = (false_from_ne_true (nat_eq slot e.0) (λ h. head_of (λ (f : Entry). f.slot ≢ slot) (entry_of e) (map entry_of es) a (sym (eqb-true slot e.0 h))), free_keys slot es (rest_of (λ (f : Entry). f.slot ≢ slot) (entry_of e) (map entry_of es) a))

-- and finds nothing
pub finds_none : (slot : ℕ) (es : List (ℕ × HeldSet)) → AllByRecursion (λ k. nat_eq slot k ≡ false) (keys_of es) → lookup_entry (nat_eq slot) es ≡ None
finds_none slot [] a = refl
finds_none slot (e ∷ es) a = rw a.0 (finds_none slot es a.1)

-- the slots of a table are the keys of its cache
pub slots_are_keys : (es : List (ℕ × HeldSet)) → slots_of (map entry_of es) ≡ keys_of es
slots_are_keys [] = refl
slots_are_keys (e ∷ es) = ap (λ r. e.0 ∷ r) (slots_are_keys es)

-- a free slot is none of the slots
free_of_slots : (slot : ℕ) (es : List Entry) → is_free es slot ≡ true → AllByRecursion (λ k. nat_eq slot k ≡ false) (slots_of es)
free_of_slots slot [] h = tt
free_of_slots slot (e ∷ es) h =
    let w = both_true (not (nat_eq slot e.slot)) (is_free es slot) h in
    (not-true (nat_eq slot e.slot) w.0, free_of_slots slot es w.1)

same_is_equal : (a b : ℕ) → a ≡ b → nat_eq b a ≡ true
same_is_equal a b e = grind arith

not_both : (b : Bool) → b ≡ true → b ≡ false → ⊥
not_both b h k = cc

-- and no set has it
free_is_none : (slot : ℕ) (es : List Entry) → AllByRecursion (λ k. nat_eq slot k ≡ false) (slots_of es) → All (λ (e : Entry). e.slot ≢ slot) es
free_is_none slot [] a k d h = absurd (omega arith)
free_is_none slot (e ∷ es) a zero d h = λ k. not_both (nat_eq slot e.slot) (same_is_equal e.slot slot k) a.0
free_is_none slot (e ∷ es) a (suc k) d h = free_is_none slot es a.1 k d (omega arith)

-- what is among numbers below n is below it
among_below : (q n : ℕ) (xs : List ℕ) → AllByRecursion (λ x. x < n) xs → list_any (nat_eq q) xs ≡ true → q < n
among_below q n [] a h = cc
among_below q n (x ∷ xs) a h = (elim (nat_eq q x) as (λ b. nat_eq q x ≡ b → q < n) [
  | true ↦ λ t. subst (λ z. z < n) (sym (eqb-true q x t)) a.0
  | false ↦ λ t. among_below q n xs a.1 (rw t at h)
]) refl

one_fewer : (a b n : ℕ) → suc a ≤ n → a ≡ b → b < n
one_fewer a b n h e = omega arith

-- a free slot below the number of sets has room
pub room_at : (t : Table) (slot : ℕ) → HasSlots t → slot < t.most → is_free t.entries slot ≡ true → IsRoom t slot
unfolding IsDistinct
room_at t slot s within free =
    let apart = free_of_slots slot t.entries free in
    let most = length-le_from_distinct_below (slot ∷ slots_of t.entries) t.most (apart, s.distinct) (λ q h. among_below q t.most (slot ∷ slots_of t.entries) (within, s.below) h) in
    record {
      within = within;
      free = free_is_none slot t.entries apart;
      fewer = one_fewer (length (slots_of t.entries)) (length t.entries) t.most most (length-map t.entries (λ (e : Entry). e.slot));
    }

zero_and : (k : ℕ) → 0 + k ≡ k
zero_and k = omega arith

range_below : (n : ℕ) → All (λ x. x < n) (range_with_len 0 n)
range_below n k d h =
    let within : k < n = subst (λ m. k < m) (length-range_with_len 0 n) h in
    subst (λ z. z < n) (sym (get_or-range_with_len 0 n k d within ∙ zero_and k)) within

-- the least free slot has room
pub room_at_free : (t : Table) (slot : ℕ) → HasSlots t → Some slot ≡ free_slot t → IsRoom t slot
room_at_free t slot s h =
    room_at t slot s (found_holds (λ x. x < t.most) (is_free t.entries) (range_with_len 0 t.most) slot (range_below t.most) (sym h)) (find_passes (is_free t.entries) (range_with_len 0 t.most) slot (sym h))

-- what holds of each slot holds without a set
all_without : (P : ℕ → Type 0) (slot : ℕ) (es : List Entry) → AllByRecursion P (slots_of es) → AllByRecursion P (slots_of (without slot es))
all_without P slot [] a = tt
all_without P slot (e ∷ es) a =
    (elim (nat_eq slot e.slot) as (λ b. AllByRecursion P (slots_of (cond (not b) (e ∷ without slot es) (without slot es)))) [
      | true ↦ all_without P slot es a.1
      | false ↦ (a.0, all_without P slot es a.1)
    ])

distinct_without : (slot : ℕ) (es : List Entry) → IsDistinct nat_eq (slots_of es) → IsDistinct nat_eq (slots_of (without slot es))
unfolding IsDistinct
distinct_without slot [] d = tt
distinct_without slot (e ∷ es) d =
    (elim (nat_eq slot e.slot) as (λ b. IsDistinct nat_eq (slots_of (cond (not b) (e ∷ without slot es) (without slot es)))) [
      | true ↦ distinct_without slot es d.1
      | false ↦ (all_without (λ k. nat_eq e.slot k ≡ false) slot es d.0, distinct_without slot es d.1)
    ])

free_without : (slot : ℕ) (es : List Entry) → is_free (without slot es) slot ≡ true
free_without slot [] = refl
free_without slot (e ∷ es) = (elim (nat_eq slot e.slot) as (λ b. nat_eq slot e.slot ≡ b → is_free (cond (not b) (e ∷ without slot es) (without slot es)) slot ≡ true) [
  | true ↦ λ t. free_without slot es
  | false ↦ λ t. rw t (free_without slot es)
]) refl

last_below : (n : ℕ) (es : List Entry) → 0 < n → AllByRecursion (λ slot. slot < n) (slots_of es) → last_slot es < n
last_below n [] some a = some
last_below n (e ∷ []) some a = a.0
last_below n (e ∷ (f ∷ es)) some a = last_below n (f ∷ es) some a.1

-- so has the slot of the least recently used set, once that is forgotten
pub room_at_last : (t : Table) → HasSlots t → IsRoom (after_forget (last_slot t.entries) t) (last_slot t.entries)
room_at_last t s =
    let slot = last_slot t.entries in
    room_at (after_forget slot t) slot (record {
      some = s.some;
      below = all_without (λ k. k < t.most) slot t.entries s.below;
      distinct = distinct_without slot t.entries s.distinct;
    }) (last_below t.most t.entries s.some s.below) (free_without slot t.entries)
