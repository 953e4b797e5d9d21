-- Sets are found by their names, with or without their hits
use Rattle.std.proofs.Common.{◌≡◌, ℕ, List, [], ◌∷◌, ◌++◌, not, Result, Ok, Err, OnOk, find, map, option_map, refl, Bool, true, false, cond, Option, None, Some, slice_get, length, nat_lt, ◌∙◌, ap}
use Rattle.std.specs.List.{position, position_or_len}
use Rattle.std.proofs.lemmas.List.Folds.{find_at}
use Rattle.std.proofs.lemmas.Option.{slice_get_past}
use Rattle.std.proofs.lemmas.Bool.{ltb-false}
use Rattle.z_types.specs.declared.known_set.KnownSet.{KnownSet}
use Rattle.std.proofs.lemmas.List.{map-append}
use Rattle.z_sets.specs.Operands.{others_than}
use Rattle.z_types.specs.Same.{is_same}
use Rattle.z_sets.specs.Sets.{stored, set_named, with_set, without_set}

stored_one : (b : Bool) (set : KnownSet) (found : Option KnownSet) → option_map stored (cond b (Some set) found) ≡ cond b (Some (stored set)) (option_map stored found)
stored_one true set found = refl
stored_one false set found = refl

-- the set of a name, without its hits
pub set_named-map-stored : (name : List ℕ) (sets : List KnownSet) → set_named name (map stored sets) ≡ option_map stored (find (λ set. is_same set.name name) sets)
set_named-map-stored name [] = refl
set_named-map-stored name (set ∷ sets) =
    let rest = set_named-map-stored name sets in
    let one = stored_one (is_same set.name name) set (find (λ set. is_same set.name name) sets) in cc

some_place : (b : Bool) (k i : ℕ) → cond b (Some k) None ≡ Some i → k ≡ i
some_place true k i h = cc
some_place false k i h = cc

no_place : (b : Bool) (k : ℕ) → cond b (Some k) None ≡ None → b ≡ false
no_place true k h = cc
no_place false k h = refl

-- what stands at the first place is what is found
pub found_at_place : {X : Type 0} (p : X → Bool) (xs : List X) (i : ℕ) → position p xs ≡ Some i → find p xs ≡ slice_get xs i
found_at_place p xs i h =
    find_at p xs ∙ ap (slice_get xs) (some_place (nat_lt (position_or_len p xs) (length xs)) (position_or_len p xs) i h)

-- where there is no place, nothing is found
pub found_at_no_place : {X : Type 0} (p : X → Bool) (xs : List X) → position p xs ≡ None → find p xs ≡ None
found_at_no_place p xs h =
    let past = ltb-false _ _ (no_place (nat_lt (position_or_len p xs) (length xs)) (position_or_len p xs) h) in
    find_at p xs ∙ slice_get_past xs (position_or_len p xs) past

kept_one : (kept : Bool) (set : KnownSet) (sets : List KnownSet) → map stored (cond kept (set ∷ sets) sets) ≡ cond kept (stored set ∷ map stored sets) (map stored sets)
kept_one true set sets = refl
kept_one false set sets = refl

-- the sets of other names, without their hits
pub map-stored-others_than : (name : List ℕ) (sets : List KnownSet) → map stored (others_than name sets) ≡ without_set name (map stored sets)
map-stored-others_than name [] = refl
map-stored-others_than name (set ∷ sets) =
    kept_one (not (is_same set.name name)) set (others_than name sets)
    ∙ ap (λ rest. cond (not (is_same set.name name)) (stored set ∷ rest) rest) (map-stored-others_than name sets)

-- and a set behind them
pub map-stored-put : (set : KnownSet) (old new : List KnownSet) → new ≡ others_than set.name old ++ set ∷ [] → map stored new ≡ with_set (stored set) (map stored old)
map-stored-put set old new h =
    ap (map stored) h ∙ map-append stored (others_than set.name old) (set ∷ []) ∙ ap (λ rest. rest ++ stored set ∷ []) (map-stored-others_than set.name old)

-- what follows where a call succeeds
pub on_ok : {A E : Type 0} {P Q : Type 0} (r : Result A E) → (P → Q) → OnOk r P → OnOk r Q
on_ok (Ok x) f h = f h
on_ok (Err e) f h = tt
