-- One item more of those that were taken from a list.
use Rattle.std.proofs.Common.{◌≡◌, ◌<◌, ◌+◌, ◌-◌, ℕ, List, [], ◌∷◌, ◌++◌, length, map, take, drop, get_or, Ok, Err, None, Some, Result, Option, ap, sym, ◌∙◌, append_assoc, arith}
use Rattle.std.specs.Prelude.{filter_map, option_to_list, slice_get}
use Rattle.std.specs.List.{cons_option}
use Rattle.std.proofs.lemmas.List.{take_more, take-append-drop, get_or-drop, get_or-take, length-take, take-take, map-append}
use Rattle.std.proofs.lemmas.List.Elements.{filter_map-append}
use Rattle.std.proofs.lemmas.Option.{slice_get_within, get_or_from_slice_get}
use Rattle.std.proofs.Common.{length-drop}
use Rattle.z_types.specs.declared.diagnostic.Diag.{Diag}
use Rattle.z_types.specs.MergedOrder.{Place, merged}
use Rattle.gateway_rules.specs.Targets.{all_or_first}
use Rattle.gateway_rules.specs.Outcomes.{places_from}
use Rattle.gw_outside.specs.declared.targets.TargetAnswer.TheVariants.{Good}
use Rattle.package_rules.specs.steps.Answers.{AnswersAsAny}
use Rattle.package_rules.proofs.AllOrFirst.{all_or_first-refused}

-- the item at a place comes behind those before it
pub take_next : {X : Type 0} (xs : List X) (i : ℕ) (d x : X) → i < length xs → get_or xs i d ≡ x
    → take (i + 1) xs ≡ take i xs ++ x ∷ []
take_next {X = X} xs i d x h e = take_more xs i d h ∙ ap (λ (y : X). take i xs ++ y ∷ []) e

-- a list is the items before a place, the one there, and the rest
pub parted : {X : Type 0} (xs : List X) (i : ℕ) (d x : X) → i < length xs → get_or xs i d ≡ x
    → xs ≡ take i xs ++ x ∷ drop (i + 1) xs
parted {X = X} xs i d x h e =
    sym (take-append-drop (i + 1) xs) ∙ ap (λ (ys : List X). ys ++ drop (i + 1) xs) (take_next xs i d x h e)
    ∙ append_assoc (take i xs) (x ∷ []) (drop (i + 1) xs)

-- ---- hits, leg by leg

-- one good answer more
pub goods_more : {X A : Type 0} (f : X → Result A Diag) (legs : List X) (i : ℕ) (d leg : X) (xs more : List A) (x : A)
    → i < length legs → get_or legs i d ≡ leg → map f (take i legs) ≡ map (λ y. Ok y) xs → f leg ≡ Ok x
    → more ≡ xs ++ x ∷ [] → map f (take (i + 1) legs) ≡ map (λ y. Ok y) more
goods_more {X = X} {A = A} f legs i d leg xs more x h e so_far good is =
    ap (map f) (take_next legs i d leg h e) ∙ map-append f (take i legs) (leg ∷ [])
    ∙ ap (λ (ys : List (Result A Diag)). ys ++ f leg ∷ []) so_far
    ∙ ap (λ (y : Result A Diag). map (λ z. Ok z) xs ++ y ∷ []) good
    ∙ sym (map-append (λ y. Ok y) xs (x ∷ [])) ∙ ap (map (λ y. Ok y)) (sym is)

-- the first diagnostic is that of all
pub goods_end : {X A : Type 0} (f : X → Result A Diag) (legs : List X) (i : ℕ) (d leg : X) (xs : List A) (diag : Diag)
    → i < length legs → get_or legs i d ≡ leg → map f (take i legs) ≡ map (λ y. Ok y) xs → f leg ≡ Err diag
    → all_or_first (map f legs) ≡ Err diag
goods_end {X = X} {A = A} f legs i d leg xs diag h e so_far refused =
    let rest : List (Result A Diag) = map f (drop (i + 1) legs) in
    ap (λ (ys : List X). all_or_first (map f ys)) (parted legs i d leg h e)
    ∙ ap all_or_first (map-append f (take i legs) (leg ∷ drop (i + 1) legs))
    ∙ ap (λ (ys : List (Result A Diag)). all_or_first (ys ++ f leg ∷ rest)) so_far
    ∙ ap (λ (y : Result A Diag). all_or_first (map (λ z. Ok z) xs ++ y ∷ rest)) refused
    ∙ all_or_first-refused xs diag rest

-- ---- records, place by place

-- the next place
pub next_place : (hits : List ℕ) (first behind position : ℕ) (place : Place) → 0 < first → position ≡ first + behind
    → slice_get (merged hits) (position - 1) ≡ Some place
    → (behind < length (drop (first - 1) (merged hits)))
    × (get_or (drop (first - 1) (merged hits)) behind place ≡ place)
next_place hits first behind position place counted is found =
    let same : position - 1 ≡ first - 1 + behind = omega arith in
    let here : slice_get (merged hits) (first - 1 + behind) ≡ Some place = rw same at found in
    let inside : first - 1 + behind < length (merged hits) = slice_get_within (merged hits) (first - 1 + behind) place here in (
      omega (arith, inside, length-drop (first - 1) (merged hits)),
      get_or-drop (first - 1) (merged hits) behind place
          ∙ get_or_from_slice_get (merged hits) (first - 1 + behind) place place here,
    )

-- the places from one on, and one more
pub places_more : (hits : List ℕ) (first behind position : ℕ) (place : Place) → 0 < first → position ≡ first + behind
    → slice_get (merged hits) (position - 1) ≡ Some place
    → places_from hits first (behind + 1) ≡ places_from hits first behind ++ place ∷ []
places_more hits first behind position place counted is found =
    let next = next_place hits first behind position place counted is found in
    take_next (drop (first - 1) (merged hits)) behind place place next.0 next.1

-- what a place's answer puts behind others
answer_put : {A : Type 0} (answer : Option A) (wanted : Option (Result A Diag)) → AnswersAsAny (Good answer) wanted
    → cons_option wanted [] ≡ map (λ y. Ok y) (option_to_list answer)
answer_put None wanted is = ap (λ w. cons_option w []) is
answer_put (Some x) wanted is = ap (λ w. cons_option w []) is

-- one place more
pub records_more : {A : Type 0} (f : Place → Option (Result A Diag)) (hits : List ℕ) (first behind position : ℕ)
    (place : Place) (xs more : List A) (answer : Option A) → 0 < first → position ≡ first + behind
    → slice_get (merged hits) (position - 1) ≡ Some place
    → filter_map f (places_from hits first behind) ≡ map (λ y. Ok y) xs → AnswersAsAny (Good answer) (f place)
    → more ≡ xs ++ option_to_list answer
    → filter_map f (places_from hits first (behind + 1)) ≡ map (λ y. Ok y) more
records_more {A = A} f hits first behind position place xs more answer counted is found so_far good put =
    ap (filter_map f) (places_more hits first behind position place counted is found)
    ∙ filter_map-append f (places_from hits first behind) (place ∷ [])
    ∙ ap (λ (ys : List (Result A Diag)). ys ++ cons_option (f place) []) so_far
    ∙ ap (λ (ys : List (Result A Diag)). map (λ y. Ok y) xs ++ ys) (answer_put answer (f place) good)
    ∙ sym (map-append (λ y. Ok y) xs (option_to_list answer)) ∙ ap (map (λ y. Ok y)) (sym put)

-- the first diagnostic is that of all places
pub records_end : {A : Type 0} (f : Place → Option (Result A Diag)) (hits : List ℕ) (first behind count position : ℕ)
    (place : Place) (xs : List A) (diag : Diag) → 0 < first → behind < count → position ≡ first + behind
    → slice_get (merged hits) (position - 1) ≡ Some place
    → filter_map f (places_from hits first behind) ≡ map (λ y. Ok y) xs → f place ≡ Some (Err diag)
    → all_or_first (filter_map f (places_from hits first count)) ≡ Err diag
records_end {A = A} f hits first behind count position place xs diag counted within is found so_far refused =
    let all : List Place = drop (first - 1) (merged hits) in
    let next = next_place hits first behind position place counted is found in
    let inside : behind < length (take count all) = omega (arith, length-take count all, next.0) in
    let here : get_or (take count all) behind place ≡ place = get_or-take count all behind place within ∙ next.1 in
    let front : take behind (take count all) ≡ take behind all = take-take behind count all (omega arith) in
    let rest : List Place = drop (behind + 1) (take count all) in
    ap (λ (ps : List Place). all_or_first (filter_map f ps)) (parted (take count all) behind place place inside here)
    ∙ ap (λ (ps : List Place). all_or_first (filter_map f (ps ++ place ∷ rest))) front
    ∙ ap all_or_first (filter_map-append f (take behind all) (place ∷ rest))
    ∙ ap (λ (ys : List (Result A Diag)). all_or_first (ys ++ cons_option (f place) (filter_map f rest))) so_far
    ∙ ap (λ (w : Option (Result A Diag)). all_or_first (map (λ y. Ok y) xs ++ cons_option w (filter_map f rest))) refused
    ∙ all_or_first-refused xs diag (filter_map f rest)
