-- Works of a kind
use Rattle.std.proofs.Common.{◌≡◌, ◌∙◌, ℕ, List, [], ◌∷◌, ◌++◌, length, Option, ap, sym, refl, arith}
use Rattle.std.proofs.lemmas.List.{length-append}
use Rattle.z_types.specs.declared.query.RpnQuery.{RpnQuery}
use Rattle.z_types.specs.declared.work.Work.{Work}
use Rattle.z_types.specs.declared.work.Work.TheVariants as work
use Rattle.package.specs.steps.Kinds.{IsFetch, IsSearch}

pub search_is : (w : Work) → IsSearch w
    → ((login : Option (List ℕ)) (legs : List ℕ) (query : RpnQuery) (small large medium : ℕ) (small_element medium_element : Option (List ℕ))
    (syntax : Option (List ℕ)) (room : ℕ)
    → w ≡ work.Search login legs query small large medium small_element medium_element syntax room → ⊥) → ⊥
search_is (work.Search login legs query small large medium small_element medium_element syntax room) kind never =
    never login legs query small large medium small_element medium_element syntax room refl
search_is (work.Fetch login legs query hits first count syntax element) kind never = absurd kind
search_is (work.Scan login leg ask) kind never = absurd kind

pub fetch_is : (w : Work) → IsFetch w
    → ((login : Option (List ℕ)) (legs : List ℕ) (query : RpnQuery) (hits : List ℕ) (first count : ℕ) (syntax element : Option (List ℕ))
    → w ≡ work.Fetch login legs query hits first count syntax element → ⊥) → ⊥
fetch_is (work.Search login legs query small large medium small_element medium_element syntax room) kind never = absurd kind
fetch_is (work.Fetch login legs query hits first count syntax element) kind never = never login legs query hits first count syntax element refl
fetch_is (work.Scan login leg ask) kind never = absurd kind

-- the last of one item is that item
single_by : {A : Type 0} (new : List A) (x : A) → length (new ++ x ∷ []) ≡ 1 → new ++ x ∷ [] ≡ x ∷ []
single_by [] x one = refl
single_by (y ∷ new) x one = absurd (omega (arith, one, length-append new (x ∷ [])))

pub single : {A : Type 0} (xs new : List A) (x : A) → xs ≡ new ++ x ∷ [] → length xs ≡ 1 → xs ≡ x ∷ []
single {A = A} xs new x is one = is ∙ single_by new x (ap (λ (ys : List A). length ys) (sym is) ∙ one)
