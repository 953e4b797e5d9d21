-- Legs that are made, one leg more
use Rattle.std.proofs.Common.{◌≡◌, ◌∙◌, ◌<◌, ◌≤◌, ◌+◌, ℕ, List, [], ◌∷◌, ◌++◌, length, map, take, get_or, All, ap, sym, subst, arith}
use Rattle.std.specs.Prelude.{sum}
use Rattle.std.proofs.Math.Nat.{min-le_right}
use Rattle.std.proofs.Math.Seq.{take-length}
use Rattle.std.proofs.lemmas.List.{map-append}
use Rattle.z_types.specs.Bounds.{most_number}
use Rattle.z_types.specs.MergedOrder.{total}
use Rattle.package_rules.proofs.Taken.{take_next}
use Rattle.package_rules.specs.declared.spans.Span.{Span}
use Rattle.package_rules.specs.steps.Spans.{IsSpanOf}

-- what is made of one item more
pub made_more : {A B C : Type 0} (f : B → C) (g : A → B) (xs : List A) (i : ℕ) (d x : A) (made more : List C) → i < length xs
    → get_or xs i d ≡ x → made ≡ map f (map g (take i xs)) → more ≡ made ++ f (g x) ∷ []
    → more ≡ map f (map g (take (i + 1) xs))
made_more {A = A} {B = B} {C = C} f g xs i d x made more inside is so_far one =
    one ∙ ap (λ (ys : List C). ys ++ f (g x) ∷ []) so_far
    ∙ sym (ap (λ (ys : List A). map f (map g ys)) (take_next xs i d x inside is)
    ∙ ap (map f) (map-append g (take i xs) (x ∷ [])) ∙ map-append f (map g (take i xs)) (g x ∷ []))

-- of all items
pub made_all : {A B C : Type 0} (f : B → C) (g : A → B) (xs : List A) (i : ℕ) (made : List C) → i ≡ length xs
    → made ≡ map f (map g (take i xs)) → made ≡ map f (map g xs)
made_all {A = A} f g xs i made end so_far =
    so_far ∙ ap (λ (ys : List A). map f (map g ys)) (ap (λ (n : ℕ). take n xs) end ∙ take-length xs)

-- an item of lent ones, as of the list that they are lent from
pub item_holds : {A : Type 0} (P : A → Type 0) (xs lent : List A) (i : ℕ) (d : A) → All P xs → lent ≡ xs → i < length lent
    → P (get_or lent i d)
item_holds {A = A} P xs lent i d all same inside =
    subst (λ (ys : List A). P (get_or ys i d)) (sym same) (all i d (subst (λ (ys : List A). i < length ys) same inside))

-- records of legs with these hits are at positions that can be told
total_few : (hits : List ℕ) → total hits ≤ most_number
total_few hits = min-le_right (sum hits) most_number

pub span_told : (hits : List ℕ) (legs first count : ℕ) (span : Span) → length hits ≡ legs → first + count ≤ total hits + 1
    → IsSpanOf (length hits) (first + count) span → IsSpanOf legs (most_number + 1) span
span_told hits legs first count span same within is = record {
  leg = omega (arith, is.leg, same);
  from_one = is.from_one;
  some = is.some;
  within = omega (arith, is.within, within, total_few hits);
}
