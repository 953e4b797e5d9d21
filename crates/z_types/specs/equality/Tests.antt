-- For proofs alone: tests and copies of lists, options, numbers and yes or no are exact
-- (this project's own)
use Rattle.std.specs.Prelude.{◌≡◌, ℕ, Bool, true, false, ◌&&◌, ◌==◌, [], ◌∷◌, refl, Option, None, Some}
use Rattle.std.specs.List.{AllZip}
use Rattle.std.specs.Option.{option_eq}
use Rattle.std.specs.Ordering.{int_eq}
use Rattle.std.specs.Cmp.{IsEquivalence}
use Rattle.std.proofs.Common.{subst, sym, ap}
use Rattle.std.proofs.lemmas.Bool.{eqb-true}
use Rattle.std.proofs.lemmas.Bool.Decides.{Decides-int_eq}
use Rattle.std.proofs.lemmas.List.Elements.{same_from_all_zip}
use mathlib.Core.Bool.{beq}
use lib.Pointwise.{pointwise}
use Rattle.z_types.specs.Exact.{EqIsExact, CloneIsExact}

-- where both tests pass, each does
pub both_true : (a b : Bool) → (a && b) ≡ true → (a ≡ true) × (b ≡ true)
both_true true b h = (refl, h)
both_true false b h = cc

-- a copy that is said to be its source is exact
pub itself_cloned : {T : Type 0} → CloneIsExact (λ (a b : T). b ≡ a)
itself_cloned a b h = h

pub numbers_exact : EqIsExact {T = ℕ} ◌==◌
numbers_exact a b h = eqb-true a b h

pub ints_exact : EqIsExact int_eq
ints_exact a b h = (Decides-int_eq a b).0 h

pub bools_exact : EqIsExact {T = Bool} beq
bools_exact true true h = refl
bools_exact false false h = refl
bools_exact true false h = cc
bools_exact false true h = cc

pub lists_exact : {T : Type 0} {eq : T → T → Bool} → EqIsExact eq → EqIsExact (pointwise eq)
lists_exact e [] [] h = refl
lists_exact e [] (y ∷ ys) h = cc
lists_exact e (x ∷ xs) [] h = cc
lists_exact {T} {eq} e (x ∷ xs) (y ∷ ys) h =
    let p = both_true (eq x y) (pointwise eq xs ys) h in
    let q = e x y p.0 in
    let r = lists_exact {eq = eq} e xs ys p.1 in cc

pub lists_cloned : {T : Type 0} {is_clone : T → T → Type 0} → CloneIsExact is_clone
    → CloneIsExact (AllZip is_clone)
lists_cloned {T} {is_clone} e xs ys h = same_from_all_zip is_clone xs ys h e

pub text_exact : EqIsExact (pointwise ◌==◌)
text_exact = lists_exact (λ a b h. eqb-true a b h)

pub options_exact : {T : Type 0} {eq : T → T → Bool} → EqIsExact eq → EqIsExact (option_eq eq)
options_exact e None None h = refl
options_exact e None (Some y) h = cc
options_exact e (Some x) None h = cc
options_exact e (Some x) (Some y) h = ap Some (e x y h)

-- an option is copied as its value is
abbrev pub option_is_clone : {T : Type 0} → (T → T → Type 0) → Option T → Option T → Type 0
option_is_clone is_clone None None = Unit {0}
option_is_clone is_clone None (Some y) = ⊥
option_is_clone is_clone (Some x) None = ⊥
option_is_clone is_clone (Some x) (Some y) = is_clone x y

pub options_cloned : {T : Type 0} {is_clone : T → T → Type 0} → CloneIsExact is_clone
    → CloneIsExact (option_is_clone is_clone)
options_cloned e None None h = refl
options_cloned e None (Some y) h = absurd h
options_cloned e (Some x) None h = absurd h
options_cloned e (Some x) (Some y) h = ap Some (e x y h)

one_truth : (a b : Bool) → (a ≡ true → b ≡ true) → (b ≡ true → a ≡ true) → a ≡ b
one_truth true true f g = refl
one_truth false false f g = refl
one_truth true false f g = sym (f refl)
one_truth false true f g = g refl

-- an exact test that passes each value with itself is an equivalence
pub exact_equiv : {T : Type 0} {eq : T → T → Bool} → EqIsExact eq → ((a : T) → eq a a ≡ true)
    → IsEquivalence eq
exact_equiv {T} {eq} e r = record {
  refl = r;
  symm = λ x y. one_truth (eq x y) (eq y x)
      (λ h. subst (λ (z : T). eq z x ≡ true) (e x y h) (r x))
      (λ h. subst (λ (z : T). eq z y ≡ true) (e y x h) (r y));
  congr = λ x y z h. subst (λ (w : T). eq x z ≡ eq w z) (e x y h) refl;
}
