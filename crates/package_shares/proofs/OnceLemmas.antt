-- Numbers of legs, each once, that go to different classes
use Rattle.std.proofs.Common.{◌≡◌, ◌∙◌, ◌||◌, ◌+◌, ◌⊎◌, ℕ, zero, suc, ◌<◌, Bool, true, false, cond, inl, inr, List, [], ◌∷◌, map, length, get_or, Contains, refl, sym, ap, subst, nat_eq, arith}
use Rattle.std.specs.Cmp.{nat_eq_equiv}
use Rattle.std.specs.List.{AllByRecursion, IsDistinct, list_any, range_with_len}
use Rattle.std.specs.Set.{unique_keys}
use Rattle.std.proofs.lemmas.Bool.{eqb-true}
use Rattle.std.proofs.Math.Bool.{or-true}

-- two that are true together are the same
pub same-truth : (a b : Bool) → (a ≡ true → b ≡ true) → (b ≡ true → a ≡ true) → a ≡ b
same-truth true b there back = sym (there refl)
same-truth false true there back = back refl
same-truth false false there back = refl

-- ---- a number among others

pub among-contains : (xs : List ℕ) (x : ℕ) → Contains xs x → list_any (nat_eq x) xs ≡ true
among-contains [] x (i, inside, is) = absurd (omega (arith, inside))
among-contains (y ∷ xs) x (zero, inside, is) =
    ap (λ (b : Bool). b || list_any (nat_eq x) xs) (ap (λ (z : ℕ). nat_eq x z) is ∙ nat_eq_equiv.refl x)
among-contains (y ∷ xs) x (suc i, inside, is) =
    ap (λ (b : Bool). nat_eq x y || b) (among-contains xs x (i, omega (arith, inside), is)) ∙ or-true (nat_eq x y)

-- what holds of all holds of one that is among them
pub among-each : (P : ℕ → Type 0) (xs : List ℕ) (x : ℕ) → AllByRecursion P xs → list_any (nat_eq x) xs ≡ true → P x
among-each P [] x each is = absurd cc
among-each P (y ∷ xs) x each is =
    (elim (nat_eq x y) as (λ (b : Bool). nat_eq x y ≡ b → (b || list_any (nat_eq x) xs) ≡ true → P x) [
      | true ↦ λ e h. subst P (sym (eqb-true x y e)) each.0
      | false ↦ λ e h. among-each P xs x each.1 h
    ]) refl is

-- ---- each once

unique-each : (P : ℕ → Type 0) (xs : List ℕ) → AllByRecursion P xs → AllByRecursion P (unique_keys nat_eq xs)
unique-each P [] each = tt
unique-each P (x ∷ xs) each =
    (elim (list_any (nat_eq x) xs) as (λ (b : Bool). AllByRecursion P (cond b (unique_keys nat_eq xs) (x ∷ unique_keys nat_eq xs))) [
      | true ↦ unique-each P xs each.1
      | false ↦ (each.0, unique-each P xs each.1)
    ])

pub each-unique : (P : ℕ → Type 0) (xs : List ℕ) → AllByRecursion P xs → AllByRecursion P (unique_keys nat_eq xs)
each-unique P xs each = unique-each P xs each

-- none of them is the number
pub none-among : (x : ℕ) (xs : List ℕ) → list_any (nat_eq x) xs ≡ false → AllByRecursion (λ y. nat_eq x y ≡ false) xs
none-among x [] none = tt
none-among x (y ∷ xs) none =
    (elim (nat_eq x y) as (λ (b : Bool). nat_eq x y ≡ b → (b || list_any (nat_eq x) xs) ≡ false → AllByRecursion (λ z. nat_eq x z ≡ false) (y ∷ xs)) [
      | true ↦ λ e h. absurd cc
      | false ↦ λ e h. (e, none-among x xs h)
    ]) refl none

pub unique-distinct : (xs : List ℕ) → IsDistinct nat_eq (unique_keys nat_eq xs)
unfolding IsDistinct
unique-distinct [] = tt
unique-distinct (x ∷ xs) =
    (elim (list_any (nat_eq x) xs) as (λ (b : Bool). list_any (nat_eq x) xs ≡ b → IsDistinct nat_eq (cond b (unique_keys nat_eq xs) (x ∷ unique_keys nat_eq xs))) [
      | true ↦ λ e. unique-distinct xs
      | false ↦ λ e. (unique-each (λ y. nat_eq x y ≡ false) xs (none-among x xs e), unique-distinct xs)
    ]) refl

-- whether one is among them stays
pub unique-among : (xs : List ℕ) (x : ℕ) → list_any (nat_eq x) (unique_keys nat_eq xs) ≡ list_any (nat_eq x) xs
unique-among [] x = refl
unique-among (y ∷ xs) x =
    (elim (list_any (nat_eq y) xs) as (λ (b : Bool). list_any (nat_eq y) xs ≡ b → list_any (nat_eq x) (cond b (unique_keys nat_eq xs) (y ∷ unique_keys nat_eq xs)) ≡ (nat_eq x y || list_any (nat_eq x) xs)) [
      | true ↦ λ e. unique-among xs x ∙
          (elim (nat_eq x y) as (λ (c : Bool). nat_eq x y ≡ c → list_any (nat_eq x) xs ≡ (c || list_any (nat_eq x) xs)) [
            | true ↦ λ f. subst (λ (z : ℕ). list_any (nat_eq z) xs ≡ true) (sym (eqb-true x y f)) e
            | false ↦ λ f. refl
          ]) refl
      | false ↦ λ e. ap (λ (c : Bool). nat_eq x y || c) (unique-among xs x)
    ]) refl

-- ---- legs that go to different classes

module _ (class_of : ℕ → ℕ) where
  legs-differ : (x : ℕ) (xs : List ℕ) → AllByRecursion (λ k. nat_eq (class_of x) k ≡ false) (map class_of xs)
      → AllByRecursion (λ y. nat_eq x y ≡ false) xs
  legs-differ x [] apart = tt
  legs-differ x (y ∷ xs) apart = (
    (elim (nat_eq x y) as (λ (b : Bool). nat_eq x y ≡ b → b ≡ false) [
      | true ↦ λ e.
          let same : nat_eq (class_of x) (class_of y) ≡ true =
          ap (λ (z : ℕ). nat_eq (class_of x) (class_of z)) (sym (eqb-true x y e)) ∙ nat_eq_equiv.refl (class_of x) in
          let differ = apart.0 in absurd cc
      | false ↦ λ e. refl
    ]) refl,
    legs-differ x xs apart.1,
  )

  none-is : (x : ℕ) (xs : List ℕ) → AllByRecursion (λ y. nat_eq x y ≡ false) xs → list_any (nat_eq x) xs ≡ false
  none-is x [] none = refl
  none-is x (y ∷ xs) none = ap (λ (b : Bool). b || list_any (nat_eq x) xs) none.0 ∙ none-is x xs none.1

  -- they differ
  pub apart-distinct : (xs : List ℕ) → IsDistinct nat_eq (map class_of xs) → IsDistinct nat_eq xs
  unfolding IsDistinct
  apart-distinct [] apart = tt
  apart-distinct (x ∷ xs) apart = (legs-differ x xs apart.0, apart-distinct xs apart.1)

  -- and each stands once
  pub apart-unique : (xs : List ℕ) → IsDistinct nat_eq (map class_of xs) → unique_keys nat_eq xs ≡ xs
  unfolding IsDistinct
  apart-unique [] apart = refl
  apart-unique (x ∷ xs) apart =
      ap (λ (b : Bool). cond b (unique_keys nat_eq xs) (x ∷ unique_keys nat_eq xs)) (none-is x xs (legs-differ x xs apart.0))
      ∙ ap (λ (ys : List ℕ). x ∷ ys) (apart-unique xs apart.1)

  -- one of the legs goes to a class, or none does
  pub record IsTheOne (class : ℕ) (xs : List ℕ) : Type 0 where
    pub leg : ℕ
    pub own : class_of leg ≡ class
    pub only : AllByRecursion (λ x. nat_eq (class_of x) class ≡ true → x ≡ leg) xs

  abbrev pub IsOfNone : ℕ → List ℕ → Type 0
  IsOfNone class xs = AllByRecursion (λ x. nat_eq (class_of x) class ≡ false) xs

  only-differ : (class x : ℕ) (xs : List ℕ) → class_of x ≡ class → AllByRecursion (λ k. nat_eq (class_of x) k ≡ false) (map class_of xs)
      → AllByRecursion (λ y. nat_eq (class_of y) class ≡ true → y ≡ x) xs
  only-differ class x [] own apart = tt
  only-differ class x (y ∷ xs) own apart = (
    λ e.
        let same : nat_eq (class_of x) (class_of y) ≡ true =
        ap (λ (c : ℕ). nat_eq c (class_of y)) own ∙ nat_eq_equiv.symm class (class_of y) ∙ e in
        let differ = apart.0 in absurd cc,
    only-differ class x xs own apart.1,
  )

  pub one-or-none : (class : ℕ) (xs : List ℕ) → IsDistinct nat_eq (map class_of xs) → IsTheOne class xs ⊎ IsOfNone class xs
  unfolding IsDistinct
  one-or-none class [] apart = inr tt
  one-or-none class (x ∷ xs) apart =
      (elim (nat_eq (class_of x) class) as (λ (b : Bool). nat_eq (class_of x) class ≡ b → IsTheOne class (x ∷ xs) ⊎ IsOfNone class (x ∷ xs)) [
        | true ↦ λ e.
            let own : class_of x ≡ class = eqb-true (class_of x) class e in
            inl (record { leg = x; own = own; only = (λ f. refl, only-differ class x xs own apart.0) })
        | false ↦ λ e. more class x xs e (one-or-none class xs apart.1)
      ]) refl
    where
      more : (class x : ℕ) (xs : List ℕ) → nat_eq (class_of x) class ≡ false → IsTheOne class xs ⊎ IsOfNone class xs
          → IsTheOne class (x ∷ xs) ⊎ IsOfNone class (x ∷ xs)
      more class x xs e (inl one) = inl (record { leg = one.leg; own = one.own; only = (λ f. absurd cc, one.only) })
      more class x xs e (inr none) = inr (e, none)

-- ---- places

-- what a function gives at each place of a range is what it gives of the items
pub range-map : (g at : ℕ → ℕ) (xs : List ℕ) (from : ℕ) → ((j : ℕ) → j < length xs → at (from + j) ≡ get_or xs j 0)
    → map (λ i. g (at i)) (range_with_len from (length xs)) ≡ map g xs
range-map g at [] from same = refl
range-map g at (x ∷ xs) from same =
    ap (λ (y : ℕ). g y ∷ map (λ i. g (at i)) (range_with_len (from + 1) (length xs)))
    (ap at (let e : from ≡ from + 0 = omega arith in e) ∙ same 0 (omega arith))
    ∙ ap (λ (ys : List ℕ). g x ∷ ys)
    (range-map g at xs (from + 1)
    (λ j inside. ap at (let e : from + 1 + j ≡ from + suc j = omega arith in e) ∙ same (suc j) (omega (arith, inside))))
