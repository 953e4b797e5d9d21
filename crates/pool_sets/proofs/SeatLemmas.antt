-- How often a seat is out of a list of sessions
use Rattle.std.proofs.Common.{◌≡◌, ◌==◌, ◌&&◌, ◌∙◌, ℕ, ◌+◌, ◌≤◌, Bool, true, false, not, cond, List, [], ◌∷◌, ◌++◌, map, filter, count_by, refl, sym, ap, arith}
use Rattle.std.proofs.lemmas.Bool.{eqb-true}
use Rattle.std.proofs.lemmas.List.Sums.{sum_by-append, sum_by-cons}
use Rattle.z_types.specs.equality.Tests.{both_true}
use Rattle.pool_sets.specs.declared.doors.Seat.{Seat}
use Rattle.pool_sets.specs.Sessions.{Session, is_out}
use Rattle.pool_sets.specs.Plain.{Ascends, is_seat}

-- ---- how many pass a test

module _ {X : Type 0} (p : X → Bool) where
  pub count-cons : (x : X) (xs : List X) → count_by p (x ∷ xs) ≡ cond (p x) 1 0 + count_by p xs
  count-cons x xs = sum_by-cons (λ (y : X). cond (p y) 1 0) x xs

  -- by what the first is
  pub count-first : (x : X) (xs : List X) (b : Bool) → p x ≡ b → count_by p (x ∷ xs) ≡ cond b 1 0 + count_by p xs
  count-first x xs b e = count-cons x xs ∙ ap (λ (c : Bool). cond c 1 0 + count_by p xs) e

  pub count-append : (xs ys : List X) → count_by p (xs ++ ys) ≡ count_by p xs + count_by p ys
  count-append xs ys = sum_by-append (λ (y : X). cond (p y) 1 0) xs ys

  -- items that are changed, and pass as before
  pub count-map : (f : X → X) → ((x : X) → p (f x) ≡ p x) → (xs : List X) → count_by p (map f xs) ≡ count_by p xs
  count-map f same [] = refl
  count-map f same (x ∷ xs) =
      count-first (f x) (map f xs) (p x) (same x) ∙ ap (λ (n : ℕ). cond (p x) 1 0 + n) (count-map f same xs) ∙ sym (count-cons x xs)

  -- and pass no more
  pub count-lost : (f : X → X) → ((x : X) → p (f x) ≡ false) → (xs : List X) → count_by p (map f xs) ≡ 0
  count-lost f none [] = refl
  count-lost f none (x ∷ xs) = count-first (f x) (map f xs) false (none x) ∙ ap (λ (n : ℕ). 0 + n) (count-lost f none xs)

  -- items are dropped, and none that passes
  pub count-filter : (k : X → Bool) → ((x : X) → p x ≡ true → k x ≡ true) → (xs : List X) → count_by p (filter k xs) ≡ count_by p xs
  count-filter k stays_ [] = refl
  count-filter k stays_ (x ∷ xs) = (elim (k x) as (λ (b : Bool). k x ≡ b → count_by p (cond b (x ∷ filter k xs) (filter k xs)) ≡ count_by p (x ∷ xs)) [
    | true ↦ λ e.
        count-cons x (filter k xs) ∙ ap (λ (n : ℕ). cond (p x) 1 0 + n) (count-filter k stays_ xs) ∙ sym (count-cons x xs)
    | false ↦ λ e. let one = count-first x xs false (passes-not x e) in let rest = count-filter k stays_ xs in omega (arith, one, rest)
  ]) refl
    where
      passes-not : (x : X) → k x ≡ false → p x ≡ false
      passes-not x e = (elim (p x) as (λ (b : Bool). p x ≡ b → b ≡ false) [
        | true ↦ λ h. let wrong : true ≡ false = sym (stays_ x h) ∙ e in absurd cc
        | false ↦ λ h. refl
      ]) refl

  -- and each that passes
  pub count-dropped : (xs : List X) → count_by p (filter (λ x. not (p x)) xs) ≡ 0
  count-dropped [] = refl
  count-dropped (x ∷ xs) = (elim (p x) as (λ (b : Bool). p x ≡ b → count_by p (cond (not b) (x ∷ filter (λ y. not (p y)) xs) (filter (λ y. not (p y)) xs)) ≡ 0) [
    | true ↦ λ e. count-dropped xs
    | false ↦ λ e. count-first x (filter (λ y. not (p y)) xs) false e ∙ ap (λ (n : ℕ). 0 + n) (count-dropped xs)
  ]) refl

-- ---- seats

module _ {S : Type 0} where
  -- the session of a seat
  pub seat-number : (seat : Seat) (o : Session S) → is_seat seat o ≡ true → o.number ≡ seat.number
  seat-number seat o h =
      eqb-true o.number seat.number (both_true (o.number == seat.number) (o.class == seat.class)
      (both_true ((o.number == seat.number) && (o.class == seat.class)) (is_out o.stand) h).0).0

  -- no seat of a number that is too low
  none-low : (seat : Seat) (m n : ℕ) (os : List (Session S)) → seat.number ≤ m → Ascends m n os → count_by (is_seat seat) os ≡ 0
  none-low seat m n [] low a = refl
  none-low seat m n (o ∷ os) low a = (elim (is_seat seat o) as (λ (b : Bool). is_seat seat o ≡ b → count_by (is_seat seat) (o ∷ os) ≡ 0) [
    | true ↦ λ h. let e = seat-number seat o h in let above = a.0 in absurd (omega (arith, e, above, low))
    | false ↦ λ h.
        let above = a.0 in
        count-first (is_seat seat) o os false h ∙ ap (λ (k : ℕ). 0 + k) (none-low seat o.number n os (omega (arith, above, low)) a.1)
  ]) refl

  -- each seat is out once at most
  pub once : (seat : Seat) (m n : ℕ) (os : List (Session S)) → Ascends m n os → count_by (is_seat seat) os ≤ 1
  once seat m n [] a = omega arith
  once seat m n (o ∷ os) a = (elim (is_seat seat o) as (λ (b : Bool). is_seat seat o ≡ b → count_by (is_seat seat) (o ∷ os) ≤ 1) [
    | true ↦ λ h.
        let e = seat-number seat o h in
        let first = count-first (is_seat seat) o os true h in
        let rest = none-low seat o.number n os (omega (arith, e)) a.1 in
        omega (arith, first, rest)
    | false ↦ λ h.
        let first = count-first (is_seat seat) o os false h in
        let rest = once seat o.number n os a.1 in
        omega (arith, first, rest)
  ]) refl
