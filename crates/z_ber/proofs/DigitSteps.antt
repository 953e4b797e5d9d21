-- The digits of a number, one step at a time.
use Rattle.std.proofs.Common.{◌≡◌, ◌∙◌, ℕ, ◌^◌, ◌/◌, ◌%◌, ◌<◌, ◌≤◌, lit≤, inl, inr, [], ◌∷◌, ◌++◌, length, get_or, map, reverse, sym, ap, arith, refl}
use Rattle.std.specs.Int.Digits.{digits_of}
use Rattle.std.proofs.lemmas.Int.Digits.{digits_of_step, length-digits_of-le, first_digits_of}
use Rattle.std.proofs.lemmas.List.{map-append, reverse-append, get_or_past, get_or_append_left}
use Rattle.std.proofs.lemmas.Bool.{cases_lt}
use Rattle.std.proofs.Math.Nat.{pow-le-pow_left}

-- numbers below 2^64 have at most 64 digits
pub few_digits : (b n : ℕ) → 2 ≤ b → n < 2 ^ 64 → length (digits_of b n) ≤ 64
few_digits b n h lt =
    let wide = pow-le-pow_left {n = 2} {m = b} h 64 in
    length-digits_of-le b 64 n h (omega arith)

-- one more digit, seen through a function
pub map-digits_step : (f : ℕ → ℕ) (b n : ℕ) → 2 ≤ b → 0 < n → map f (digits_of b n) ≡ map f (digits_of b (n / b)) ++ f (n % b) ∷ []
map-digits_step f b n h pos = ap (map f) (digits_of_step b n h pos) ∙ map-append f (digits_of b (n / b)) (n % b ∷ [])

-- and from the last to the first
pub mirrored_step : (f : ℕ → ℕ) (b n d : ℕ) → 2 ≤ b → 0 < n → d ≡ f (n % b) → map f (reverse (digits_of b n)) ≡ (d ∷ []) ++ map f (reverse (digits_of b (n / b)))
mirrored_step f b n d h pos e =
    ap (λ ds. map f (reverse ds)) (digits_of_step b n h pos) ∙ ap (map f) (reverse-append (digits_of b (n / b)) (n % b ∷ [])) ∙ ap (λ x. x ∷ map f (reverse (digits_of b (n / b)))) (sym e)

-- a number above 0 has a digit
pub has_digit : (b n : ℕ) → 2 ≤ b → 0 < n → 0 < length (digits_of b n)
has_digit b n h pos =
    elim (cases_lt 0 (length (digits_of b n))) [
      | inl lt ↦ lt
      | inr le ↦ absurd (omega (arith, first_digits_of b n h pos, get_or_past (digits_of b n) 0 0 le))
    ]

-- the first digit of a number with one digit
pub first_of_one : (d n : ℕ) → 0 < n → n < 256 → n ≡ get_or (digits_of 256 n) 0 d
first_of_one d n pos lt =
    let none : n / 256 ≡ 0 = omega arith in
    let same : n % 256 ≡ n = omega arith in
    let e : digits_of 256 n ≡ n ∷ [] = digits_of_step 256 n (lit≤ tt) pos ∙ rw (none, same) refl in
    rw e refl

-- the first digit of a number with more
pub first_of_more : (d n : ℕ) → 256 ≤ n → get_or (digits_of 256 (n / 256)) 0 d ≡ get_or (digits_of 256 n) 0 d
first_of_more d n le =
    let high : 0 < n / 256 = omega arith in
    let first = has_digit 256 (n / 256) (lit≤ tt) high in
    sym (ap (λ ds. get_or ds 0 d) (digits_of_step 256 n (lit≤ tt) (omega arith)) ∙ get_or_append_left (digits_of 256 (n / 256)) (n % 256 ∷ []) d 0 first)
