-- The contents of an INTEGER are read as the number that they stand for, and no others are read.
use Rattle.std.proofs.Common.{◌≡◌, ◌∙◌, ◌⊎◌, ℕ, ◌+◌, ◌-◌, ◌*◌, ◌^◌, ◌/◌, ◌%◌, ◌<◌, ◌≤◌, true, ◌&&◌, leb, lit≤, lit<, inl, inr, zero, suc, ℤ, pos, negsuc, w64, List, [], ◌∷◌, ◌++◌, length, get_or, map, Option, Some, None, sym, ap, subst, append_assoc, arith, refl}
use Rattle.std.specs.Prelude.{FitsSigned}
use Rattle.std.specs.Int.Digits.{digits_of, number_from_digits, number_from_digits_after, AllBelowBase}
use Rattle.std.proofs.lemmas.Int.Digits.{digits_of_step, number_digits_of, length-digits_of-le, first_digits_of}
use Rattle.std.proofs.lemmas.Nat.{mul-le}
use Rattle.std.proofs.Math.Nat.{pow-succ', mul_assoc}
use Rattle.std.proofs.lemmas.Bool.{cases_lt, lt-ltb, le-ltb, le-leb, ne_eqb, ltb-true, leb-true, cases_Bool}
use Rattle.std.proofs.lemmas.List.{length-map, append-nil, get_or_default}
use Rattle.z_types.specs.equality.Tests.{both_true}
use Rattle.z_ber.specs.Written.{natural_octets, int_octets}
use Rattle.z_ber.specs.Reading.{padded, is_fewest, positive_at, negative_at, signed_at, int_at}
use Rattle.z_ber.proofs.DigitSteps.{has_digit}
use Rattle.z_ber.proofs.TagReading.{IsBytes, IsBytes-tail}
use Rattle.z_ber.proofs.ValueLaws.{number-natural_octets, natural_octets-sign, natural_octets-bytes, turned_twice}

-- ---- digits of a number that digits make

pub digits_of-after : (ds : List ℕ) (n : ℕ) → 0 < n → AllBelowBase 256 ds → digits_of 256 (number_from_digits_after 256 n ds) ≡ digits_of 256 n ++ ds
digits_of-after [] n some h = sym (append-nil (digits_of 256 n))
digits_of-after (d ∷ ds) n some h =
    let q : (n * 256 + d) / 256 ≡ n = omega (arith, h.0) in
    let r : (n * 256 + d) % 256 ≡ d = omega (arith, h.0) in
    digits_of-after ds (n * 256 + d) (omega arith) h.1 ∙ ap (λ l. l ++ ds) (digits_of_step 256 (n * 256 + d) (lit≤ tt) (omega arith) ∙ rw (q, r) refl) ∙ append_assoc (digits_of 256 n) (d ∷ []) ds

-- the digits are those, where the first is not zero
pub digits_of-number : (d : ℕ) (ds : List ℕ) → 0 < d → AllBelowBase 256 (d ∷ ds) → digits_of 256 (number_from_digits 256 (d ∷ ds)) ≡ d ∷ ds
digits_of-number d ds some h =
    let lt : d < 256 = h.0 in
    let q : (0 * 256 + d) / 256 ≡ 0 = omega arith in
    let r : (0 * 256 + d) % 256 ≡ d = omega arith in
    let one : digits_of 256 (0 * 256 + d) ≡ d ∷ [] = digits_of_step 256 (0 * 256 + d) (lit≤ tt) (omega arith) ∙ rw (q, r) refl in
    digits_of-after ds (0 * 256 + d) (omega arith) h.1 ∙ ap (λ l. l ++ ds) one

pub number_after-least : (ds : List ℕ) (m : ℕ) → m * 256 ^ length ds ≤ number_from_digits_after 256 m ds
number_after-least [] m = omega arith
number_after-least (d ∷ ds) m =
    let rest = number_after-least ds (m * 256 + d) in
    let up = mul-le (m * 256) (256 ^ length ds) (m * 256 + d) (256 ^ length ds) (omega arith) (omega arith) in
    omega (arith, rest, up, mul_assoc m 256 (256 ^ length ds), ap (λ k. m * k) (pow-succ' 256 (length ds)))

-- ---- natural numbers

-- fewest octets with a sign of 0 are those of their number
natural-back : (d : ℕ) (ds : List ℕ) → AllBelowBase 256 (d ∷ ds) → d < 128 → is_fewest (d ∷ ds) ≡ true → natural_octets (number_from_digits 256 (d ∷ ds)) ≡ d ∷ ds
unfolding natural_octets
natural-back zero [] below lt e = refl
natural-back zero (s ∷ ds) below lt e =
    let big : 128 ≤ s = leb-true 128 s e in
    let ds-is : digits_of 256 (number_from_digits 256 (0 ∷ s ∷ ds)) ≡ s ∷ ds = digits_of-number s ds (omega arith) below.1 in
    rw (ds-is, le-ltb s 128 big) refl
natural-back (suc d) ds below lt e =
    let ds-is : digits_of 256 (number_from_digits 256 (suc d ∷ ds)) ≡ suc d ∷ ds = digits_of-number (suc d) ds (omega arith) below in
    rw (ds-is, lt-ltb (suc d) 128 lt) refl

fewest-zero : (s : ℕ) (rest : List ℕ) → 128 ≤ s → is_fewest (0 ∷ s ∷ rest) ≡ true
fewest-zero s rest le = le-leb 128 s le

fewest-some : (d : ℕ) (rest : List ℕ) → 0 < d → d < 255 → is_fewest (d ∷ rest) ≡ true
fewest-some d [] some lt = refl
fewest-some d (s ∷ rest) some lt = rw (ne_eqb d 0 (λ e. omega arith), ne_eqb d 255 (λ e. omega arith)) refl

fewest-ones : (s : ℕ) (rest : List ℕ) → s < 128 → is_fewest (255 ∷ s ∷ rest) ≡ true
fewest-ones s rest lt = lt-ltb s 128 lt

-- what the octets of a natural number look like
abbrev Shape : List ℕ → Type 0
Shape [] = ⊥
Shape (d ∷ []) = d < 128
Shape (d ∷ s ∷ rest) = (d < 128) × ((0 < d) ⊎ ((d ≡ 0) × (128 ≤ s)))

shape-digits : (ds : List ℕ) → get_or ds 0 128 < 128 → 0 < get_or ds 0 1 → Shape ds
shape-digits [] lt some = absurd (omega arith)
shape-digits (d ∷ []) lt some = lt
shape-digits (d ∷ s ∷ rest) lt some = (lt, inl some)

first_some : (n : ℕ) → 0 < n → 0 < get_or (digits_of 256 n) 0 1
first_some n some = omega (arith, first_digits_of 256 n (lit≤ tt) some, get_or_default (digits_of 256 n) 0 0 1 (has_digit 256 n (lit≤ tt) some))

shape-zero : (ds : List ℕ) → 128 ≤ get_or ds 0 128 → Shape (0 ∷ ds)
shape-zero [] le = lit< tt
shape-zero (s ∷ rest) le = (lit< tt, inr (refl, le))

filled : (n : ℕ) → get_or (digits_of 256 n) 0 128 < 128 → 0 < get_or (digits_of 256 n) 0 1
filled n lt =
    elim (cases_lt 0 n) [
      | inl some ↦ first_some n some
      | inr none ↦
          let zero-is : n ≡ 0 = omega arith in
          absurd (let no : get_or (digits_of 256 0) 0 128 < 128 = subst (λ (k : ℕ). get_or (digits_of 256 k) 0 128 < 128) zero-is lt in omega arith)
    ]

natural-shape : (n : ℕ) → Shape (natural_octets n)
unfolding natural_octets
natural-shape n =
    elim (cases_lt (get_or (digits_of 256 n) 0 128) 128) [
      | inl lt ↦ rw (lt-ltb _ _ lt) (shape-digits (digits_of 256 n) lt (filled n lt))
      | inr le ↦ rw (le-ltb _ _ le) (shape-zero (digits_of 256 n) le)
    ]

-- so their octets, turned or not, are the fewest
shape-fewest : (ds : List ℕ) → Shape ds → is_fewest ds ≡ true
shape-fewest [] h = absurd h
shape-fewest (d ∷ []) h = refl
shape-fewest (d ∷ s ∷ rest) (lt, inl some) = fewest-some d (s ∷ rest) some (omega arith)
shape-fewest (d ∷ s ∷ rest) (lt, inr z) = subst (λ (k : ℕ). is_fewest (k ∷ s ∷ rest) ≡ true) (sym z.0) (fewest-zero s rest z.1)

shape-turned : (ds : List ℕ) → Shape ds → is_fewest (map (λ octet. 255 - octet) ds) ≡ true
shape-turned [] h = absurd h
shape-turned (d ∷ []) h = refl
shape-turned (d ∷ s ∷ rest) (lt, inl some) = fewest-some (255 - d) ((255 - s) ∷ map (λ octet. 255 - octet) rest) (omega arith) (omega arith)
shape-turned (d ∷ s ∷ rest) (lt, inr z) =
    let e : 255 - d ≡ 255 = omega (arith, z.0) in
    subst (λ (k : ℕ). is_fewest (k ∷ (255 - s) ∷ map (λ octet. 255 - octet) rest) ≡ true) (sym e) (fewest-ones (255 - s) (map (λ octet. 255 - octet) rest) (omega (arith, z.1)))

top_octet : (ds : List ℕ) → 128 ≤ get_or ds 0 128 → number_from_digits 256 ds < 2 ^ 63 → length ds ≤ 8 → length ds ≤ 7
top_octet [] le small few = lit≤ tt
top_octet (e ∷ es) le small few =
    elim (cases_lt (length es) 7) [
      | inl lt ↦ omega arith
      | inr more ↦
          let k : length es ≡ 7 = omega arith in
          let least = number_after-least es (0 * 256 + e) in
          let least7 : (0 * 256 + e) * 256 ^ 7 ≤ number_from_digits 256 (e ∷ es) = subst (λ (j : ℕ). (0 * 256 + e) * 256 ^ j ≤ number_from_digits 256 (e ∷ es)) k least in
          absurd (omega (arith, least7))
    ]

-- a number below 2^63 takes at most eight octets
few_octets : (n : ℕ) → n < 2 ^ 63 → length (natural_octets n) ≤ 8
unfolding natural_octets
few_octets n small =
    let few : length (digits_of 256 n) ≤ 8 = length-digits_of-le 256 8 n (lit≤ tt) (omega arith) in
    elim (cases_lt (get_or (digits_of 256 n) 0 128) 128) [
      | inl lt ↦ rw (lt-ltb _ _ lt) few
      | inr le ↦
          let fewer = top_octet (digits_of 256 n) le (omega (arith, number_digits_of 256 n (lit≤ tt))) few in
          rw (le-ltb _ _ le) (omega (arith, fewer))
    ]

-- ---- reading

abbrev turned : List ℕ → List ℕ
turned ds = map (λ octet. 255 - octet) ds

turned-below : (ds : List ℕ) → AllBelowBase 256 (turned ds)
turned-below [] = tt
turned-below (d ∷ ds) = (omega arith, turned-below ds)

below : (ds : List ℕ) → IsBytes ds → AllBelowBase 256 ds
below [] fits = tt
below (d ∷ ds) fits = (fits 0, below ds (IsBytes-tail d ds fits))

some_int : (x y : ℤ) (o : Option ℤ) → o ≡ Some x → o ≡ Some y → x ≡ y
some_int x y o p q = cc

no_int : {P : Type 0} (x : ℤ) (o : Option ℤ) → o ≡ None → o ≡ Some x → P
no_int x o p q = absurd cc

padded-all : (ds : List ℕ) → padded (length ds) ds ≡ ds
padded-all [] = refl
padded-all (d ∷ ds) = ap (λ l. d ∷ l) (padded-all ds)

positive-some : (n : ℕ) (z : ℤ) → positive_at n ≡ Some z → z ≡ pos n
positive-some n z e = elim (cases_lt n (2 ^ 63)) [
  | inl lt ↦ let s : positive_at n ≡ Some (pos n) = rw (lt-ltb n (2 ^ 63) lt) refl in some_int z (pos n) (positive_at n) e s
  | inr le ↦ let s : positive_at n ≡ None = rw (le-ltb n (2 ^ 63) le) refl in no_int z (positive_at n) s e
]

negative-some : (n : ℕ) (z : ℤ) → negative_at n ≡ Some z → z ≡ negsuc n
negative-some n z e = elim (cases_lt n (2 ^ 63)) [
  | inl lt ↦ let s : negative_at n ≡ Some (negsuc n) = rw (lt-ltb n (2 ^ 63) lt) refl in some_int z (negsuc n) (negative_at n) e s
  | inr le ↦ let s : negative_at n ≡ None = rw (le-ltb n (2 ^ 63) le) refl in no_int z (negative_at n) s e
]

-- the first nine bits turned
turned-fewest : (d : ℕ) (ds : List ℕ) → d < 256 → AllBelowBase 256 ds → 128 ≤ d → is_fewest (d ∷ ds) ≡ true → is_fewest (turned (d ∷ ds)) ≡ true
turned-fewest d [] lt h le e = refl
turned-fewest d (s ∷ ds) lt h le e =
    elim (cases_lt d 255) [
      | inl low ↦ fewest-some (255 - d) (turned (s ∷ ds)) (omega arith) (omega arith)
      | inr top ↦
          let is : d ≡ 255 = omega arith in
          let z : 255 - d ≡ 0 = omega arith in
          let ones : is_fewest (255 ∷ s ∷ ds) ≡ true = subst (λ (k : ℕ). is_fewest (k ∷ s ∷ ds) ≡ true) is e in
          let small : s < 128 = ltb-true s 128 ones in
          subst (λ (k : ℕ). is_fewest (k ∷ (255 - s) ∷ turned ds) ≡ true) (sym z) (fewest-zero (255 - s) (turned ds) (omega arith))
    ]

signed-found : (d : ℕ) (ds : List ℕ) (z : ℤ) → AllBelowBase 256 (d ∷ ds) → is_fewest (d ∷ ds) ≡ true → signed_at (d ∷ ds) ≡ Some z → d ∷ ds ≡ int_octets z
unfolding int_octets
signed-found d ds z h e s =
    elim (cases_lt d 128) [
      | inl low ↦
          let on : signed_at (d ∷ ds) ≡ positive_at (number_from_digits 256 (d ∷ ds)) = rw (lt-ltb d 128 low, padded-all ds) refl in
          let z-is : z ≡ pos (number_from_digits 256 (d ∷ ds)) = positive-some _ z (sym on ∙ s) in
          rw z-is (sym (natural-back d ds h low e))
      | inr high ↦
          let on : signed_at (d ∷ ds) ≡ negative_at (number_from_digits 256 (turned (d ∷ ds))) = rw (le-ltb d 128 high, ← (length-map ds (λ octet. 255 - octet)), padded-all (turned ds)) refl in
          let z-is : z ≡ negsuc (number_from_digits 256 (turned (d ∷ ds))) = negative-some _ z (sym on ∙ s) in
          let lt : d < 256 = h.0 in
          let back = natural-back (255 - d) (turned ds) (turned-below (d ∷ ds)) (omega arith) (turned-fewest d ds h.0 h.1 high e) in
          rw z-is (sym (ap turned back ∙ turned_twice (d ∷ ds) h))
    ]

pub int_at-found : (contents : List ℕ) (z : ℤ) → IsBytes contents → int_at contents ≡ Some z → contents ≡ int_octets z
unfolding int_at
int_at-found [] z fits e = no_int z (int_at []) refl e
int_at-found (d ∷ ds) z fits e =
    elim (cases_Bool (is_fewest (d ∷ ds) && leb (length (d ∷ ds)) 8)) [
      | inl held ↦
          let on : int_at (d ∷ ds) ≡ signed_at (d ∷ ds) = rw held refl in
          signed-found d ds z (below (d ∷ ds) fits) (both_true (is_fewest (d ∷ ds)) (leb (length (d ∷ ds)) 8) held).0 (sym on ∙ e)
      | inr broken ↦ let off : int_at (d ∷ ds) ≡ None = rw broken refl in no_int z (int_at (d ∷ ds)) off e
    ]

sign_zero : (ds : List ℕ) → get_or ds 0 128 < 128 → get_or ds 0 0 < 128
sign_zero [] h = lit< tt
sign_zero (d ∷ ds) h = h

sign_one : (ds : List ℕ) → get_or ds 0 128 < 128 → 128 ≤ get_or (turned ds) 0 0
sign_one [] h = absurd (omega arith)
sign_one (d ∷ ds) h = omega arith

pub int_at-again : (z : ℤ) → FitsSigned w64 z → int_at (int_octets z) ≡ Some z
unfolding int_at int_octets
int_at-again (pos n) h =
    let ds = natural_octets n in
    let small : n < 2 ^ 63 = h.sfits in
    let fewest = shape-fewest (natural_octets n) (natural-shape n) in
    let few = le-leb (length (natural_octets n)) 8 (few_octets n small) in
    let sign = lt-ltb (get_or (natural_octets n) 0 0) 128 (sign_zero (natural_octets n) (natural_octets-sign n)) in
    let fits = lt-ltb n (2 ^ 63) small in
    rw (fewest, few, sign, padded-all (natural_octets n), number-natural_octets n, fits) refl
int_at-again (negsuc n) h =
    let ds = natural_octets n in
    let small : n < 2 ^ 63 = h.sfits in
    let fewest = shape-turned (natural_octets n) (natural-shape n) in
    let size : length (turned (natural_octets n)) ≡ length (natural_octets n) = length-map (natural_octets n) (λ octet. 255 - octet) in
    let few = le-leb (length (natural_octets n)) 8 (few_octets n small) in
    let sign = le-ltb (get_or (turned (natural_octets n)) 0 0) 128 (sign_one (natural_octets n) (natural_octets-sign n)) in
    let fits = lt-ltb n (2 ^ 63) small in
    rw (fewest, size, few, sign, turned_twice (natural_octets n) (natural_octets-bytes n), padded-all (natural_octets n), number-natural_octets n, fits) refl

pub int_at-none : {P : Type 0} (contents : List ℕ) (z : ℤ) → FitsSigned w64 z → int_at contents ≡ None → contents ≡ int_octets z → P
int_at-none contents z h e s = no_int z (int_at contents) e (ap int_at s ∙ int_at-again z h)
