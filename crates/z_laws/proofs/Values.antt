-- Contents that are written of a value are read as the value.
use Rattle.std.proofs.Common.{◌≡◌, ◌∙◌, ◌⊎◌, ℕ, zero, suc, ◌+◌, ◌-◌, ◌*◌, ◌/◌, ◌%◌, ◌^◌, ◌<◌, ◌≤◌, Bool, true, false, ◌&&◌, ◌==◌, ltb, leb, min, lit≤, lit<, inl, inr, ℤ, pos, negsuc, w64, List, [], ◌∷◌, ◌++◌, length, get_or, map, reverse, take, Option, Some, None, ap, append_assoc, arith, refl}
use Rattle.std.specs.Prelude.{FitsSigned, option_map}
use Rattle.std.specs.List.{flat_map, list_all}
use Rattle.std.specs.Int.Digits.{digits_of, number_from_digits, number_from_digits_after, AllBelowBase}
use Rattle.std.proofs.lemmas.Int.Digits.{number_digits_of, number_lt, length-digits_of-le, all_below_base_digits_of}
use Rattle.std.proofs.lemmas.Bool.{lt-ltb, le-ltb, le-leb, ne_eqb, ltb-true, leb-true, cases_Bool}
use Rattle.std.proofs.lemmas.List.{length-map, length-reverse, reverse-reverse, take_all}
use Rattle.std.proofs.Math.Nat.{pow-le-pow_right, mod-eq_of_lt}
use Rattle.z_types.specs.Numbers.{IsNumber}
use Rattle.z_types.specs.equality.Tests.{both_true}
use Rattle.z_types.specs.Oid.{is_oid, has_root}
use Rattle.z_ber.specs.Written.{septets, natural_octets, int_octets, bool_octets, bits_octets, mirror, unused_bits, oid_octets, mirrored_number}
use Rattle.z_ber.specs.Reading.{is_fewest, int_at}
use Rattle.z_ber.proofs.IntReading.{int_at-again}
use Rattle.z_ber.proofs.BitsReading.{mirrored_number-digits}
use Rattle.z_ber.proofs.ValueLaws.{number-natural_octets, natural_octets-sign, natural_octets-bytes, turned_twice, mirrors_twice, all-reverse, rooted}
use Rattle.unit_forms.specs.Reading.Contents.{truth_in, integer_in, number_in, bits_that_count, bits_in, arcs_of, greatest_arc, arcs_after, oid_in}

-- ---- BOOLEAN

pub truth_in-again : (b : Bool) → truth_in (bool_octets b) ≡ Some b
unfolding bool_octets
truth_in-again true = refl
truth_in-again false = refl

-- ---- INTEGER

no_int : {P : Type 0} (z : ℤ) (o : Option ℤ) → o ≡ None → o ≡ Some z → P
no_int z o p q = absurd cc

-- a strict reader takes no more than eight
int_at-few : (contents : List ℕ) (z : ℤ) → int_at contents ≡ Some z → length contents ≤ 8
unfolding int_at
int_at-few contents z e =
    elim (cases_Bool (is_fewest contents && leb (length contents) 8)) [
      | inl held ↦ leb-true (length contents) 8 (both_true (is_fewest contents) (leb (length contents) 8) held).1
      | inr broken ↦ let off : int_at contents ≡ None = rw broken refl in no_int z (int_at contents) off e
    ]

int_octets-few : (z : ℤ) → FitsSigned w64 z → length (int_octets z) ≤ 8
int_octets-few z fits = int_at-few (int_octets z) z (int_at-again z fits)

positive_in : (ds : List ℕ) → get_or ds 0 128 < 128 → length ds ≤ 8 → integer_in ds ≡ Some (pos (number_from_digits 256 ds))
unfolding integer_in
positive_in [] sign few = absurd (omega arith)
positive_in (d ∷ ds) sign few = rw (le-leb (length ds) 7 (omega arith), lt-ltb d 128 sign) refl

negative_in : (ds : List ℕ) → get_or ds 0 128 < 128 → length ds ≤ 8 → AllBelowBase 256 ds → integer_in (map (λ octet. 255 - octet) ds) ≡ Some (negsuc (number_from_digits 256 ds))
unfolding integer_in
negative_in [] sign few below = absurd (omega arith)
negative_in (d ∷ ds) sign few below =
    let size : length (map (λ octet. 255 - octet) ds) ≡ length ds = length-map ds (λ octet. 255 - octet) in
    let back = turned_twice (d ∷ ds) below in
    rw (size, le-leb (length ds) 7 (omega arith), le-ltb (255 - d) 128 (omega arith), back) refl

pub integer_in-again : (z : ℤ) → FitsSigned w64 z → integer_in (int_octets z) ≡ Some z
unfolding int_octets
integer_in-again (pos n) fits =
    positive_in (natural_octets n) (natural_octets-sign n) (int_octets-few (pos n) fits) ∙ ap (λ k. Some (pos k)) (number-natural_octets n)
integer_in-again (negsuc n) fits =
    let few : length (natural_octets n) ≤ 8 = omega (arith, length-map (natural_octets n) (λ octet. 255 - octet), int_octets-few (negsuc n) fits) in
    negative_in (natural_octets n) (natural_octets-sign n) few (natural_octets-bytes n) ∙ ap (λ k. Some (negsuc k)) (number-natural_octets n)

pub number_in-again : (n : ℕ) → IsNumber n → number_in (int_octets (pos n)) ≡ Some n
number_in-again n small =
    let fits : FitsSigned w64 (pos n) = record { sfits = omega (arith, small) } in
    rw (integer_in-again (pos n) fits, lt-ltb n (2 ^ 31) (omega (arith, small))) refl

-- ---- BIT STRING

-- a number is below two to the count of its bits
below_bits : (n : ℕ) → n < 2 ^ length (digits_of 2 n)
below_bits n =
    let lt = number_lt 2 (digits_of 2 n) (all_below_base_digits_of 2 n (lit≤ tt)) in
    rw (number_digits_of 2 n (lit≤ tt)) at lt

-- eight bits an octet
octets_of_bits : (count n : ℕ) → count ≤ 4 → n < 256 ^ count → n < 2 ^ (8 * count)
octets_of_bits zero n few lt = lt
octets_of_bits (suc zero) n few lt = lt
octets_of_bits (suc (suc zero)) n few lt = lt
octets_of_bits (suc (suc (suc zero))) n few lt = lt
octets_of_bits (suc (suc (suc (suc zero)))) n few lt = lt
octets_of_bits (suc (suc (suc (suc (suc count))))) n few lt = absurd (omega arith)

-- so the bits that count are all that it has
bits_enough : (n : ℕ) → n < 2 ^ 32 → n < 2 ^ bits_that_count (unused_bits n) (length (digits_of 256 n))
unfolding unused_bits
bits_enough n small =
    let lt : n < 256 ^ length (digits_of 256 n) = rw (number_digits_of 256 n (lit≤ tt)) at (number_lt 256 (digits_of 256 n) (all_below_base_digits_of 256 n (lit≤ tt))) in
    let few : length (digits_of 256 n) ≤ 4 = length-digits_of-le 256 4 n (lit≤ tt) (omega arith) in
    let bits : length (digits_of 2 n) ≤ 8 * length (digits_of 256 n) = length-digits_of-le 2 (8 * length (digits_of 256 n)) n (lit≤ tt) (octets_of_bits (length (digits_of 256 n)) n few lt) in
    let most : length (digits_of 2 n) ≤ 32 = length-digits_of-le 2 32 n (lit≤ tt) small in
    let enough : length (digits_of 2 n) ≤ bits_that_count (unused_bits n) (length (digits_of 256 n)) = omega arith in
    let up = pow-le-pow_right {n = 2} (lit< tt) enough in
    omega (arith, below_bits n, up)

unused-few : (n : ℕ) → unused_bits n ≤ 7
unfolding unused_bits
unused-few n = omega arith

pub bits_in-again : (n : ℕ) → n < 2 ^ 32 → bits_in (bits_octets n) ≡ Some n
unfolding bits_in bits_octets
bits_in-again n small =
    let ds = digits_of 256 n in
    let few : length (digits_of 256 n) ≤ 4 = length-digits_of-le 256 4 n (lit≤ tt) (omega arith) in
    let size : length (map mirror (reverse (digits_of 256 n))) ≡ length (digits_of 256 n) = omega (arith, length-map (reverse (digits_of 256 n)) mirror, length-reverse (digits_of 256 n)) in
    let bytes = all-reverse (digits_of 256 n) (all_below_base_digits_of 256 n (lit≤ tt)) in
    let number : mirrored_number (map mirror (reverse (digits_of 256 n))) ≡ n =
    mirrored_number-digits (map mirror (reverse (digits_of 256 n))) ∙ ap (λ os. number_from_digits 256 (reverse os)) (mirrors_twice (reverse (digits_of 256 n)) bytes) ∙ ap (number_from_digits 256) (reverse-reverse (digits_of 256 n)) ∙ number_digits_of 256 n (lit≤ tt)
    in
    let all : take 4 (map mirror (reverse (digits_of 256 n))) ≡ map mirror (reverse (digits_of 256 n)) = take_all 4 _ (omega arith) in
    let kept : n % 2 ^ bits_that_count (unused_bits n) (length (digits_of 256 n)) ≡ n = mod-eq_of_lt (bits_enough n small) in
    rw (le-ltb 7 (unused_bits n) (unused-few n), all, number, size, kept) refl

-- ---- OBJECT IDENTIFIER

after_least : (ds : List ℕ) (m : ℕ) → m ≤ number_from_digits_after 128 m ds
after_least [] m = omega arith
after_least (d ∷ ds) m = omega (arith, after_least ds (m * 128 + d))

some_octets : (front : List ℕ) (octet : ℕ) (rest : List ℕ) → (length (front ++ octet ∷ rest) == 0) ≡ false
some_octets [] octet rest = ne_eqb (suc (length rest)) 0 (λ e. omega arith)
some_octets (o ∷ front) octet rest = ne_eqb (suc (length (front ++ octet ∷ rest))) 0 (λ e. omega arith)

-- the octets of a number, of which the high part is known, are read as the number
marked_arc : (first : Bool) (high : ℕ) (ds : List ℕ) (last : ℕ) (rest : List ℕ) → AllBelowBase 128 ds → last < 128 → number_from_digits_after 128 high ds * 128 + last ≤ greatest_arc first → arcs_after first high (map (λ digit. 128 + digit) ds ++ last ∷ rest) ≡ option_map (λ arcs. arcs_of first (number_from_digits_after 128 high ds * 128 + last) ++ arcs) (arcs_after false 0 rest)
marked_arc first high [] last rest below lt le =
    let small : last % 128 ≡ last = omega arith in
    rw (small, le-ltb (greatest_arc first) (high * 128 + last) le, lt-ltb last 128 lt) refl
marked_arc first high (d ∷ ds) last rest below lt le =
    let small : (128 + d) % 128 ≡ d = omega (arith, below.0) in
    let more = after_least ds (high * 128 + d) in
    let on = marked_arc first (high * 128 + d) ds last rest below.1 lt le in
    rw (small, le-ltb (greatest_arc first) (high * 128 + d) (omega arith), le-ltb (128 + d) 128 (omega arith), some_octets (map (λ digit. 128 + digit) ds) last rest) on

septet_arc : (first : Bool) (n : ℕ) (rest : List ℕ) → n ≤ greatest_arc first → arcs_after first 0 (septets n ++ rest) ≡ option_map (λ arcs. arcs_of first n ++ arcs) (arcs_after false 0 rest)
unfolding septets
septet_arc first n rest le =
    let ds = digits_of 128 (n / 128) in
    let whole : number_from_digits 128 (digits_of 128 (n / 128)) * 128 + n % 128 ≡ n = omega (arith, number_digits_of 128 (n / 128) (lit≤ tt)) in
    let parts = append_assoc (map (λ digit. 128 + digit) (digits_of 128 (n / 128))) (n % 128 ∷ []) rest in
    let on = marked_arc first 0 (digits_of 128 (n / 128)) (n % 128) rest (all_below_base_digits_of 128 (n / 128) (lit≤ tt)) (omega arith) (omega (arith, whole, le)) in
    ap (arcs_after first 0) parts ∙ on ∙ ap (λ k. option_map (λ arcs. arcs_of first k ++ arcs) (arcs_after false 0 rest)) whole

arcs_again : (arcs : List ℕ) → list_all (λ arc. ltb arc (2 ^ 32)) arcs ≡ true → arcs_after false 0 (flat_map septets arcs) ≡ Some arcs
arcs_again [] h = refl
arcs_again (arc ∷ arcs) h =
    let b = both_true (ltb arc (2 ^ 32)) (list_all (λ arc. ltb arc (2 ^ 32)) arcs) h in
    let lt = ltb-true arc (2 ^ 32) b.0 in
    septet_arc false arc (flat_map septets arcs) (omega arith) ∙ ap (option_map (λ more. arc ∷ more)) (arcs_again arcs b.1)

-- the first two numbers of what they make
roots : (x y : ℕ) → (x ≡ 2) ⊎ ((x < 2) × (y < 40)) → arcs_of true (40 * x + y) ≡ x ∷ y ∷ []
roots x y (inl two) =
    let top : min 2 ((40 * x + y) / 40) ≡ x = omega arith in
    rw top (let low : 40 * x + y - 40 * x ≡ y = omega arith in ap (λ k. x ∷ k ∷ []) low)
roots x y (inr low) =
    let top : min 2 ((40 * x + y) / 40) ≡ x = omega (arith, low.0, low.1) in
    rw top (let rest : 40 * x + y - 40 * x ≡ y = omega arith in ap (λ k. x ∷ k ∷ []) rest)

root_below : (x y : ℕ) → (x ≡ 2) ⊎ ((x < 2) × (y < 40)) → y < 2 ^ 32 → 40 * x + y ≤ greatest_arc true
root_below x y (inl two) lt = omega arith
root_below x y (inr low) lt = omega (arith, low.0, low.1)

pub oid_in-again : (arcs : List ℕ) → is_oid arcs ≡ true → oid_in (oid_octets arcs) ≡ Some arcs
unfolding oid_in oid_octets
oid_in-again [] valid = absurd cc
oid_in-again (x ∷ []) valid = absurd cc
oid_in-again (x ∷ y ∷ more) valid =
    let root = rooted x y more valid in
    let parts = both_true (has_root (x ∷ y ∷ more)) _ valid in
    let bounds = both_true (leb (length (x ∷ y ∷ more)) 32) (list_all (λ arc. ltb arc (2 ^ 32)) (x ∷ y ∷ more)) parts.1 in
    let first = both_true (ltb x (2 ^ 32)) (list_all (λ arc. ltb arc (2 ^ 32)) (y ∷ more)) bounds.1 in
    let second = both_true (ltb y (2 ^ 32)) (list_all (λ arc. ltb arc (2 ^ 32)) more) first.1 in
    let read : arcs_after true 0 (septets (40 * x + y) ++ flat_map septets more) ≡ Some (x ∷ y ∷ more) =
    septet_arc true (40 * x + y) (flat_map septets more) (root_below x y root (ltb-true y (2 ^ 32) second.0))
    ∙ ap (option_map (λ arcs. arcs_of true (40 * x + y) ++ arcs)) (arcs_again more second.1)
    ∙ ap (λ front. Some (front ++ more)) (roots x y root)
    in
    rw (read, valid) refl
