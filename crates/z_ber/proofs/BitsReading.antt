-- The contents of a BIT STRING are read as the bits that they stand for, and no others are read.
use Rattle.std.proofs.Common.{◌≡◌, ◌∙◌, ℕ, ◌+◌, ◌*◌, ◌^◌, ◌<◌, ◌≤◌, ◌&&◌, ◌==◌, lit≤, inl, inr, List, [], ◌∷◌, ◌++◌, length, map, reverse, Option, Some, None, sym, ap, arith, refl}
use Rattle.std.specs.Int.Digits.{digits_of, number_from_digits, AllBelowBase}
use Rattle.std.proofs.lemmas.Int.Digits.{number_digits_of, all_below_base_digits_of, length-digits_of-le, number_push}
use Rattle.std.proofs.lemmas.Bool.{cases_lt, lt-ltb, le-ltb, eq-eqb, eqb-true, cases_Bool}
use Rattle.std.proofs.lemmas.List.{length-map, length-reverse, reverse-reverse, reverse-append}
use Rattle.z_types.specs.equality.Tests.{both_true}
use Rattle.z_ber.specs.Written.{mirror, unused_bits, bits_octets, mirrored_number}
use Rattle.z_ber.specs.Reading.{bits_behind, bits_at}
use Rattle.z_ber.proofs.TagReading.{IsBytes, IsBytes-tail}
use Rattle.z_ber.proofs.StrictReading.{same_digits}
use Rattle.z_ber.proofs.ValueLaws.{mirrors_twice, all-reverse}

-- from the last octet to the first
pub mirrored_number-digits : (octets : List ℕ) → mirrored_number octets ≡ number_from_digits 256 (reverse (map mirror octets))
mirrored_number-digits [] = refl
mirrored_number-digits (o ∷ octets) =
    let r = mirrored_number-digits octets in
    let e : reverse (mirror o ∷ map mirror octets) ≡ reverse (map mirror octets) ++ mirror o ∷ [] = reverse-append (mirror o ∷ []) (map mirror octets) in
    ap (λ k. k * 256 + mirror o) r ∙ sym (number_push 256 (reverse (map mirror octets)) (mirror o)) ∙ ap (number_from_digits 256) (sym e)

mirror-below : (o : ℕ) → mirror o < 256
unfolding mirror
mirror-below o = omega arith

mirrors-below : (octets : List ℕ) → AllBelowBase 256 (map mirror octets)
mirrors-below [] = tt
mirrors-below (o ∷ octets) = (mirror-below o, mirrors-below octets)

below : (ds : List ℕ) → IsBytes ds → AllBelowBase 256 ds
below [] fits = tt
below (d ∷ ds) fits = (fits 0, below ds (IsBytes-tail d ds fits))

some_number : (x y : ℕ) (o : Option ℕ) → o ≡ Some x → o ≡ Some y → x ≡ y
some_number x y o p q = cc

no_number : {P : Type 0} (x : ℕ) (o : Option ℕ) → o ≡ None → o ≡ Some x → P
no_number x o p q = absurd cc

-- the octets of the number that octets make
octets_back : (octets : List ℕ) → AllBelowBase 256 octets → length octets ≡ length (digits_of 256 (mirrored_number octets)) → map mirror (reverse (digits_of 256 (mirrored_number octets))) ≡ octets
octets_back octets h k =
    let n : ℕ = mirrored_number octets in
    let size : length (digits_of 256 (mirrored_number octets)) ≡ length (reverse (map mirror octets)) = omega (arith, k, length-reverse (map mirror octets), length-map octets mirror) in
    let same = same_digits (digits_of 256 (mirrored_number octets)) (reverse (map mirror octets)) 0 0 (all_below_base_digits_of 256 (mirrored_number octets) (lit≤ tt)) (all-reverse (map mirror octets) (mirrors-below octets)) size (number_digits_of 256 (mirrored_number octets) (lit≤ tt) ∙ mirrored_number-digits octets) in
    ap (λ ds. map mirror (reverse ds)) same.1 ∙ ap (map mirror) (reverse-reverse (map mirror octets)) ∙ mirrors_twice octets h

behind_found : (unused v : ℕ) (octets : List ℕ) → AllBelowBase 256 octets → bits_behind unused (length octets) (mirrored_number octets) ≡ Some v → unused ∷ octets ≡ bits_octets v
unfolding bits_octets
behind_found unused v octets h e =
    let n : ℕ = mirrored_number octets in
    elim (cases_Bool ((unused == unused_bits (mirrored_number octets)) && (length octets == length (digits_of 256 (mirrored_number octets))))) [
      | inl held ↦
          let b = both_true (unused == unused_bits (mirrored_number octets)) (length octets == length (digits_of 256 (mirrored_number octets))) held in
          let on : bits_behind unused (length octets) (mirrored_number octets) ≡ Some (mirrored_number octets) = rw held refl in
          let v-is : v ≡ mirrored_number octets = some_number v (mirrored_number octets) _ e on in
          let front : unused ≡ unused_bits (mirrored_number octets) = eqb-true _ _ b.0 in
          let back : map mirror (reverse (digits_of 256 (mirrored_number octets))) ≡ octets = octets_back octets h (eqb-true _ _ b.1) in
          rw v-is cc
      | inr broken ↦
          let off : bits_behind unused (length octets) (mirrored_number octets) ≡ None = rw broken refl in
          no_number v _ off e
    ]

pub bits_at-found : (contents : List ℕ) (v : ℕ) → IsBytes contents → bits_at contents ≡ Some v → contents ≡ bits_octets v
unfolding bits_at
bits_at-found [] v fits e = no_number v None refl e
bits_at-found (unused ∷ octets) v fits e =
    elim (cases_lt 4 (length octets)) [
      | inl many ↦ let off : bits_at (unused ∷ octets) ≡ None = rw (lt-ltb 4 (length octets) many) refl in no_number v _ off e
      | inr few ↦
          let on : bits_at (unused ∷ octets) ≡ bits_behind unused (length octets) (mirrored_number octets) = rw (le-ltb 4 (length octets) few) refl in
          behind_found unused v octets (below octets (IsBytes-tail unused octets fits)) (sym on ∙ e)
    ]

pub bits_at-again : (v : ℕ) → v < 2 ^ 32 → bits_at (bits_octets v) ≡ Some v
unfolding bits_at bits_octets
bits_at-again v small =
    let ds = digits_of 256 v in
    let octets : List ℕ = map mirror (reverse (digits_of 256 v)) in
    let few : length (digits_of 256 v) ≤ 4 = length-digits_of-le 256 4 v (lit≤ tt) (omega arith) in
    let size : length (map mirror (reverse (digits_of 256 v))) ≡ length (digits_of 256 v) = omega (arith, length-map (reverse (digits_of 256 v)) mirror, length-reverse (digits_of 256 v)) in
    let bytes = all-reverse (digits_of 256 v) (all_below_base_digits_of 256 v (lit≤ tt)) in
    let number : mirrored_number (map mirror (reverse (digits_of 256 v))) ≡ v =
    mirrored_number-digits octets ∙ ap (λ ds'. number_from_digits 256 (reverse ds')) (mirrors_twice (reverse (digits_of 256 v)) bytes) ∙ ap (number_from_digits 256) (reverse-reverse (digits_of 256 v)) ∙ number_digits_of 256 v (lit≤ tt)
    in
    rw (le-ltb 4 (length (map mirror (reverse (digits_of 256 v)))) (omega arith), number, size, eq-eqb (unused_bits v) (unused_bits v) refl, eq-eqb (length (digits_of 256 v)) (length (digits_of 256 v)) refl) refl

pub bits_at-none : {P : Type 0} (contents : List ℕ) (v : ℕ) → v < 2 ^ 32 → bits_at contents ≡ None → contents ≡ bits_octets v → P
bits_at-none contents v h e s = no_number v (bits_at contents) e (ap bits_at s ∙ bits_at-again v h)
