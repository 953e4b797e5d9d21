-- Octets in written form are read as what they spell, and others are not read.
use Rattle.std.proofs.Common.{◌≡◌, ◌∙◌, ℕ, ◌+◌, ◌-◌, ◌*◌, ◌^◌, ◌<◌, Bool, true, false, ◌==◌, ltb, lit≤, inl, inr, List, [], ◌∷◌, ◌++◌, length, take, drop, Option, Some, None, Result, Ok, Err, sym, ap, subst, append_assoc, arith, refl}
use Rattle.std.specs.Int.Digits.{digits_of, number_from_digits_after, AllBelowBase}
use Rattle.std.proofs.lemmas.Int.Digits.{number_digits_of, all_below_base_digits_of, length-digits_of-le}
use Rattle.std.proofs.lemmas.Bool.{cases_lt, lt-ltb, le-ltb, eqb-true, eq-eqb, cases_Bool}
use Rattle.std.proofs.lemmas.List.{length-append, take-append-drop, take_at, drop_at, length-take-le}
use Rattle.z_ber.specs.declared.fault.BerFault.{BerFault}
use Rattle.z_ber.specs.declared.tag.Tag.{Tag}
use Rattle.z_ber.specs.Written.{IsTag, tag_octets, length_octets, element}
use Rattle.z_ber.specs.Header.{IsLength}
use Rattle.z_ber.specs.Reading.{tag_at, length_at, fewest_size, contents_at, fewest_at, written_behind, written_from, written_at}
use Rattle.z_ber.proofs.DigitSteps.{has_digit}
use Rattle.z_ber.proofs.ElementLaws.{length_octets-short, length_octets-long}
use Rattle.z_ber.proofs.TagReading.{IsBytes, TagRead, tag_at-read, tag_at-again}
use Rattle.z_ber.proofs.LengthReading.{LengthRead, length_at-read, length_at-again}
use Rattle.z_ber.proofs.HeaderReading.{IsBytes-suffix}

-- as many digits of one number are the same
pub same_digits : (ds es : List ℕ) (m n : ℕ) → AllBelowBase 256 ds → AllBelowBase 256 es → length ds ≡ length es → number_from_digits_after 256 m ds ≡ number_from_digits_after 256 n es → (m ≡ n) × (ds ≡ es)
same_digits [] [] m n hd he k e = (e, refl)
same_digits [] (x ∷ es) m n hd he k e = absurd (omega arith)
same_digits (d ∷ ds) [] m n hd he k e = absurd (omega arith)
same_digits (d ∷ ds) (x ∷ es) m n hd he k e =
    let r = same_digits ds es (m * 256 + d) (n * 256 + x) hd.1 he.1 (omega arith) e in
    let p : d ≡ x = omega (arith, r.0, hd.0, he.0) in
    let q = r.1 in
    (omega (arith, r.0, hd.0, he.0), cc)

-- length octets of a length, as few as they can be, are the written ones
pub fewest-ends : (c : Bool) (ends : List ℕ) (n : ℕ) → IsLength c ends (Some n) → length ends ≡ fewest_size n → ends ≡ length_octets n
fewest-ends c ends n (inl low) e = low.1 ∙ sym (length_octets-short n low.0)
fewest-ends c ends n (inr long) e =
    elim (cases_lt n 128) [
      | inl lt ↦
          let one : fewest_size n ≡ 1 = rw (lt-ltb n 128 lt) refl in
          absurd (omega (arith, one, e, ap length long.spelled, long.some))
      | inr le ↦
          let many : fewest_size n ≡ 1 + length (digits_of 256 n) = rw (le-ltb n 128 le) refl in
          let k : length long.digits ≡ length (digits_of 256 n) = omega (arith, many, e, ap length long.spelled) in
          let r = same_digits long.digits (digits_of 256 n) 0 0 long.below (all_below_base_digits_of 256 n (lit≤ tt)) k (sym long.number ∙ sym (number_digits_of 256 n (lit≤ tt))) in
          long.spelled ∙ ap (λ (ds : List ℕ). (128 + length ds) ∷ ds) r.1 ∙ sym (length_octets-long n le)
    ]

-- written length octets are length octets
pub length_octets-form : (c : Bool) (n : ℕ) → n < 2 ^ 64 → IsLength c (length_octets n) (Some n)
length_octets-form c n small =
    elim (cases_lt n 128) [
      | inl lt ↦ inl (lt, length_octets-short n lt)
      | inr le ↦ inr (record {
        digits = digits_of 256 n;
        below = all_below_base_digits_of 256 n (lit≤ tt);
        some = has_digit 256 n (lit≤ tt) (omega arith);
        few = length-digits_of-le 256 8 n (lit≤ tt) (omega arith);
        number = sym (number_digits_of 256 n (lit≤ tt));
        spelled = length_octets-long n le;
      })
    ]

pub length-length_octets : (n : ℕ) → length (length_octets n) ≡ fewest_size n
length-length_octets n =
    elim (cases_lt n 128) [
      | inl lt ↦ let s : fewest_size n ≡ 1 = rw (lt-ltb n 128 lt) refl in ap length (length_octets-short n lt) ∙ sym s
      | inr le ↦ let s : fewest_size n ≡ 1 + length (digits_of 256 n) = rw (le-ltb n 128 le) refl in omega (arith, ap length (length_octets-long n le), s)
    ]

-- ---- an element in its written form

abbrev pub Parts : Type 0
Parts = Tag × List ℕ × List ℕ

some_parts : (x y : Parts) (o : Option Parts) → o ≡ Some x → o ≡ Some y → x ≡ y
some_parts x y o p q = cc

no_parts : {P : Type 0} (x : Parts) (o : Option Parts) → o ≡ None → o ≡ Some x → P
no_parts x o p q = absurd cc

abbrev Found : List ℕ → Parts → Type 0
Found bytes x = IsTag x.0 × (bytes ≡ element x.0 x.1 ++ x.2)

contents_found : (bytes : List ℕ) (t : Tag) (n : ℕ) (ends body : List ℕ) (x : Parts) → IsTag t → bytes ≡ tag_octets t ++ (ends ++ body) → ends ≡ length_octets n → contents_at t n body ≡ Some x → Found bytes x
unfolding element
contents_found bytes t n ends body x valid s e h =
    elim (cases_lt (length body) n) [
      | inl lt ↦ let none : contents_at t n body ≡ None = rw (lt-ltb (length body) n lt) refl in no_parts x (contents_at t n body) none h
      | inr le ↦
          let some : contents_at t n body ≡ Some (t, take n body, drop n body) = rw (le-ltb (length body) n le) refl in
          let size : length (take n body) ≡ n = length-take-le n body le in
          let inner : (tag_octets t ++ length_octets (length (take n body)) ++ take n body) ++ drop n body ≡ bytes =
          rw size (simp append_assoc (rw (take-append-drop n body) (ap (λ o. tag_octets t ++ (o ++ body)) (sym e) ∙ sym s)))
          in
          subst (λ (y : Parts). Found bytes y) (some_parts _ _ (contents_at t n body) some h) (valid, sym inner)
    ]

fewest_found : (bytes : List ℕ) (t : Tag) (len : Option ℕ) (ends body : List ℕ) (x : Parts) → IsTag t → bytes ≡ tag_octets t ++ (ends ++ body) → IsLength t.constructed ends len → fewest_at t (length ends) len body ≡ Some x → Found bytes x
fewest_found bytes t None ends body x valid s l h = no_parts x None refl h
fewest_found bytes t (Some n) ends body x valid s l h =
    elim (cases_Bool (length ends == fewest_size n)) [
      | inl same ↦
          let e = eqb-true (length ends) (fewest_size n) same in
          let on : fewest_at t (length ends) (Some n) body ≡ contents_at t n body = rw same refl in
          contents_found bytes t n ends body x valid s (fewest-ends t.constructed ends n l e) (sym on ∙ h)
      | inr other ↦
          let off : fewest_at t (length ends) (Some n) body ≡ None = rw other refl in
          no_parts x (fewest_at t (length ends) (Some n) body) off h
    ]

length_found : (bytes : List ℕ) (t : Tag) (rest : List ℕ) (x : Parts) (r : Result (Option ℕ × List ℕ) BerFault) → IsTag t → bytes ≡ tag_octets t ++ rest → LengthRead t.constructed rest r → written_behind t (length rest) r ≡ Some x → Found bytes x
length_found bytes t rest x (Ok l) valid s h e =
    let size : length rest - length l.1 ≡ length h.ends = omega (arith, ap length h.spelled, length-append h.ends l.1) in
    fewest_found bytes t l.0 h.ends l.1 x valid (s ∙ ap (λ o. tag_octets t ++ o) h.spelled) h.lengths (ap (λ k. fewest_at t k l.0 l.1) (sym size) ∙ e)
length_found bytes t rest x (Err d) valid s h e = no_parts x None refl e

tag_found : (bytes : List ℕ) (x : Parts) (r : Result (Tag × List ℕ) BerFault) → IsBytes bytes → TagRead bytes r → written_from r ≡ Some x → Found bytes x
tag_found bytes x (Ok t) fits h e =
    length_found bytes t.0 t.1 x (length_at t.0.constructed t.1) h.0 h.1 (length_at-read t.0.constructed t.1 (IsBytes-suffix (tag_octets t.0) t.1 (subst (λ (b : List ℕ). IsBytes b) h.1 fits))) e
tag_found bytes x (Err d) fits h e = no_parts x None refl e

pub written_at-found : (bytes : List ℕ) (t : Tag) (c rest : List ℕ) → IsBytes bytes → written_at bytes ≡ Some (t, c, rest) → IsTag t × (bytes ≡ element t c ++ rest)
unfolding written_at
written_at-found bytes t c rest fits e = tag_found bytes (t, c, rest) (tag_at bytes) fits (tag_at-read bytes fits) e

pub written_at-again : (t : Tag) (c rest : List ℕ) → IsTag t → length c < 2 ^ 64 → written_at (element t c ++ rest) ≡ Some (t, c, rest)
unfolding written_at element
written_at-again t c rest valid small =
    let n : ℕ = length c in
    let apart : element t c ++ rest ≡ tag_octets t ++ (length_octets (length c) ++ (c ++ rest)) = simp append_assoc in
    let tagged : tag_at (element t c ++ rest) ≡ Ok (t, length_octets (length c) ++ (c ++ rest)) = ap tag_at apart ∙ tag_at-again t (length_octets (length c) ++ (c ++ rest)) valid in
    let lengthed : length_at t.constructed (length_octets (length c) ++ (c ++ rest)) ≡ Ok (Some (length c), c ++ rest) =
    length_at-again t.constructed (length_octets (length c)) (Some (length c)) (c ++ rest) (length_octets-form t.constructed (length c) small)
    in
    let size : length (length_octets (length c) ++ (c ++ rest)) - length (c ++ rest) ≡ fewest_size (length c) =
    omega (arith, length-append (length_octets (length c)) (c ++ rest), length-length_octets (length c))
    in
    let same : (fewest_size (length c) == fewest_size (length c)) ≡ true = eq-eqb (fewest_size (length c)) (fewest_size (length c)) refl in
    let come : ltb (length (c ++ rest)) (length c) ≡ false = le-ltb _ _ (omega (arith, length-append c rest)) in
    ap written_from tagged ∙ ap (written_behind t (length (length_octets (length c) ++ (c ++ rest)))) lengthed ∙ ap (λ k. fewest_at t k (Some (length c)) (c ++ rest)) size ∙ rw (same, come, take_at c rest (length c) refl, drop_at c rest (length c) refl) refl

pub written_at-none : {P : Type 0} (bytes : List ℕ) (t : Tag) (c rest : List ℕ) → length bytes < 2 ^ 64 → written_at bytes ≡ None → IsTag t → bytes ≡ element t c ++ rest → P
unfolding element
written_at-none bytes t c rest small e valid s =
    let k = length-append (tag_octets t ++ length_octets (length c)) c in
    let j = length-append (element t c) rest in
    no_parts (t, c, rest) (written_at bytes) e (ap written_at s ∙ written_at-again t c rest valid (omega (arith, ap length s, j, k)))
