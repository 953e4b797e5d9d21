-- What reading the identifier octets gives is what they spell, and nothing else.
use Rattle.std.proofs.Common.{◌≡◌, ◌∙◌, ◌⊎◌, ℕ, ◌+◌, ◌-◌, ◌*◌, ◌^◌, ◌/◌, ◌%◌, ◌<◌, ◌≤◌, Bool, true, false, ◌||◌, ◌==◌, ltb, eqb, lit≤, lit<, zero, suc, inl, inr, List, [], ◌∷◌, ◌++◌, length, get_or, map, Result, Ok, Err, sym, ap, subst, append_assoc, arith, refl}
use Rattle.std.specs.Int.Digits.{digits_of, number_from_digits_after, AllBelowBase}
use Rattle.std.proofs.lemmas.Int.Digits.{digits_of_step, number_after_ge, number_digits_of, all_below_base_digits_of, first_digits_of}
use Rattle.std.proofs.lemmas.Bool.{cases_lt, lt-ltb, le-ltb, ltb-false, ne_eqb, or_parts}
use Rattle.std.proofs.lemmas.List.{map-append, get_or_default}
use Rattle.z_ber.specs.declared.fault.BerFault.{BerFault}
use Rattle.z_ber.specs.declared.fault.BerFault.TheVariants.{Short, BadTag}
use Rattle.z_ber.specs.declared.tag.Tag.{Tag}
use Rattle.z_ber.specs.Written.{IsTag, form_bit, septets, tag_octets}
use Rattle.z_ber.specs.Reading.{◌>>=◌, number_end, septets_at, tag_of, tag_at}
use Rattle.z_ber.proofs.DigitSteps.{has_digit}
use Rattle.z_ber.proofs.ElementLaws.{tag_octets-low, tag_octets-high}

-- each octet is below 256
abbrev pub IsBytes : List ℕ → Type 0
IsBytes bytes = (i : ℕ) → get_or bytes i 0 < 256

pub IsBytes-tail : (b : ℕ) (bytes : List ℕ) → IsBytes (b ∷ bytes) → IsBytes bytes
IsBytes-tail b bytes h i = h (suc i)

abbrev pub marked : ℕ → List ℕ
marked high = map (λ digit. 128 + digit) (digits_of 128 high)

-- one digit more
pub marked-more : (high d : ℕ) → d < 128 → 0 < high * 128 + d → marked (high * 128 + d) ≡ marked high ++ (128 + d) ∷ []
marked-more high d lt pos =
    let q : (high * 128 + d) / 128 ≡ high = omega arith in
    let r : (high * 128 + d) % 128 ≡ d = omega arith in
    ap (map (λ digit. 128 + digit)) (digits_of_step 128 (high * 128 + d) (lit≤ tt) pos ∙ rw (q, r) refl) ∙ map-append (λ digit. 128 + digit) (digits_of 128 high) (d ∷ [])

-- the last digit
pub septets-end : (high d : ℕ) → d < 128 → septets (high * 128 + d) ≡ marked high ++ d ∷ []
unfolding septets
septets-end high d lt =
    let q : (high * 128 + d) / 128 ≡ high = omega arith in
    let r : (high * 128 + d) % 128 ≡ d = omega arith in
    rw (q, r) refl

-- what the readers of src/ say of a number: valid, and spelled by the octets before and the octets at hand
pub record Numbered (high : ℕ) (bytes : List ℕ) (n : ℕ) (rest : List ℕ) : Type 0 where
  pub least : 31 ≤ n
  pub most : n < 2 ^ 31
  pub spelled : marked high ++ bytes ≡ septets n ++ rest

-- some continuation of one octet spells a number
pub record Numbers (high : ℕ) (bytes : List ℕ) : Type 0 where
  pub more : List ℕ
  pub one : length more ≡ 1
  pub number : ℕ
  pub least : 31 ≤ number
  pub most : number < 2 ^ 31
  pub spelled : marked high ++ (bytes ++ more) ≡ septets number

-- each outcome of reading a number
abbrev pub NumberRead : ℕ → List ℕ → Result (ℕ × List ℕ) BerFault → Type 0
NumberRead high bytes (Ok x) = Numbered high bytes x.0 x.1
NumberRead high bytes (Err Short) = Numbers high bytes
NumberRead high bytes (Err BadTag) = (more : List ℕ) → septets_at high (bytes ++ more) ≡ Err BadTag
NumberRead high bytes (Err _) = ⊥

number_end-read : (high d : ℕ) (rest : List ℕ) → high < 2 ^ 24 → d < 128 → NumberRead high (d ∷ rest) (number_end (high * 128 + d) rest)
number_end-read high d rest hl lt =
    elim (cases_lt (high * 128 + d) 31) [
      | inl low ↦ rw (lt-ltb (high * 128 + d) 31 low) (λ more. rw (lt-ltb d 128 lt, lt-ltb (high * 128 + d) 31 low) refl)
      | inr least ↦ rw (le-ltb (high * 128 + d) 31 least) (record {
        least = least;
        most = omega arith;
        spelled = sym (append_assoc (marked high) (d ∷ []) rest) ∙ ap (λ l. l ++ rest) (sym (septets-end high d lt));
      })
    ]

read-more : (high d : ℕ) (rest : List ℕ) → d < 128 → 0 < high * 128 + d → (r : Result (ℕ × List ℕ) BerFault) → ((more : List ℕ) → septets_at high ((128 + d) ∷ (rest ++ more)) ≡ septets_at (high * 128 + d) (rest ++ more)) → NumberRead (high * 128 + d) rest r → NumberRead high ((128 + d) ∷ rest) r
read-more high d rest lt pos (Ok x) same h = record {
  least = h.least;
  most = h.most;
  spelled = sym (append_assoc (marked high) ((128 + d) ∷ []) rest) ∙ ap (λ l. l ++ rest) (sym (marked-more high d lt pos)) ∙ h.spelled;
}
read-more high d rest lt pos (Err Short) same h = record {
  more = h.more;
  one = h.one;
  number = h.number;
  least = h.least;
  most = h.most;
  spelled = sym (append_assoc (marked high) ((128 + d) ∷ []) (rest ++ h.more)) ∙ ap (λ l. l ++ (rest ++ h.more)) (sym (marked-more high d lt pos)) ∙ h.spelled;
}
read-more high d rest lt pos (Err BadTag) same h = λ more. same more ∙ h more
read-more high d rest lt pos (Err _) same h = absurd h

-- ---- one octet of a number

pub septets_at-low : (high d : ℕ) (rest : List ℕ) → d < 128 → septets_at high (d ∷ rest) ≡ number_end (high * 128 + d) rest
septets_at-low high d rest lt = rw (lt-ltb d 128 lt) refl

abbrev pub IsOut : ℕ → Bool
IsOut number = (number == 0) || ltb 16777215 number

pub septets_at-bad : (high octet : ℕ) (rest : List ℕ) → 128 ≤ octet → IsOut (high * 128 + (octet - 128)) ≡ true → septets_at high (octet ∷ rest) ≡ Err BadTag
septets_at-bad high octet rest le out = rw (le-ltb octet 128 le, out) refl

pub septets_at-more : (high octet : ℕ) (rest : List ℕ) → 128 ≤ octet → IsOut (high * 128 + (octet - 128)) ≡ false → septets_at high (octet ∷ rest) ≡ septets_at (high * 128 + (octet - 128)) rest
septets_at-more high octet rest le out = rw (le-ltb octet 128 le, out) refl

abbrev either_case : (b : Bool) → (b ≡ true) ⊎ (b ≡ false)
either_case true = inl refl
either_case false = inr refl

pub IsOut-not : (number : ℕ) → IsOut number ≡ false → (0 < number) × (number < 2 ^ 24)
IsOut-not number e =
    let n = or_parts (eqb number 0) (ltb 16777215 number) e in
    (not_zero number n.0, omega (arith, ltb-false 16777215 number n.1))
  where
    not_zero : (k : ℕ) → eqb k 0 ≡ false → 0 < k
    not_zero zero e' = absurd cc
    not_zero (suc k) e' = omega arith

pub IsOut-no : (number : ℕ) → 0 < number → number < 2 ^ 24 → IsOut number ≡ false
IsOut-no number pos lt = rw (ne_eqb number 0 (λ e. omega arith), le-ltb 16777215 number (omega arith)) refl

-- each outcome of reading a number is right
pub septets_at-read : (high : ℕ) (bytes : List ℕ) → high < 2 ^ 24 → IsBytes bytes → NumberRead high bytes (septets_at high bytes)
septets_at-read high [] lt fits = record {
  more = 31 ∷ [];
  one = refl;
  number = high * 128 + 31;
  least = omega arith;
  most = omega arith;
  spelled = sym (septets-end high 31 (lit< tt));
}
septets_at-read high (octet ∷ rest) lt fits =
    elim (cases_lt octet 128) [
      | inl low ↦ rw (septets_at-low high octet rest low) (number_end-read high octet rest lt low)
      | inr big ↦
          let d : ℕ = octet - 128 in
          let small : octet < 256 = fits 0 in
          elim (either_case (IsOut (high * 128 + (octet - 128)))) [
            | inl out ↦ rw (septets_at-bad high octet rest big out) (λ more. septets_at-bad high octet (rest ++ more) big out)
            | inr fine ↦
                let n : (0 < high * 128 + (octet - 128)) × (high * 128 + (octet - 128) < 2 ^ 24) = IsOut-not _ fine in
                let again : 128 + (octet - 128) ≡ octet = omega arith in
                let r = septets_at-read (high * 128 + (octet - 128)) rest n.1 (IsBytes-tail octet rest fits) in
                let whole = read-more high (octet - 128) rest (omega arith) n.0 _ (λ more. subst (λ (o : ℕ). septets_at high (o ∷ (rest ++ more)) ≡ septets_at (high * 128 + (octet - 128)) (rest ++ more)) (sym again) (septets_at-more high octet (rest ++ more) big fine)) r in
                subst (λ (x : Result (ℕ × List ℕ) BerFault). NumberRead high (octet ∷ rest) x) (sym (septets_at-more high octet rest big fine)) (subst (λ (o : ℕ). NumberRead high (o ∷ rest) (septets_at (high * 128 + (octet - 128)) rest)) again whole)
          ]
    ]

-- what spells a number is read as it
again_after : (ds : List ℕ) (high d : ℕ) (rest : List ℕ) → AllBelowBase 128 ds → d < 128 → (0 < high) ⊎ (0 < get_or ds 0 1) → number_from_digits_after 128 high ds < 2 ^ 24 → 31 ≤ number_from_digits_after 128 high ds * 128 + d → septets_at high (map (λ digit. 128 + digit) ds ++ d ∷ rest) ≡ Ok (number_from_digits_after 128 high ds * 128 + d, rest)
again_after [] high d rest below lt first most least =
    septets_at-low high d rest lt ∙ rw (le-ltb (high * 128 + d) 31 least) refl
again_after (e ∷ ds) high d rest below lt first most least =
    let back : 128 + e - 128 ≡ e = omega arith in
    let pos : 0 < high * 128 + e = elim first [ inl p ↦ omega arith | inr p ↦ omega arith ] in
    let up = number_after_ge 128 (high * 128 + e) ds (lit< tt) in
    let fine : IsOut (high * 128 + (128 + e - 128)) ≡ false = rw back (IsOut-no (high * 128 + e) pos (omega arith)) in
    septets_at-more high (128 + e) (map (λ digit. 128 + digit) ds ++ d ∷ rest) (omega arith) fine ∙ rw back (again_after ds (high * 128 + e) d rest below.1 lt (inl pos) most least)

digits-first : (n : ℕ) → (0 < 0) ⊎ (0 < get_or (digits_of 128 n) 0 1)
digits-first n =
    elim (cases_lt 0 n) [
      | inl pos ↦ inr (
          let many = has_digit 128 n (lit≤ tt) pos in
          omega (arith, first_digits_of 128 n (lit≤ tt) pos, get_or_default (digits_of 128 n) 0 0 1 many))
      | inr none ↦ inr (
          let zero-is : 0 ≡ n = omega arith in
          subst (λ (k : ℕ). 0 < get_or (digits_of 128 k) 0 1) zero-is (lit< tt))
    ]

pub septets_at-again : (n : ℕ) (rest : List ℕ) → 31 ≤ n → n < 2 ^ 31 → septets_at 0 (septets n ++ rest) ≡ Ok (n, rest)
unfolding septets
septets_at-again n rest least most =
    let ds = digits_of 128 (n / 128) in
    let value : number_from_digits_after 128 0 ds ≡ n / 128 = number_digits_of 128 (n / 128) (lit≤ tt) in
    let whole : n / 128 * 128 + n % 128 ≡ n = omega arith in
    let r = again_after ds 0 (n % 128) rest (all_below_base_digits_of 128 (n / 128) (lit≤ tt)) (omega arith) (digits-first (n / 128)) (omega (arith, value)) (omega (arith, value)) in
    ap (septets_at 0) (append_assoc (map (λ digit. 128 + digit) ds) (n % 128 ∷ []) rest) ∙ r ∙ rw (value, whole) refl

-- ---- identifier octets

-- some continuation of one octet is the identifier octets of a tag
pub record Tags (bytes : List ℕ) : Type 0 where
  pub more : List ℕ
  pub one : length more ≡ 1
  pub tag : Tag
  pub valid : IsTag tag
  pub spelled : bytes ++ more ≡ tag_octets tag

-- each outcome of reading identifier octets
abbrev pub TagRead : List ℕ → Result (Tag × List ℕ) BerFault → Type 0
TagRead bytes (Ok x) = IsTag x.0 × (bytes ≡ tag_octets x.0 ++ x.1)
TagRead bytes (Err Short) = Tags bytes
TagRead bytes (Err BadTag) = (more : List ℕ) → tag_at (bytes ++ more) ≡ Err BadTag
TagRead bytes (Err _) = ⊥

form_bit-bit : (x : ℕ) → x < 2 → form_bit (x == 1) ≡ 32 * x
form_bit-bit zero lt = refl
form_bit-bit (suc zero) lt = refl
form_bit-bit (suc (suc x)) lt = absurd (omega arith)

-- a lead octet in its parts
lead-is : (lead k : ℕ) → lead % 32 ≡ k → 64 * (lead / 64) + form_bit (lead / 32 % 2 == 1) + k ≡ lead
lead-is lead k e = let f = form_bit-bit (lead / 32 % 2) (omega arith) in omega (arith, f)

tag_at-low : (lead : ℕ) (rest : List ℕ) → lead % 32 < 31 → tag_at (lead ∷ rest) ≡ Ok (tag_of lead (lead % 32), rest)
unfolding tag_at
tag_at-low lead rest lt = rw (lt-ltb (lead % 32) 31 lt) refl

tag_at-high : (lead : ℕ) (rest : List ℕ) → 31 ≤ lead % 32 → tag_at (lead ∷ rest) ≡ (septets_at 0 rest >>= λ n. Ok (tag_of lead n.0, n.1))
unfolding tag_at
tag_at-high lead rest le = rw (le-ltb (lead % 32) 31 le) refl

abbrev tagged : ℕ → Result (ℕ × List ℕ) BerFault → Result (Tag × List ℕ) BerFault
tagged lead r = r >>= λ n. Ok (tag_of lead n.0, n.1)

high-read : (lead : ℕ) (rest : List ℕ) → lead < 256 → 31 ≤ lead % 32 → (r : Result (ℕ × List ℕ) BerFault) → NumberRead 0 rest r → TagRead (lead ∷ rest) (tagged lead r)
high-read lead rest lt le (Ok x) h =
    let t = tag_of lead x.0 in
    let whole : 64 * (lead / 64) + form_bit (lead / 32 % 2 == 1) + 31 ≡ lead = lead-is lead 31 (omega arith) in
    ((omega arith, h.most), sym (ap (λ o. o ++ x.1) (tag_octets-high t h.least ∙ ap (λ l. l ∷ septets x.0) whole) ∙ ap (λ o. lead ∷ o) (sym h.spelled)))
high-read lead rest lt le (Err Short) h =
    let t = tag_of lead h.number in
    let whole : 64 * (lead / 64) + form_bit (lead / 32 % 2 == 1) + 31 ≡ lead = lead-is lead 31 (omega arith) in
    record {
      more = h.more;
      one = h.one;
      tag = t;
      valid = (omega arith, h.most);
      spelled = ap (λ o. lead ∷ o) h.spelled ∙ sym (tag_octets-high t h.least ∙ ap (λ l. l ∷ septets h.number) whole);
    }
high-read lead rest lt le (Err BadTag) h = λ more. tag_at-high lead (rest ++ more) le ∙ ap (tagged lead) (h more)
high-read lead rest lt le (Err _) h = absurd h

pub tag_at-read : (bytes : List ℕ) → IsBytes bytes → TagRead bytes (tag_at bytes)
unfolding tag_at
tag_at-read [] fits = record {
  more = 0 ∷ [];
  one = refl;
  tag = record { class = 0; constructed = false; number = 0 };
  valid = (lit< tt, lit< tt);
  spelled = sym (tag_octets-low (record { class = 0; constructed = false; number = 0 }) (lit< tt));
}
tag_at-read (lead ∷ rest) fits =
    elim (cases_lt (lead % 32) 31) [
      | inl low ↦
          let t = tag_of lead (lead % 32) in
          let r : TagRead (lead ∷ rest) (Ok (tag_of lead (lead % 32), rest)) =
          ((omega (arith, fits 0), omega arith), sym (ap (λ o. o ++ rest) (tag_octets-low t low ∙ ap (λ l. l ∷ []) (lead-is lead (lead % 32) refl))))
          in
          subst (λ (x : Result (Tag × List ℕ) BerFault). TagRead (lead ∷ rest) x) (sym (tag_at-low lead rest low)) r
      | inr high ↦
          subst (λ (x : Result (Tag × List ℕ) BerFault). TagRead (lead ∷ rest) x) (sym (tag_at-high lead rest high)) (high-read lead rest (fits 0) high (septets_at 0 rest) (septets_at-read 0 rest (lit< tt) (IsBytes-tail lead rest fits)))
    ]

bit-form_bit : (c k : ℕ) (f : Bool) → k < 32 → ((64 * c + form_bit f + k) / 32 % 2 == 1) ≡ f
bit-form_bit c k true lt = let e : (64 * c + 32 + k) / 32 % 2 ≡ 1 = omega arith in rw e refl
bit-form_bit c k false lt = let e : (64 * c + 0 + k) / 32 % 2 ≡ 0 = omega arith in rw e refl

parts : (c k : ℕ) (f : Bool) → k < 32 → ((64 * c + form_bit f + k) / 64 ≡ c) × ((64 * c + form_bit f + k) % 32 ≡ k)
parts c k true lt = (omega arith, omega arith)
parts c k false lt = (omega arith, omega arith)

-- the identifier octets of a tag are read as it
pub tag_at-again : (t : Tag) (rest : List ℕ) → IsTag t → tag_at (tag_octets t ++ rest) ≡ Ok (t, rest)
tag_at-again t rest valid =
    elim (cases_lt t.number 31) [
      | inl low ↦
          let lead : ℕ = 64 * t.class + form_bit t.constructed + t.number in
          let p = parts t.class t.number t.constructed (omega arith) in
          let b = bit-form_bit t.class t.number t.constructed (omega arith) in
          let small : (64 * t.class + form_bit t.constructed + t.number) % 32 < 31 = omega (arith, p.1) in
          ap (λ o. tag_at (o ++ rest)) (tag_octets-low t low) ∙ tag_at-low lead rest small ∙ rw (p.0, b, p.1) refl
      | inr high ↦
          let lead : ℕ = 64 * t.class + form_bit t.constructed + 31 in
          let p = parts t.class 31 t.constructed (lit< tt) in
          let b = bit-form_bit t.class 31 t.constructed (lit< tt) in
          let big : 31 ≤ (64 * t.class + form_bit t.constructed + 31) % 32 = omega (arith, p.1) in
          ap (λ o. tag_at (o ++ rest)) (tag_octets-high t high) ∙ tag_at-high lead (septets t.number ++ rest) big ∙ ap (tagged lead) (septets_at-again t.number rest high valid.1) ∙ rw (p.0, b) refl
    ]
