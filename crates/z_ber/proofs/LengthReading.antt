-- What reading the length octets gives is what they spell, and nothing else.
use Rattle.std.proofs.Common.{◌≡◌, ◌∙◌, ℕ, ◌+◌, ◌-◌, ◌<◌, ◌≤◌, Bool, true, false, ltb, lit<, zero, suc, inl, inr, List, [], ◌∷◌, ◌++◌, length, drop, Option, Some, None, Result, Ok, Err, sym, ap, subst, arith, refl}
use Rattle.std.specs.Int.Digits.{number_from_digits, AllBelowBase}
use Rattle.std.proofs.lemmas.Bool.{cases_lt, cases_eq, lt-ltb, le-ltb, eq-eqb, ne_eqb}
use Rattle.std.proofs.lemmas.List.{length-append}
use Rattle.z_ber.specs.declared.fault.BerFault.{BerFault}
use Rattle.z_ber.specs.declared.fault.BerFault.TheVariants.{Short, BadLength}
use Rattle.z_ber.specs.Header.{IsLongForm, IsLength}
use Rattle.z_ber.specs.Reading.{padded, long_at, indefinite_at, length_at}
use Rattle.z_ber.proofs.TagReading.{IsBytes, IsBytes-tail}

-- ---- octets with zeros for those that have not come

pub length-padded : (count : ℕ) (bytes : List ℕ) → length (padded count bytes) ≡ count
length-padded zero bytes = refl
length-padded (suc count) [] = ap suc (length-padded count [])
length-padded (suc count) (b ∷ bytes) = ap suc (length-padded count bytes)

pub padded-below : (count : ℕ) (bytes : List ℕ) → IsBytes bytes → AllBelowBase 256 (padded count bytes)
padded-below zero bytes fits = tt
padded-below (suc count) [] fits = (lit< tt, padded-below count [] fits)
padded-below (suc count) (b ∷ bytes) fits = (fits 0, padded-below count bytes (IsBytes-tail b bytes fits))

pub padded-whole : (count : ℕ) (bytes : List ℕ) → count ≤ length bytes → padded count bytes ++ drop count bytes ≡ bytes
padded-whole zero bytes le = refl
padded-whole (suc count) [] le = absurd (omega arith)
padded-whole (suc count) (b ∷ bytes) le = ap (λ l. b ∷ l) (padded-whole count bytes (omega arith))

pub padded-short : (count : ℕ) (bytes : List ℕ) → length bytes ≤ count → (more : List ℕ) × (bytes ++ more ≡ padded count bytes)
padded-short zero [] le = ([], refl)
padded-short zero (b ∷ bytes) le = absurd (omega arith)
padded-short (suc count) [] le = (padded (suc count) [], refl)
padded-short (suc count) (b ∷ bytes) le = let r = padded-short count bytes (omega arith) in (r.0, ap (λ l. b ∷ l) r.1)

pub padded-again : (digits rest : List ℕ) → padded (length digits) (digits ++ rest) ≡ digits
padded-again [] rest = refl
padded-again (d ∷ digits) rest = ap (λ l. d ∷ l) (padded-again digits rest)

pub drop-again : (digits rest : List ℕ) → drop (length digits) (digits ++ rest) ≡ rest
drop-again [] rest = refl
drop-again (d ∷ digits) rest = drop-again digits rest

-- ---- the steps

length_at-short : (c : Bool) (lead : ℕ) (rest : List ℕ) → lead < 128 → length_at c (lead ∷ rest) ≡ Ok (Some lead, rest)
unfolding length_at
length_at-short c lead rest lt = rw (lt-ltb lead 128 lt) refl

length_at-indefinite : (c : Bool) (lead : ℕ) (rest : List ℕ) → lead ≡ 128 → length_at c (lead ∷ rest) ≡ indefinite_at c rest
unfolding length_at
length_at-indefinite c lead rest e = rw (le-ltb lead 128 (omega arith), eq-eqb lead 128 e) refl

length_at-many : (c : Bool) (lead : ℕ) (rest : List ℕ) → 136 < lead → length_at c (lead ∷ rest) ≡ Err BadLength
unfolding length_at
length_at-many c lead rest lt = rw (le-ltb lead 128 (omega arith), ne_eqb lead 128 (λ e. omega arith), lt-ltb 136 lead lt) refl

pub length_at-long : (c : Bool) (lead : ℕ) (rest : List ℕ) → 128 < lead → lead ≤ 136 → length_at c (lead ∷ rest) ≡ long_at (lead - 128) rest
unfolding length_at
length_at-long c lead rest lt le = rw (le-ltb lead 128 (omega arith), ne_eqb lead 128 (λ e. omega arith), le-ltb 136 lead le) refl

-- ---- the outcomes

-- length octets, and what follows them
pub record Lengthed (constructed : Bool) (bytes : List ℕ) (len : Option ℕ) (rest : List ℕ) : Type 0 where
  pub ends : List ℕ
  pub lengths : IsLength constructed ends len
  pub spelled : bytes ≡ ends ++ rest

-- some continuation is length octets
pub record Lengths (constructed : Bool) (bytes : List ℕ) : Type 0 where
  pub more : List ℕ
  pub len : Option ℕ
  pub ends : List ℕ
  pub lengths : IsLength constructed ends len
  pub spelled : bytes ++ more ≡ ends

-- each outcome of reading length octets
abbrev pub LengthRead : Bool → List ℕ → Result (Option ℕ × List ℕ) BerFault → Type 0
LengthRead c bytes (Ok x) = Lengthed c bytes x.0 x.1
LengthRead c bytes (Err Short) = Lengths c bytes
LengthRead c bytes (Err BadLength) = (more : List ℕ) → length_at c (bytes ++ more) ≡ Err BadLength
LengthRead c bytes (Err _) = ⊥

-- a long form of octets that have come or not
pub long_form : (count : ℕ) (rest : List ℕ) → IsBytes rest → 0 < count → count ≤ 8 → IsLongForm ((128 + count) ∷ padded count rest) (number_from_digits 256 (padded count rest))
long_form count rest fits some few = record {
  digits = padded count rest;
  below = padded-below count rest fits;
  some = omega (arith, length-padded count rest);
  few = omega (arith, length-padded count rest);
  number = refl;
  spelled = ap (λ k. (128 + k) ∷ padded count rest) (sym (length-padded count rest));
}

indefinite-read : (c : Bool) (rest : List ℕ) → LengthRead c (128 ∷ rest) (indefinite_at c rest)
indefinite-read true rest = record { ends = 128 ∷ []; lengths = (refl, refl); spelled = refl }
indefinite-read false rest = λ more. length_at-indefinite false 128 (rest ++ more) refl

long-read : (c : Bool) (lead count : ℕ) (rest : List ℕ) → IsBytes rest → 0 < count → count ≤ 8 → lead ≡ 128 + count → LengthRead c (lead ∷ rest) (long_at count rest)
long-read c lead count rest fits some few e =
    elim (cases_lt (length rest) count) [
      | inl short ↦
          let p = padded-short count rest (omega arith) in
          rw (lt-ltb (length rest) count short) (record {
            more = p.0;
            len = Some (number_from_digits 256 (padded count rest));
            ends = (128 + count) ∷ padded count rest;
            lengths = inr (long_form count rest fits some few);
            spelled = ap (λ l. l ∷ (rest ++ p.0)) e ∙ ap (λ l. (128 + count) ∷ l) p.1;
          })
      | inr whole ↦
          rw (le-ltb (length rest) count whole) (record {
            ends = (128 + count) ∷ padded count rest;
            lengths = inr (long_form count rest fits some few);
            spelled = ap (λ l. l ∷ rest) e ∙ ap (λ l. (128 + count) ∷ l) (sym (padded-whole count rest whole));
          })
    ]

pub length_at-read : (c : Bool) (bytes : List ℕ) → IsBytes bytes → LengthRead c bytes (length_at c bytes)
unfolding length_at
length_at-read c [] fits = record { more = 0 ∷ []; len = Some 0; ends = 0 ∷ []; lengths = inl (lit< tt, refl); spelled = refl }
length_at-read c (lead ∷ rest) fits =
    let P : Result (Option ℕ × List ℕ) BerFault → Type 0 = λ r. LengthRead c (lead ∷ rest) r in
    elim (cases_lt lead 128) [
      | inl low ↦
          let r : LengthRead c (lead ∷ rest) (Ok (Some lead, rest)) = record { ends = lead ∷ []; lengths = inl (low, refl); spelled = refl } in
          subst P (sym (length_at-short c lead rest low)) r
      | inr big ↦ elim (cases_eq lead 128) [
        | inl same ↦
            let r : LengthRead c (lead ∷ rest) (indefinite_at c rest) = subst (λ (l : ℕ). LengthRead c (l ∷ rest) (indefinite_at c rest)) (sym same) (indefinite-read c rest) in
            subst P (sym (length_at-indefinite c lead rest same)) r
        | inr other ↦ elim (cases_lt 136 lead) [
          | inl many ↦
              let r : LengthRead c (lead ∷ rest) (Err BadLength) = λ more. length_at-many c lead (rest ++ more) many in
              subst P (sym (length_at-many c lead rest many)) r
          | inr few ↦
              let r = long-read c lead (lead - 128) rest (IsBytes-tail lead rest fits) (omega arith) (omega arith) (omega arith) in
              subst P (sym (length_at-long c lead rest (omega arith) few)) r
        ]
      ]
    ]

-- length octets are read as what they spell
pub length_at-again : (c : Bool) (ends : List ℕ) (len : Option ℕ) (rest : List ℕ) → IsLength c ends len → length_at c (ends ++ rest) ≡ Ok (len, rest)
length_at-again c ends None rest h =
    ap (λ o. length_at c (o ++ rest)) h.1 ∙ length_at-indefinite c 128 rest refl ∙ rw (h.0) refl
length_at-again c ends (Some n) rest (inl h) = ap (λ o. length_at c (o ++ rest)) h.1 ∙ length_at-short c n rest h.0
length_at-again c ends (Some n) rest (inr h) =
    let count : ℕ = length h.digits in
    let back : 128 + length h.digits - 128 ≡ length h.digits = omega arith in
    let come : ltb (length (h.digits ++ rest)) (length h.digits) ≡ false = le-ltb _ _ (omega (arith, length-append h.digits rest)) in
    ap (λ o. length_at c (o ++ rest)) h.spelled ∙ length_at-long c (128 + length h.digits) (h.digits ++ rest) (omega (arith, h.some)) (omega (arith, h.few)) ∙ rw (back, come, padded-again h.digits rest, drop-again h.digits rest, ← (h.number)) refl

-- a fault is not a good answer, and not another fault
short_not_ok : {A P : Type 0} (r : Result A BerFault) (x : A) → r ≡ Err Short → r ≡ Ok x → P
short_not_ok r x p q = absurd cc

short_not_bad : {A P : Type 0} (r : Result A BerFault) → r ≡ Err Short → r ≡ Err BadLength → P
short_not_bad r p q = absurd cc

indefinite_whole : {P : Type 0} (c : Bool) (rest : List ℕ) → indefinite_at c rest ≡ Err Short → P
indefinite_whole true rest e = short_not_ok (indefinite_at true rest) (None, rest) e refl
indefinite_whole false rest e = short_not_bad (indefinite_at false rest) e refl

-- length octets of which some have come and not all
pub length_at-part : (c : Bool) (lead : ℕ) (rest : List ℕ) → length_at c (lead ∷ rest) ≡ Err Short → (128 < lead) × (lead ≤ 136) × (length rest < lead - 128)
length_at-part c lead rest e =
    elim (cases_lt lead 128) [
      | inl low ↦ short_not_ok _ _ e (length_at-short c lead rest low)
      | inr big ↦ elim (cases_eq lead 128) [
        | inl same ↦ indefinite_whole c rest (sym (length_at-indefinite c lead rest same) ∙ e)
        | inr other ↦ elim (cases_lt 136 lead) [
          | inl many ↦ short_not_bad _ e (length_at-many c lead rest many)
          | inr few ↦ elim (cases_lt (length rest) (lead - 128)) [
            | inl short ↦ (omega arith, few, short)
            | inr come ↦
                short_not_ok _ _ e (length_at-long c lead rest (omega arith) few ∙ long_at-whole (lead - 128) rest come)
          ]
        ]
      ]
    ]
  where
    long_at-whole : (count : ℕ) (rest : List ℕ) → count ≤ length rest → long_at count rest ≡ Ok (Some (number_from_digits 256 (padded count rest)), drop count rest)
    long_at-whole count rest le = rw (le-ltb (length rest) count le) refl
