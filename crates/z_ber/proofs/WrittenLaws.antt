-- What is written is lent again, and read as what it was written from.
use Rattle.std.proofs.Common.{◌≡◌, ◌∙◌, ℕ, ◌^◌, ◌<◌, lit≤, zero, suc, Bool, inl, inr, List, [], ◌++◌, length, Option, Some, None, Result, Ok, Err, sym, ap, subst, arith, refl}
use Rattle.std.specs.Int.Digits.{digits_of}
use Rattle.std.proofs.lemmas.Int.Digits.{length-digits_of-le, all_below_base_digits_of, number_digits_of}
use Rattle.std.proofs.lemmas.Bool.{cases_lt}
use Rattle.std.proofs.lemmas.List.{length-append, append-nil}
use Rattle.z_ber.specs.declared.fault.BerFault.{BerFault}
use Rattle.z_ber.specs.declared.fault.BerFault.TheVariants.{Short, BadTag, BadLength, TooLarge, TooDeep}
use Rattle.z_ber.specs.declared.tag.Tag.{Tag}
use Rattle.z_ber.specs.Written.{IsTag, tag_octets, length_octets, element}
use Rattle.z_ber.specs.Header.{IsLength, Begins}
use Rattle.z_ber.specs.Frames.{IsDefinite, IsExtent, IsFrameAt, BeginsWith}
use Rattle.z_ber.specs.Due.{IsRefused}
use Rattle.z_types.specs.OneValue.{HasOneValue}
use Rattle.z_ber.specs.Laws.{IsReadBack}
use Rattle.z_ber.specs.Lent.{Lent, IsFirst, IsNext}
use Rattle.z_ber.proofs.DigitSteps.{has_digit}
use Rattle.z_ber.proofs.ElementLaws.{length_octets-short, length_octets-long}
use Rattle.z_ber.proofs.StepReading.{length-header}
use Rattle.z_ber.proofs.CloseReading.{extent-definite}
use Rattle.z_ber.proofs.LendLaws.{extent-one}

-- ---- an element that is written is a frame

-- the fewest length octets are length octets
length_octets-is : (c : Bool) (n : ℕ) → n < 2 ^ 64 → IsLength c (length_octets n) (Some n)
length_octets-is c n lt =
    elim (cases_lt n 128) [
      | inl low ↦ inl (low, length_octets-short n low)
      | inr big ↦ inr (record {
        digits = digits_of 256 n;
        below = all_below_base_digits_of 256 n (lit≤ tt);
        some = has_digit 256 n (lit≤ tt) (omega arith);
        few = length-digits_of-le 256 8 n (lit≤ tt) (omega (arith, lt));
        number = sym (number_digits_of 256 n (lit≤ tt));
        spelled = length_octets-long n big;
      })
    ]

-- an element that is written is a header and its contents
pub element-definite : (t : Tag) (c : List ℕ) → IsTag t → length c < 2 ^ 64 → IsDefinite (element t c) t c
unfolding element
element-definite t c valid lt = record {
  head = tag_octets t ++ length_octets (length c);
  header = record { valid = valid; ends = length_octets (length c); lengths = length_octets-is t.constructed (length c) lt; spelled = refl };
  spelled = refl;
}

-- an element that is written is a frame with its tag and its contents, on any level
pub element-extent : (k : ℕ) (t : Tag) (c : List ℕ) → 0 < k → IsTag t → length c < 2 ^ 64 → IsExtent k (element t c) t c
element-extent zero t c some valid lt = absurd (omega arith)
element-extent (suc k) t c some valid lt = extent-definite k (element t c) c t (element-definite t c valid lt)

-- ---- what is written is lent again

-- octets with a written element in front begin with a frame
begins_written : (k : ℕ) (t : Tag) (c x : List ℕ) → 0 < k → IsTag t → length c < 2 ^ 64 → Begins (IsFrameAt k) (element t c ++ x)
begins_written k t c x some valid lt = (element t c, x, (t, c, element-extent k t c some valid lt), refl)

-- octets that begin with a frame are not refused
not_refused : {P : Type 0} (k : ℕ) (b : List ℕ) (d : BerFault) → Begins (IsFrameAt k) b → IsRefused k b d → P
not_refused k b Short s h = absurd (h.0 s)
not_refused k b BadTag s h = absurd (h.0 ([], (s.0, s.1, s.2, append-nil b ∙ s.3)))
not_refused k b BadLength s h = absurd (h.0 ([], (s.0, s.1, s.2, append-nil b ∙ s.3)))
not_refused k b (TooLarge n) s h = absurd (h.0 ([], (s.0, s.1, s.2, append-nil b ∙ s.3)))
not_refused k b TooDeep s h = absurd (h.0 ([], (s.0, s.1, s.2, append-nil b ∙ s.3)))

-- the frame that octets with a written element in front begin with is that element
lent_one : (k : ℕ) (t u : Tag) (c body x rest : List ℕ) → 0 < k → IsTag t → length c < 2 ^ 64 → BeginsWith k (element t c ++ x) u body rest → (u ≡ t) × (body ≡ c) × (rest ≡ x)
lent_one k t u c body x rest some valid lt h =
    let one = extent-one k t u (element t c) h.frame c body x rest (element-extent k t c some valid lt) h.extent h.spelled in
    (sym one.0, sym one.1, sym one.2)

-- lending the first element answers the one that was written
pub first_written : (t : Tag) (c x : List ℕ) (answer : Result Lent BerFault) → IsTag t → length c < 2 ^ 64 → IsFirst (element t c ++ x) answer → (lent : Lent) × (answer ≡ Ok lent) × (lent.tag ≡ t) × (lent.body ≡ c)
first_written t c x (Ok lent) valid lt h =
    let one = lent_one 64 t lent.tag c lent.body x h.0 (omega arith) valid lt h.1.begins in
    (lent, refl, one.0, one.1)
first_written t c x (Err d) valid lt h = not_refused 64 (element t c ++ x) d (begins_written 64 t c x (omega arith) valid lt) h

-- the answer is this child, and this is left
abbrev ChildIs : Tag → List ℕ → List ℕ → Lent → Result (Option Lent) BerFault → Type 0
ChildIs t c x new answer = (child : Lent) × (answer ≡ Ok (Some child)) × (child.tag ≡ t) × (child.body ≡ c) × (new.left ≡ x)

-- an element has octets
some_octets : {P : Type 0} (k : ℕ) (t : Tag) (c x : List ℕ) → 0 < k → IsTag t → length c < 2 ^ 64 → element t c ++ x ≡ [] → P
some_octets k t c x some valid lt e =
    let d = element-definite t c valid lt in
    absurd (omega (arith, length-header d.head t (Some (length c)) d.header, ap length e, length-append (element t c) x, ap length d.spelled, length-append d.head c))

-- lending the next child answers the one that was written
pub child_written : (t : Tag) (c x : List ℕ) (old new : Lent) (answer : Result (Option Lent) BerFault) → IsTag t → length c < 2 ^ 64 → 0 < old.levels → old.left ≡ element t c ++ x → IsNext old new answer → ChildIs t c x new answer
child_written t c x old new (Ok None) valid lt some e h = some_octets old.levels t c x some valid lt (sym e ∙ h.0)
child_written t c x old new (Ok (Some child)) valid lt some e h =
    let b : BeginsWith old.levels (element t c ++ x) child.tag child.body new.left = subst (λ (o : List ℕ). BeginsWith old.levels o child.tag child.body new.left) e h.0.begins in
    let one = lent_one old.levels t child.tag c child.body x new.left some valid lt b in
    (child, refl, one.0, one.1, one.2)
child_written t c x old new (Err d) valid lt some e h =
    let r : IsRefused old.levels (element t c ++ x) d = subst (λ (o : List ℕ). IsRefused old.levels o d) e h.2 in
    not_refused old.levels (element t c ++ x) d (begins_written old.levels t c x some valid lt) r

-- ---- what is written is read as what it was written from

-- an answer that is right for the written form of a value is the value, where each written form has one
pub read_back : {A : Type 0} (IsOfKind : A → Type 0) (spell : A → List ℕ) → HasOneValue IsOfKind spell → IsReadBack IsOfKind spell
read_back {A} IsOfKind spell one x None k h = absurd (h x k refl)
read_back {A} IsOfKind spell one x (Some y) k h = ap Some (sym (one x y k h.0 h.1))
