-- What a connection goes on with decides what its step did.
use Rattle.std.proofs.Common.{◌≡◌, ◌==◌, ℕ, Bool, true, false, List, [], ◌∷◌, ◌++◌, length, take, Option, Some, None, Result, Ok, Err, refl, sym, ap, ◌∙◌, subst, inl, inr, arith, length-append}
use Rattle.std.proofs.lemmas.Bool.{and_parts, eqb-true}
use Rattle.std.specs.Prelude.{if◌then◌else◌}
use Rattle.std.specs.Char.{is_ascii_alphabetic}
use Rattle.z_types.specs.declared.marks.End.{End}
use Rattle.z_types.specs.declared.marks.End.TheVariants.{Finished, Cut}
use Rattle.z_ber.specs.Frames.{IsFrame}
use Rattle.z_frame.specs.Framing.{Framing, IsGiven}
use Rattle.front_z.specs.gateway_rules.Answers as kind
use Rattle.front_z.specs.gateway_rules.Answers.{kind_of, IsOpen, IsBad}
use Rattle.front_conn.specs.steps.States.{ConnectionState}
use Rattle.sru_request.specs.Head.{head_length}
use Rattle.sru_request.specs.Request.{IsAnswerIn, IsHeadAnswer, most_head_octets}
use Rattle.sru_request.specs.declared.faults.HeadFault.{HeadFault}
use Rattle.sru_request.specs.declared.head.Get.{Get}
use Rattle.sru_request.specs.declared.head.HeadGot.{HeadGot}
use Rattle.sru_request.specs.declared.head.HeadGot.TheVariants.{Got, NeedMore}
use Rattle.front_http.specs.Seeking.{IsHeadOf}
use Rattle.front_conn.specs.steps.Steps.{NothingWaits, AreUnfinished, BeginsWithLetter}
use Rattle.front_conn.specs.steps.Ahead.{AreAhead, IsOctetAhead, StaysGood, Stays, is_letter_first, end_or_nothing}
use Rattle.front_conn.specs.declared.ahead.Ahead.TheVariants.{Nothing, Ended, Bad, Whole, Head}
use Rattle.front_conn.proofs.EndLemmas.{EndsSo, BadSo, frame-octets}

-- ---- the first octet

-- behind no letter a unit can stand
no-letter : (at octet : ℕ) → is_letter_first at octet ≡ false → at ≡ 0 → is_ascii_alphabetic octet ≡ false
no-letter at octet h zero = subst (λ (a : ℕ). is_letter_first a octet ≡ false) zero h

unit-kind : (at octet : ℕ) (octets : List ℕ) → is_letter_first at octet ≡ false → at ≡ 0
    → kind_of (octet ∷ octets) ≡ kind.unit
unit-kind at octet octets h zero = ap (λ b. if b then kind.letter else kind.unit) (no-letter at octet h zero)

-- and behind one none, but a head
is-first : (at octet : ℕ) → is_letter_first at octet ≡ true → (at ≡ 0) × (is_ascii_alphabetic octet ≡ true)
is-first at octet h =
    let both = and_parts (at == 0) (is_ascii_alphabetic octet) h in
    (eqb-true at 0 both.0, both.1)

letter-kind : (octet : ℕ) (octets : List ℕ) → is_ascii_alphabetic octet ≡ true → kind_of (octet ∷ octets) ≡ kind.letter
letter-kind octet octets h = ap (λ b. if b then kind.letter else kind.unit) h

-- ---- the end of the input

ended-one : (has_ended : Bool) (end other : End) → Ended end ≡ end_or_nothing has_ended other
    → (has_ended ≡ true) × (end ≡ other)
ended-one true end other h = (refl, cc)
ended-one false end other h = absurd cc

ended-octet : (letter has_ended : Bool) (old new : Framing) (end : End) (octet : ℕ) (octets : List ℕ)
    → is_letter_first old.end octet ≡ letter → old.rest ≡ octet ∷ octets
    → IsOctetAhead letter has_ended old new (Ended end)
    → (has_ended ≡ true) × EndsSo old.end (octet ∷ octets) end × StaysGood old new
ended-octet true has_ended old new end octet octets first rest h =
    let one = ended-one has_ended end (Cut (length old.rest)) h.0.0 in
    let is = is-first old.end octet first in (
      one.0,
      (
        one.1 ∙ ap (λ l. Cut (length l)) rest,
        inr (is.0, letter-kind octet octets is.1, subst (λ (o : List ℕ). IsHeadAnswer o (Ok NeedMore)) rest h.0.1),
      ),
      h.1,
    )
ended-octet false has_ended old new end octet octets first rest h =
    let one = ended-one has_ended end (Cut (length old.rest)) h.0 in (
      one.0,
      (one.1 ∙ ap (λ l. Cut (length l)) rest, inl (subst IsOpen rest h.1, unit-kind old.end octet octets first)),
      h.2,
    )

-- the input has ended, and so do the octets that were not taken
pub ahead-ended : (left : List ℕ) (has_ended : Bool) (old new : Framing) (end : End) → old.rest ≡ left
    → AreAhead left has_ended old new (Ended end)
    → (has_ended ≡ true) × EndsSo old.end left end × StaysGood old new
ahead-ended [] has_ended old new end rest h =
    let one = ended-one has_ended end Finished h.0 in (one.0, one.1, h.1)
ahead-ended (octet ∷ octets) has_ended old new end rest h =
    ended-octet (is_letter_first old.end octet) has_ended old new end octet octets refl rest h

-- ---- nothing

nothing-one : (has_ended : Bool) (other : End) → Nothing ≡ end_or_nothing has_ended other → has_ended ≡ false
nothing-one true other h = absurd cc
nothing-one false other h = refl

nothing-octet : {S : Type 0} (letter has_ended : Bool) (old new : Framing) (state : ConnectionState S) (octet : ℕ) (octets : List ℕ)
    → state.at ≡ old.end → is_letter_first old.end octet ≡ letter → old.rest ≡ octet ∷ octets
    → IsOctetAhead letter has_ended old new Nothing
    → (has_ended ≡ false) × AreUnfinished state (octet ∷ octets) × StaysGood old new
nothing-octet true has_ended old new state octet octets at first rest h =
    let is = is-first old.end octet first in (
      nothing-one has_ended (Cut (length old.rest)) h.0.0,
      record {
        head = λ letter. subst (λ (o : List ℕ). IsHeadAnswer o (Ok NeedMore)) rest h.0.1;
        unit = λ other. absurd (other (at ∙ is.0, is.1));
      },
      h.1,
    )
nothing-octet false has_ended old new state octet octets at first rest h =
    let no : BeginsWithLetter state octet → ⊥ = λ letter.
    let none = no-letter old.end octet first (sym at ∙ letter.0) in
    let some = letter.1 in absurd cc in (
      nothing-one has_ended (Cut (length old.rest)) h.0,
      record { head = λ letter. absurd (no letter); unit = λ other. subst IsOpen rest h.1 },
      h.2,
    )

-- no whole unit has come, and the input goes on
pub ahead-nothing : {S : Type 0} (left : List ℕ) (has_ended : Bool) (old new : Framing) (state : ConnectionState S) → state.at ≡ old.end
    → old.rest ≡ left → AreAhead left has_ended old new Nothing
    → (has_ended ≡ false) × AreUnfinished state left × StaysGood old new
ahead-nothing [] has_ended old new state at rest h = (nothing-one has_ended Finished h.0, tt, h.1)
ahead-nothing (octet ∷ octets) has_ended old new state at rest h =
    nothing-octet (is_letter_first old.end octet) has_ended old new state octet octets at refl rest h

-- ---- octets that are no unit

bad-none : (at : ℕ) (has_ended : Bool) (other : End) → Bad at ≡ end_or_nothing has_ended other → ⊥
bad-none at true other h = absurd cc
bad-none at false other h = absurd cc

bad-octet : (letter has_ended : Bool) (old new : Framing) (at octet : ℕ) (octets : List ℕ)
    → is_letter_first old.end octet ≡ letter → old.rest ≡ octet ∷ octets
    → IsOctetAhead letter has_ended old new (Bad at) → BadSo old.end (octet ∷ octets) at × Stays old new
bad-octet true has_ended old new at octet octets first rest h = absurd (bad-none at has_ended (Cut (length old.rest)) h.0.0)
bad-octet false has_ended old new at octet octets first rest h =
    ((subst IsBad rest h.1, h.0, unit-kind old.end octet octets first), h.2)

-- no continuation begins with a unit
pub ahead-bad : (left : List ℕ) (has_ended : Bool) (old new : Framing) (at : ℕ) → old.rest ≡ left
    → AreAhead left has_ended old new (Bad at) → BadSo old.end left at × Stays old new
ahead-bad [] has_ended old new at rest h = absurd (bad-none at has_ended Finished h.0)
ahead-bad (octet ∷ octets) has_ended old new at rest h =
    bad-octet (is_letter_first old.end octet) has_ended old new at octet octets refl rest h

-- ---- a unit

-- a unit stands there, behind no letter
pub record IsUnitThere (left : List ℕ) (old new : Framing) (start end : ℕ) : Type 0 where
  pub first : old.end ≡ 0 → kind_of left ≡ kind.unit
  pub from : start ≡ old.end
  pub given : IsGiven old new start end

whole-none : (start end : ℕ) (has_ended : Bool) (other : End) → Whole start end ≡ end_or_nothing has_ended other → ⊥
whole-none start end true other h = absurd cc
whole-none start end false other h = absurd cc

whole-octet : (letter has_ended : Bool) (old new : Framing) (start end octet : ℕ) (octets : List ℕ)
    → is_letter_first old.end octet ≡ letter → IsOctetAhead letter has_ended old new (Whole start end)
    → IsUnitThere (octet ∷ octets) old new start end
whole-octet true has_ended old new start end octet octets first h =
    absurd (whole-none start end has_ended (Cut (length old.rest)) h.0.0)
whole-octet false has_ended old new start end octet octets first h =
    record { first = unit-kind old.end octet octets first; from = h.0; given = h.3 }

pub ahead-whole : (left : List ℕ) (has_ended : Bool) (old new : Framing) (start end : ℕ)
    → AreAhead left has_ended old new (Whole start end) → IsUnitThere left old new start end
ahead-whole [] has_ended old new start end h = absurd (whole-none start end has_ended Finished h.0)
ahead-whole (octet ∷ octets) has_ended old new start end h =
    whole-octet (is_letter_first old.end octet) has_ended old new start end octet octets refl h

-- ---- a head

-- octets behind a letter at the start, which are a head
abbrev pub HeadSo : ℕ → List ℕ → Result Get HeadFault → Type 0
HeadSo at left head = (at ≡ 0) × (kind_of left ≡ kind.letter) × IsHeadOf left head

head-none : (head : Result Get HeadFault) (has_ended : Bool) (other : End) → Head head ≡ end_or_nothing has_ended other → ⊥
head-none head true other h = absurd cc
head-none head false other h = absurd cc

head-octet : (letter has_ended : Bool) (old new : Framing) (head : Result Get HeadFault) (octet : ℕ) (octets : List ℕ)
    → is_letter_first old.end octet ≡ letter → old.rest ≡ octet ∷ octets
    → IsOctetAhead letter has_ended old new (Head head) → HeadSo old.end (octet ∷ octets) head × StaysGood old new
head-octet true has_ended old new head octet octets first rest h =
    let is = is-first old.end octet first in
    ((is.0, letter-kind octet octets is.1, subst (λ (o : List ℕ). IsHeadOf o head) rest h.0), h.1)
head-octet false has_ended old new head octet octets first rest h = absurd (head-none head has_ended (Cut (length old.rest)) h.0)

pub ahead-head : (left : List ℕ) (has_ended : Bool) (old new : Framing) (head : Result Get HeadFault) → old.rest ≡ left
    → AreAhead left has_ended old new (Head head) → HeadSo old.end left head × StaysGood old new
ahead-head [] has_ended old new head rest h = absurd (head-none head has_ended Finished h.0)
ahead-head (octet ∷ octets) has_ended old new head rest h =
    head-octet (is_letter_first old.end octet) has_ended old new head octet octets refl rest h

-- ---- what waits

-- octets that begin with a unit are of no letter at the start
no-unit : {S : Type 0} (state : ConnectionState S) (octet : ℕ) (octets : List ℕ) → (state.at ≡ 0 → kind_of (octet ∷ octets) ≡ kind.unit)
    → BeginsWithLetter state octet → ⊥
no-unit state octet octets first letter =
    let unit = first letter.0 in
    let other = letter-kind octet octets letter.1 in absurd cc

bad-waits : {S : Type 0} (state : ConnectionState S) (left : List ℕ) (at : ℕ) → BadSo state.at left at → AreUnfinished state left → ⊥
bad-waits state [] at so un = so
bad-waits state (octet ∷ octets) at so un = so.0 (un.unit (no-unit state octet octets so.2)).1

-- the end of the input waits
pub busy-ended : {S : Type 0} (state : ConnectionState S) → state.has_ended ≡ true → ¬ NothingWaits state
busy-ended state ended nothing = let e : true ≡ false = sym ended ∙ nothing.goes_on in absurd cc

-- octets that are no unit wait
pub busy-bad : {S : Type 0} (state : ConnectionState S) (at : ℕ) → BadSo state.at state.left at → ¬ NothingWaits state
busy-bad state at so nothing = bad-waits state state.left at so nothing.unfinished

whole-waits : {S : Type 0} (state : ConnectionState S) (left unit rest : List ℕ) → IsFrame unit → left ≡ unit ++ rest
    → (state.at ≡ 0 → kind_of left ≡ kind.unit) → AreUnfinished state left → ⊥
whole-waits state [] unit rest f e first un = omega (arith, ap length e, length-append unit rest, frame-octets unit f)
whole-waits state (octet ∷ octets) unit rest f e first un = (un.unit (no-unit state octet octets first)).0 (unit, rest, f, e)

-- a unit waits
pub busy-whole : {S : Type 0} (state : ConnectionState S) (unit rest : List ℕ) → IsFrame unit → state.left ≡ unit ++ rest
    → (state.at ≡ 0 → kind_of state.left ≡ kind.unit) → ¬ NothingWaits state
busy-whole state unit rest f e first nothing = whole-waits state state.left unit rest f e first nothing.unfinished

-- where more is needed, nothing else is answered
one-need : (seen : List ℕ) (len : Option ℕ) (answer : Result HeadGot HeadFault) → IsAnswerIn seen len answer
    → IsAnswerIn seen len (Ok NeedMore) → answer ≡ Ok NeedMore
one-need seen None answer is needs = is ∙ sym needs
one-need seen (Some count) answer is needs = absurd needs

no-need : (octets : List ℕ) (head : Result Get HeadFault) → IsHeadOf octets head → IsHeadAnswer octets (Ok NeedMore) → ⊥
no-need octets (Ok get) is needs =
    let wrong = one-need (take most_head_octets octets) (head_length (take most_head_octets octets)) (Ok (Got get is.0)) is.1 needs in absurd cc
no-need octets (Err fault) is needs =
    let wrong = one-need (take most_head_octets octets) (head_length (take most_head_octets octets)) (Err fault) is needs in absurd cc

letter-is : (letter : Bool) → (if letter then kind.letter else kind.unit) ≡ kind.letter → letter ≡ true
letter-is true h = refl
letter-is false h = absurd cc

head-waits : {S : Type 0} (state : ConnectionState S) (left : List ℕ) (head : Result Get HeadFault) → HeadSo state.at left head
    → AreUnfinished state left → ⊥
head-waits state [] head so un = let wrong = so.1 in absurd cc
head-waits state (octet ∷ octets) head so un =
    no-need (octet ∷ octets) head so.2 (un.head (so.0, letter-is (is_ascii_alphabetic octet) so.1))

-- a head waits
pub busy-head : {S : Type 0} (state : ConnectionState S) (head : Result Get HeadFault) → HeadSo state.at state.left head → ¬ NothingWaits state
busy-head state head so nothing = head-waits state state.left head so nothing.unfinished
