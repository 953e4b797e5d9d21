-- For contracts alone: what a connection goes on with: its end, octets that begin no unit, a unit,
-- or a head (ANSI/NISO Z39.50-2003, 4.2; X.690:2021, 8.1; RFC 9112, 2.1)
use Rattle.std.specs.Prelude.{◌≡◌, ℕ, Bool, true, false, List, [], ◌∷◌, length, ◌==◌, ◌&&◌, if◌then◌else◌, Ok}
use Rattle.std.specs.Char.{is_ascii_alphabetic}
use Rattle.z_types.specs.declared.marks.End.{End}
use Rattle.z_types.specs.declared.marks.End.TheVariants.{Finished, Cut}
use Rattle.front_z.specs.gateway_rules.Answers.{IsOpen, IsBad}
use Rattle.z_frame.specs.Framing.{Framing, IsGiven}
use Rattle.sru_request.specs.Request.{IsHeadAnswer}
use Rattle.sru_request.specs.declared.head.HeadGot.TheVariants.{NeedMore}
use Rattle.front_http.specs.Seeking.{IsHeadOf}
use Rattle.front_conn.specs.declared.ahead.Ahead.{Ahead}
use Rattle.front_conn.specs.declared.ahead.Ahead.TheVariants.{Nothing, Ended, Bad, Whole, Head}

-- the first octet of a connection is an ASCII letter, with which HTTP begins
abbrev pub is_letter_first : (at octet : ℕ) → Bool
is_letter_first at octet = (at == 0) && is_ascii_alphabetic octet

-- nothing was taken
pub record Stays (old new : Framing) : Type 0 where
  pub place : new.end ≡ old.end
  pub rest : new.rest ≡ old.rest

-- and what follows can still be cut into units
pub record StaysGood (old new : Framing) : Type 0 where
  pub stays : Stays old new
  pub good : new.refused ≡ old.refused

-- what has come of a unit is the end once the input has ended
abbrev pub end_or_nothing : Bool → End → Ahead
end_or_nothing has_ended end = if has_ended then Ended end else Nothing

-- octets that are there, behind no letter at the start: a part of a unit, which more octets can
-- complete; none; a unit
abbrev pub IsUnitAhead : Bool → Framing → Framing → Ahead → Type 0
IsUnitAhead has_ended old new (Bad at) = (at ≡ old.end) × IsBad old.rest × Stays old new
IsUnitAhead has_ended old new (Whole start end) =
    (start ≡ old.end) × (start ≡ new.start) × (end ≡ new.end) × IsGiven old new start end
IsUnitAhead has_ended old new answer =
    (answer ≡ end_or_nothing has_ended (Cut (length old.rest))) × IsOpen old.rest
    × StaysGood old new

-- octets that a letter stands at the start of: a part of a head, which more octets can complete; or
-- a head
abbrev pub IsHeadAhead : Bool → List ℕ → Ahead → Type 0
IsHeadAhead has_ended octets (Head head) = IsHeadOf octets head
IsHeadAhead has_ended octets answer =
    (answer ≡ end_or_nothing has_ended (Cut (length octets))) × IsHeadAnswer octets (Ok NeedMore)

-- by whether a letter stands first
abbrev pub IsOctetAhead : Bool → Bool → Framing → Framing → Ahead → Type 0
IsOctetAhead true has_ended old new answer =
    IsHeadAhead has_ended old.rest answer × StaysGood old new
IsOctetAhead false has_ended old new answer = IsUnitAhead has_ended old new answer

-- by the octets that stand there
abbrev pub AreAhead : List ℕ → Bool → Framing → Framing → Ahead → Type 0
AreAhead [] has_ended old new answer =
    (answer ≡ end_or_nothing has_ended Finished) × StaysGood old new
AreAhead (octet ∷ octets) has_ended old new answer =
    IsOctetAhead (is_letter_first old.end octet) has_ended old new answer

-- what a connection goes on with
abbrev pub IsAhead : Bool → Framing → Framing → Ahead → Type 0
IsAhead has_ended old new answer = AreAhead old.rest has_ended old new answer
