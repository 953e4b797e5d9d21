-- For contracts alone: frames of a stream that comes in pieces (X.690:2021, 8.1). That a unit has
-- 1048576 octets at most is this project's own.
use Rattle.std.specs.Prelude.{◌≡◌, ℕ, ◌+◌, ◌-◌, ◌^◌, ◌≤◌, List, [], ◌∷◌, ◌++◌, length, take, drop, min, Option, Some, None, Result, Ok, Err}
use Rattle.std.specs.List.{flat_map, AllByRecursion}
use Rattle.z_ber.specs.declared.scan.Scan.{Scan}
use Rattle.z_ber.specs.Due.{Stands}
use Rattle.z_ber.specs.Header.{IsOpenFor, IsBadFor}
use Rattle.z_ber.specs.Frames.{IsFrame, Splits}
use Rattle.z_ber.specs.FrameAnswer.{IsTooLarge}
use Rattle.z_frame.specs.declared.framer.Framed.{Framed}
use Rattle.z_frame.specs.declared.framer.Framed.TheVariants.{Unit as Given, NeedMore, TooLarge, Bad}

-- a stream at a place: the unit that was given last, from start up to end, the octets behind it,
-- and why no unit can come
pub record Framing : Type 0 where
  pub start : ℕ
  pub unit : List ℕ
  pub end : ℕ
  pub rest : List ℕ
  pub refused : Option Framed

-- the unit that was given last stands at the front of the octets that are kept
abbrev pub framing : ℕ → ℕ → ℕ → List ℕ → Option Framed → Framing
framing start given end kept refused = record {
  start = start;
  unit = take given kept;
  end = end;
  rest = drop given kept;
  refused = refused;
}

-- what was refused is no unit
abbrev pub IsNoUnit : Option Framed → Type 0
IsNoUnit (Some (Given start end)) = ⊥
IsNoUnit other = Unit {0}

-- and a scan in those behind it
pub record IsKept (given : ℕ) (kept : List ℕ) (scan : Scan) (refused : Option Framed) : Type 0 where
  pub fits : given ≤ length kept
  pub stands : Stands (drop given kept) scan.passed scan.opened
  pub no_unit : IsNoUnit refused

-- nothing has come
abbrev pub nothing_yet : Framing
nothing_yet = record { start = 0; unit = []; end = 0; rest = []; refused = None }

-- an offset that would pass its type's end is given as that end
abbrev pub offset : ℕ → ℕ
offset n = min n (2 ^ 64 - 1)

-- a piece more has come
abbrev pub with_piece : Framing → List ℕ → Framing
with_piece f piece = record {
  start = f.start;
  unit = f.unit;
  end = f.end;
  rest = f.rest ++ piece;
  refused = f.refused;
}

-- the unit that was given last is dropped
abbrev pub without_unit : Framing → Option Framed → Framing
without_unit f refused =
    record { start = f.end; unit = []; end = f.end; rest = f.rest; refused = refused }

-- why no unit can come: a definite header that is too large, or what begins at this offset
abbrev pub IsRefusal : List ℕ → ℕ → Framed → Type 0
IsRefusal rest at (Given start end) = ⊥
IsRefusal rest at NeedMore = ⊥
IsRefusal rest at (TooLarge n) = IsBadFor IsFrame rest × IsTooLarge rest n
IsRefusal rest at (Bad place) =
    IsBadFor IsFrame rest × ((n : ℕ) → ¬ IsTooLarge rest n) × (place ≡ at)

-- the size of the frame in front; or more octets can make one; or none can
abbrev pub IsFound : List ℕ → ℕ → Result (Option ℕ) Framed → Type 0
IsFound rest at (Ok (Some size)) = (size ≤ length rest) × IsFrame (take size rest)
IsFound rest at (Ok None) = IsOpenFor IsFrame rest
IsFound rest at (Err refusal) = IsRefusal rest at refusal

-- a frame at the front of the rest is handed out, with its place
pub record IsGiven (old new : Framing) (start end : ℕ) : Type 0 where
  pub frame : IsFrame new.unit
  pub spelled : old.rest ≡ new.unit ++ new.rest
  pub begins : new.start ≡ old.end
  pub ends : new.end ≡ offset (old.end + length new.unit)
  pub start-is : start ≡ new.start
  pub end-is : end ≡ new.end
  pub good : new.refused ≡ None

-- the next frame; or more octets can make one; or none can, and so it stays
abbrev pub IsNextFound : Framing → Framing → Framed → Type 0
IsNextFound old new (Given start end) = IsGiven old new start end
IsNextFound old new NeedMore = IsOpenFor IsFrame old.rest × (new ≡ without_unit old None)
IsNextFound old new refusal =
    IsRefusal old.rest old.end refusal × (new ≡ without_unit old (Some refusal))

-- after a refusal the same answer for good
abbrev pub IsNextAfter : Option Framed → Framing → Framing → Framed → Type 0
IsNextAfter (Some refusal) old new answer =
    (answer ≡ refusal) × (new ≡ without_unit old (Some refusal))
IsNextAfter None old new answer = IsNextFound old new answer

-- what a framer goes on with
abbrev pub IsNext : Framing → Framing → Framed → Type 0
IsNext old new answer = IsNextAfter old.refused old new answer

-- a unit that is handed out is the one that is lent
abbrev pub IsLentAt : Framing → Framed → Type 0
IsLentAt new (Given start end) = (start ≡ new.start) × (end ≡ new.end)
IsLentAt new other = Unit {0}

-- of a stream these frames have been handed out
pub record HasTaken (stream : List ℕ) (frames : List (List ℕ)) (f : Framing) : Type 0 where
  pub whole : stream ≡ flat_map (λ frame. frame) frames ++ f.rest
  pub each : AllByRecursion IsFrame frames
  pub place : f.end ≡ offset (length (flat_map (λ frame. frame) frames))

-- with a piece the stream is longer, and the frames that were handed out are the same
abbrev pub TakesPiece : Framing → Framing → List ℕ → Type 0
TakesPiece old new piece =
    (stream : List ℕ) (frames : List (List ℕ)) → HasTaken stream frames old
    → HasTaken (stream ++ piece) frames new

-- of a stream the next frame, from its offset on; or the frames that were handed out are all, and
-- the rest is open; or it is bad
abbrev pub TakesFrame : List ℕ → List (List ℕ) → Framing → Framed → Type 0
TakesFrame stream frames new (Given start end) =
    HasTaken stream (frames ++ new.unit ∷ []) new
    × (start ≡ offset (length (flat_map (λ frame. frame) frames)))
TakesFrame stream frames new NeedMore =
    Splits IsFrame stream frames new.rest × IsOpenFor IsFrame new.rest
TakesFrame stream frames new (TooLarge n) =
    Splits IsFrame stream frames new.rest × IsBadFor IsFrame new.rest
TakesFrame stream frames new (Bad at) =
    Splits IsFrame stream frames new.rest × IsBadFor IsFrame new.rest
    × (at ≡ offset (length (flat_map (λ frame. frame) frames)))

-- whatever the stream is, and however it was cut
abbrev pub TakesNext : Framing → Framing → Framed → Type 0
TakesNext old new answer =
    (stream : List ℕ) (frames : List (List ℕ)) → old.refused ≡ None → HasTaken stream frames old
    → TakesFrame stream frames new answer
