-- Frames: elements as a stream is cut into them, without a look into definite contents (X.690:2021,
-- 8.1.1, 8.1.3). The bound of 1048576 octets is this project's own.
use Rattle.std.specs.Prelude.{◌≡◌, ◌≢◌, ◌⊎◌, ℕ, zero, suc, ◌≤◌, List, ◌++◌, length, None, Some, Result, Ok, Err}
use Rattle.std.specs.List.{flat_map, AllByRecursion}
use Rattle.z_types.specs.Bounds.{most_levels, most_unit_octets}
use Rattle.z_ber.specs.declared.fault.BerFault.{BerFault}
use Rattle.z_ber.specs.declared.fault.BerFault.TheVariants.{Short}
use Rattle.z_ber.specs.declared.tag.Tag.{Tag}
use Rattle.z_ber.specs.Element.{end_of_contents}
use Rattle.z_ber.specs.Header.{IsHeader, Begins, IsOpenFor, IsBadFor}

-- 8.1.3.4, 8.1.3.5: a definite header and exactly its contents octets, whatever they are
pub record IsDefiniteFrame (frame : List ℕ) : Type 0 where
  pub tag : Tag
  pub head : List ℕ
  pub body : List ℕ
  pub header : IsHeader head tag (Some (length body))
  pub spelled : frame ≡ head ++ body
  pub small : length frame ≤ most_unit_octets

-- 8.1.3.4, 8.1.3.5: octets are a definite header and these contents octets
pub record IsDefinite (octets : List ℕ) (tag : Tag) (body : List ℕ) : Type 0 where
  pub head : List ℕ
  pub header : IsHeader head tag (Some (length body))
  pub spelled : octets ≡ head ++ body

-- 8.1.3.6, 8.1.5: octets are an indefinite header, these frames, and the first 0000 that stands in
-- a frame's place
pub record IsIndefinite (Frame : List ℕ → Type 0) (octets : List ℕ) (tag : Tag)
    (body : List ℕ) : Type 0 where
  pub head : List ℕ
  pub header : IsHeader head tag None
  pub frames : List (List ℕ)
  pub each : AllByRecursion (λ frame. Frame frame × (frame ≢ end_of_contents)) frames
  pub inside : body ≡ flat_map (λ frame. frame) frames
  pub spelled : octets ≡ head ++ body ++ end_of_contents

-- octets are a frame with this tag and this inside, on at most `levels` levels
unfoldable pub IsExtent : ℕ → List ℕ → Tag → List ℕ → Type 0
IsExtent zero octets tag body = ⊥
IsExtent (suc levels) octets tag body =
    IsDefinite octets tag body
    ⊎ IsIndefinite (λ frame. (t : Tag) × (b : List ℕ) × IsExtent levels frame t b) octets tag body

-- octets are a frame, on at most `levels` levels
abbrev pub IsFrameAt : ℕ → List ℕ → Type 0
IsFrameAt levels octets = (tag : Tag) × (body : List ℕ) × IsExtent levels octets tag body

-- a frame: 64 levels and 1048576 octets at most
abbrev pub IsFrame : List ℕ → Type 0
IsFrame octets = IsFrameAt most_levels octets × (length octets ≤ most_unit_octets)

-- a stream is these frames one after another, and a rest that begins with none
pub record Splits (P : List ℕ → Type 0) (stream : List ℕ) (frames : List (List ℕ))
    (rest : List ℕ) : Type 0 where
  pub whole : stream ≡ flat_map (λ frame. frame) frames ++ rest
  pub each : AllByRecursion P frames
  pub ended : ¬ Begins P rest

-- a stream is one list of such octets, with one rest
abbrev pub HasOneSplit : (List ℕ → Type 0) → Type 0
HasOneSplit P =
    (stream rest tail : List ℕ) (frames others : List (List ℕ))
    → Splits P stream frames rest → Splits P stream others tail → (frames ≡ others) × (rest ≡ tail)

-- octets begin with a frame of this tag and this inside, and go on with these
pub record BeginsWith (levels : ℕ) (bytes : List ℕ) (tag : Tag) (body rest : List ℕ) : Type 0 where
  pub frame : List ℕ
  pub extent : IsExtent levels frame tag body
  pub spelled : bytes ≡ frame ++ rest

-- tag, inside and rest of the frame that octets begin with; or they are open; or no continuation
-- begins with a frame
abbrev pub IsExtentRead : ℕ → List ℕ → Result (Tag × List ℕ × List ℕ) BerFault → Type 0
IsExtentRead levels bytes (Ok found) = BeginsWith levels bytes found.0 found.1 found.2
IsExtentRead levels bytes (Err Short) = IsOpenFor (IsFrameAt levels) bytes
IsExtentRead levels bytes (Err _) = IsBadFor (IsFrameAt levels) bytes
