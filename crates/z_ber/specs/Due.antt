-- For contracts alone: where a header is due in octets that are no whole element yet, and what is
-- wrong there (X.690:2021, 8.1.2, 8.1.3, 8.1.5). The bounds of 64 levels and of 1048576 octets are
-- this project's own.
use Rattle.std.specs.Prelude.{◌≡◌, ◌≢◌, ℕ, zero, suc, ◌+◌, ◌-◌, ◌*◌, ◌<◌, ◌≤◌, List, ◌++◌, length, drop, None}
use Rattle.std.specs.List.{flat_map, AllByRecursion}
use Rattle.z_types.specs.Bounds.{most_levels, most_unit_octets}
use Rattle.z_ber.specs.declared.fault.BerFault.{BerFault}
use Rattle.z_ber.specs.declared.fault.BerFault.TheVariants.{Short, BadTag, BadLength, TooLarge, TooDeep}
use Rattle.z_ber.specs.declared.tag.Tag.{Tag}
use Rattle.z_ber.specs.Element.{end_of_contents}
use Rattle.z_ber.specs.Header.{IsHeader, Begins, Opens, IsOpenFor, IsBadFor, IsIdentifier, IsSomeHeader}
use Rattle.z_ber.specs.Frames.{IsFrameAt}

-- 8.1.3.6: octets are an indefinite header and whole elements of its contents, and go on with inner
pub record IsOpened (levels : ℕ) (octets inner : List ℕ) : Type 0 where
  pub tag : Tag
  pub head : List ℕ
  pub header : IsHeader head tag None
  pub frames : List (List ℕ)
  pub each : AllByRecursion (λ frame. IsFrameAt levels frame × (frame ≢ end_of_contents)) frames
  pub spelled : octets ≡ head ++ (flat_map (λ frame. frame) frames ++ inner)

-- `opened` elements are open in octets; `rest` stands where the next header is due, with `left`
-- levels for it
abbrev pub IsDue : ℕ → ℕ → List ℕ → ℕ → List ℕ → Type 0
IsDue zero levels octets left rest = (left ≡ levels) × (rest ≡ octets)
IsDue (suc opened) levels octets left rest =
    (inner : List ℕ) × IsOpened (levels - 1) octets inner × (0 < levels)
    × IsDue opened (levels - 1) inner left rest

-- 8.1.5: an end of contents may come where a header is due, if an element is open there
abbrev pub MayEnd : ℕ → List ℕ → Type 0
MayEnd zero rest = ⊥
MayEnd (suc opened) rest = Opens (λ octets. octets ≡ end_of_contents) rest

-- what stands there: no tag; a tag and no length; or anything but an end of contents where no level
-- is left
abbrev pub IsFaultAt : ℕ → ℕ → List ℕ → BerFault → Type 0
IsFaultAt opened left rest Short = ⊥
IsFaultAt opened left rest BadTag = (0 < left) × IsBadFor IsIdentifier rest
IsFaultAt opened left rest BadLength =
    (0 < left) × Begins IsIdentifier rest × IsBadFor IsSomeHeader rest
IsFaultAt opened left rest (TooLarge n) = ⊥
IsFaultAt opened left rest TooDeep = (left ≡ 0) × ¬ MayEnd opened rest

-- a header is due somewhere in octets, where `levels` levels are left at their front, and this is
-- wrong there
pub record IsFaultDue (levels : ℕ) (octets : List ℕ) (fault : BerFault) : Type 0 where
  pub opened : ℕ
  pub left : ℕ
  pub rest : List ℕ
  pub due : IsDue opened levels octets left rest
  pub wrong : IsFaultAt opened left rest fault

-- why octets begin with no element where `levels` levels are left
abbrev pub IsRefused : ℕ → List ℕ → BerFault → Type 0
IsRefused levels bytes Short = IsOpenFor (IsFrameAt levels) bytes
IsRefused levels bytes fault = IsBadFor (IsFrameAt levels) bytes × IsFaultDue levels bytes fault

-- a scan stands in octets, behind the first `passed`: a header is due there, `opened` elements are
-- open, and there is room for their ends
pub record Stands (octets : List ℕ) (passed opened : ℕ) : Type 0 where
  pub come : passed ≤ length octets
  pub due : IsDue opened most_levels octets (most_levels - opened) (drop passed octets)
  pub small : passed + 2 * opened ≤ most_unit_octets

-- a scan that stands in octets stands in any longer ones too
abbrev pub StandsOn : Type 0
StandsOn =
    (octets more : List ℕ) (passed opened : ℕ) → Stands octets passed opened
    → Stands (octets ++ more) passed opened
