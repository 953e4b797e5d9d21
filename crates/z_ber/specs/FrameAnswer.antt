-- For contracts alone: what reading a frame answers (X.690:2021, 8.1.2, 8.1.3, 8.1.5). The bounds
-- of 64 levels and of 1048576 octets are this project's own.
use Rattle.std.specs.Prelude.{◌≡◌, ◌⊎◌, ℕ, ◌+◌, ◌-◌, ◌*◌, ◌<◌, ◌≤◌, List, ◌++◌, length, take, drop, Option, None, Some, Result, Ok, Err}
use Rattle.z_types.specs.Bounds.{most_levels, most_unit_octets}
use Rattle.z_ber.specs.declared.fault.BerFault.{BerFault}
use Rattle.z_ber.specs.declared.fault.BerFault.TheVariants.{Short, BadTag, BadLength, TooLarge, TooDeep}
use Rattle.z_ber.specs.declared.tag.Tag.{Tag}
use Rattle.z_ber.specs.Header.{IsHeader, Begins, Opens, IsOpenFor, IsBadFor, IsIdentifier, IsSomeHeader, IsDefiniteHeader}
use Rattle.z_ber.specs.Frames.{IsDefiniteFrame, IsFrame}
use Rattle.z_ber.specs.Due.{MayEnd, IsFaultAt, Stands}

-- octets begin with a whole definite header, of `len` contents octets
abbrev pub BeginsDefinite : List ℕ → ℕ → Type 0
BeginsDefinite bytes len = (tag : Tag) × Begins (λ head. IsHeader head tag (Some len)) bytes

-- the number told of a frame that is too large: its contents octets where its own definite header
-- says them, else the least that is too many
abbrev pub IsLargeNumber : List ℕ → ℕ → Type 0
IsLargeNumber bytes n =
    BeginsDefinite bytes n ⊎ (((len : ℕ) → ¬ BeginsDefinite bytes len) × (n ≡ most_unit_octets + 1))

-- the frame that the octets begin with; or they are open; or no continuation begins with a frame,
-- for this reason
abbrev pub IsFrameAnswer : (List ℕ → Type 0) → (List ℕ → BerFault → Type 0) → List ℕ
    → Result ℕ BerFault → Type 0
IsFrameAnswer P Fault bytes (Ok size) = (size ≤ length bytes) × P (take size bytes)
IsFrameAnswer P Fault bytes (Err Short) = IsOpenFor P bytes
IsFrameAnswer P Fault bytes (Err fault) = IsBadFor P bytes × Fault bytes fault

-- why no frame of definite length can come: no tag; a tag and no definite length; or a length that
-- is too large
abbrev pub IsDefiniteFault : List ℕ → BerFault → Type 0
IsDefiniteFault bytes Short = ⊥
IsDefiniteFault bytes BadTag = IsBadFor IsIdentifier bytes
IsDefiniteFault bytes BadLength = Begins IsIdentifier bytes × IsBadFor IsDefiniteHeader bytes
IsDefiniteFault bytes (TooLarge n) = Opens IsDefiniteHeader bytes × IsLargeNumber bytes n
IsDefiniteFault bytes TooDeep = ⊥

-- 8.1.3.6, 8.1.5: the contents octets that a header asks for, or the end of contents
abbrev pub least_behind_header : Option ℕ → ℕ
least_behind_header None = 2
least_behind_header (Some len) = len

-- where a header is due a header may come, and no end of contents, but the frame is too large with
-- any
pub record IsOverAt (passed opened left : ℕ) (rest : List ℕ) : Type 0 where
  pub deeper : 0 < left
  pub goes_on : ¬ MayEnd opened rest
  pub readable : Opens IsSomeHeader rest
  pub over : (tag : Tag) (len : Option ℕ) (head more after : List ℕ) → IsHeader head tag len
      → rest ++ more ≡ head ++ after
      → most_unit_octets < passed + length head + least_behind_header len + 2 * opened

-- why no frame can come: what is wrong at the first place where something is, each place before it
-- having room
abbrev pub IsFrameFault : List ℕ → BerFault → Type 0
IsFrameFault bytes (TooLarge n) =
    IsLargeNumber bytes n
    × ((passed opened : ℕ) × Stands bytes passed opened
    × IsOverAt passed opened (most_levels - opened) (drop passed bytes))
IsFrameFault bytes fault =
    (passed opened : ℕ) × Stands bytes passed opened
    × IsFaultAt opened (most_levels - opened) (drop passed bytes) fault

-- what reading a frame of definite length answers
abbrev pub IsDefiniteAnswer : List ℕ → Result ℕ BerFault → Type 0
IsDefiniteAnswer = IsFrameAnswer IsDefiniteFrame IsDefiniteFault

-- what reading a frame answers
abbrev pub IsWholeAnswer : List ℕ → Result ℕ BerFault → Type 0
IsWholeAnswer = IsFrameAnswer IsFrame IsFrameFault

-- a definite header says `n` contents octets, with which the frame would be too large
pub record IsTooLarge (bytes : List ℕ) (n : ℕ) : Type 0 where
  pub tag : Tag
  pub head : List ℕ
  pub rest : List ℕ
  pub header : IsHeader head tag (Some n)
  pub spelled : bytes ≡ head ++ rest
  pub over : most_unit_octets < length head + n
