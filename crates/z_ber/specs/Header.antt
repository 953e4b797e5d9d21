-- Headers as they are read: X.690:2021, 8.1.2 (identifier octets) and 8.1.3 (length octets).
-- Stricter than the standard: a number above 2147483647 and more than 8 octets of a length are
-- refused.
use Rattle.std.specs.Prelude.{◌≡◌, ◌⊎◌, ℕ, ◌+◌, ◌<◌, ◌≤◌, List, [], ◌∷◌, ◌++◌, length, Bool, true, Option, Some, None}
use Rattle.std.specs.Int.Digits.{number_from_digits, AllBelowBase}
use Rattle.z_ber.specs.declared.tag.Tag.{Tag}
use Rattle.z_ber.specs.Written.{IsTag, tag_octets}

-- 8.1.3.4: one octet below 128
abbrev pub IsShortForm : List ℕ → ℕ → Type 0
IsShortForm octets n = (n < 128) × (octets ≡ n ∷ [])

-- 8.1.3.5: a count of 1 to 8, and that many octets, zeros in front included
pub record IsLongForm (octets : List ℕ) (n : ℕ) : Type 0 where
  pub digits : List ℕ
  pub below : AllBelowBase 256 digits
  pub some : 0 < length digits
  pub few : length digits ≤ 8
  pub number : n ≡ number_from_digits 256 digits
  pub spelled : octets ≡ (128 + length digits) ∷ digits

-- 8.1.3.2 and 8.1.3.6: length octets of a definite form, or of the indefinite form, which is for
-- constructed elements
abbrev pub IsLength : Bool → List ℕ → Option ℕ → Type 0
IsLength constructed octets None = (constructed ≡ true) × (octets ≡ 128 ∷ [])
IsLength constructed octets (Some n) = IsShortForm octets n ⊎ IsLongForm octets n

-- 8.1.1: identifier octets and length octets, of this tag and this length, where None is the
-- indefinite form
pub record IsHeader (octets : List ℕ) (tag : Tag) (len : Option ℕ) : Type 0 where
  pub valid : IsTag tag
  pub ends : List ℕ
  pub lengths : IsLength tag.constructed ends len
  pub spelled : octets ≡ tag_octets tag ++ ends

-- octets that begin with such octets
abbrev pub Begins : (List ℕ → Type 0) → List ℕ → Type 0
Begins P bytes = (front : List ℕ) × (rest : List ℕ) × P front × (bytes ≡ front ++ rest)

-- octets of which some continuation begins with such octets
abbrev pub Opens : (List ℕ → Type 0) → List ℕ → Type 0
Opens P bytes = (more : List ℕ) × Begins P (bytes ++ more)

-- octets that do not begin with such octets, while some continuation of them does
abbrev pub IsOpenFor : (List ℕ → Type 0) → List ℕ → Type 0
IsOpenFor P bytes = ¬ Begins P bytes × Opens P bytes

-- octets of which no continuation begins with such octets
abbrev pub IsBadFor : (List ℕ → Type 0) → List ℕ → Type 0
IsBadFor P bytes = ¬ Opens P bytes

-- the identifier octets of some tag
abbrev pub IsIdentifier : List ℕ → Type 0
IsIdentifier octets = (tag : Tag) × IsTag tag × (octets ≡ tag_octets tag)

-- some header
abbrev pub IsSomeHeader : List ℕ → Type 0
IsSomeHeader octets = (tag : Tag) × (len : Option ℕ) × IsHeader octets tag len

-- some header of a definite form
abbrev pub IsDefiniteHeader : List ℕ → Type 0
IsDefiniteHeader octets = (tag : Tag) × (len : ℕ) × IsHeader octets tag (Some len)
