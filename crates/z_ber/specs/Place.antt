-- The first place, in the order of octets, where a header is due that cannot be read, stands past
-- the last level, or has contents that pass the end of what holds it (X.690:2021, 8.1.1 to 8.1.3,
-- 8.1.5). The bounds of 64 levels and of 1048576 octets are this project's own.
use Rattle.std.specs.Prelude.{◌≡◌, ◌≢◌, ◌⊎◌, ℕ, zero, suc, ◌+◌, ◌<◌, ◌≤◌, List, [], ◌++◌, length, take, drop, Bool, true, false, Option, Some, None, is_none, IfSome, Result, Ok, Err}
use Rattle.z_types.specs.Bounds.{most_levels, most_unit_octets}
use Rattle.z_ber.specs.declared.tag.Tag.{Tag}
use Rattle.z_ber.specs.Element.{Forest, HaveEnded, AreElements, IsElement}
use Rattle.z_ber.specs.Header.{IsHeader, Begins, IsSomeHeader}
use Rattle.z_ber.specs.Lent.{Lent}
use Rattle.z_ber.specs.LentTree.{IsLentAs}

-- a header whose contents octets pass the end of octets
pub record IsOverlong (octets : List ℕ) : Type 0 where
  pub tag : Tag
  pub len : ℕ
  pub head : List ℕ
  pub body : List ℕ
  pub header : IsHeader head tag (Some len)
  pub spelled : octets ≡ head ++ body
  pub over : length body < len

-- octets at most that an element can hold, of those behind its header: as many as its length says,
-- or all
abbrev pub held : Option ℕ → List ℕ → List ℕ
held (Some len) body = take len body
held None body = body

-- the place behind elements, in the one that is due next
pub record IsBehind (Place : List ℕ → ℕ → Type 0) (within : Bool) (levels : ℕ) (octets : List ℕ)
    (at : ℕ) : Type 0 where
  pub forest : Forest
  pub front : List ℕ
  pub rest : List ℕ
  pub are : AreElements within levels front forest
  pub spelled : octets ≡ front ++ rest
  pub due : ¬ HaveEnded within rest
  pub in_rest : ℕ
  pub place : Place rest in_rest
  pub at-is : at ≡ length front + in_rest

-- the place in the contents of the constructed element that octets begin with
pub record IsInside (Place : List ℕ → ℕ → Type 0) (levels : ℕ) (octets : List ℕ)
    (at : ℕ) : Type 0 where
  pub tag : Tag
  pub len : Option ℕ
  pub head : List ℕ
  pub body : List ℕ
  pub constructed : tag.constructed ≡ true
  pub header : IsHeader head tag len
  pub spelled : octets ≡ head ++ body
  pub fits : IfSome len (λ n. n ≤ length body)
  pub in_body : ℕ
  pub inner : IsBehind Place (is_none len) levels (held len body) in_body
  pub at-is : at ≡ length head + in_body

-- the place where octets that are to begin with an element do not: their own, or one inside the
-- element, on `levels` levels at most
abbrev pub IsPlace : ℕ → List ℕ → ℕ → Type 0
IsPlace zero octets at = at ≡ 0
IsPlace (suc levels) octets at =
    ((at ≡ 0) × (¬ Begins IsSomeHeader octets ⊎ IsOverlong octets))
    ⊎ IsInside (IsPlace levels) levels octets at

-- the place where octets that are to be elements one after another are not
abbrev pub IsPlaceAmong : Bool → ℕ → List ℕ → ℕ → Type 0
IsPlaceAmong within levels octets at = IsBehind (IsPlace levels) within levels octets at

-- what the check of elements one after another answers: they are, on 64 levels at most; or the
-- place where they are not
abbrev pub IsElementsAnswer : List ℕ → Result Unit ℕ → Type 0
IsElementsAnswer octets (Ok nothing) =
    (forest : Forest) × AreElements false most_levels octets forest
IsElementsAnswer octets (Err at) = IsPlaceAmong false most_levels octets at

-- octets begin with one element, of `size` octets
pub record IsElementOf (levels : ℕ) (octets : List ℕ) (size : ℕ) : Type 0 where
  pub fits : size ≤ length octets
  pub tree : Forest
  pub element : IsElement levels (take size octets) tree

-- octets begin with elements of `size` octets in all, which have ended there
pub record AreElementsOf (within : Bool) (levels : ℕ) (octets : List ℕ) (size : ℕ) : Type 0 where
  pub fits : size ≤ length octets
  pub forest : Forest
  pub elements : AreElements within levels (take size octets) forest
  pub ended : HaveEnded within (drop size octets)

-- a unit is one element with nothing left over, on 64 levels and of 1048576 octets at most
pub record IsUnit (octets : List ℕ) (tree : Forest) : Type 0 where
  pub small : length octets ≤ most_unit_octets
  pub element : IsElement most_levels octets tree

-- the first octet that is left over behind the element of a unit
pub record IsLeftOver (octets : List ℕ) (at : ℕ) : Type 0 where
  pub tree : Forest
  pub front : List ℕ
  pub rest : List ℕ
  pub element : IsElement most_levels front tree
  pub some : rest ≢ []
  pub spelled : octets ≡ front ++ rest
  pub at-is : at ≡ length front

-- where octets are no unit: at 0 above the limit; otherwise at the place where they begin with no
-- element, or behind the element
abbrev pub IsUnitPlace : List ℕ → ℕ → Type 0
IsUnitPlace octets at =
    ((most_unit_octets < length octets) × (at ≡ 0))
    ⊎ ((length octets ≤ most_unit_octets) × (IsPlace most_levels octets at ⊎ IsLeftOver octets at))

-- what lending a unit's element answers: an element that stands for the unit's tree; or the place
-- where octets are no unit
abbrev pub IsUnitAnswer : List ℕ → Result Lent ℕ → Type 0
IsUnitAnswer octets (Ok lent) =
    (tree : Forest) × IsUnit octets tree × IsLentAs most_levels lent tree
IsUnitAnswer octets (Err at) = IsUnitPlace octets at

-- octets that are elements have no place where they are not
abbrev pub ElementsHaveNoPlace : Type 0
ElementsHaveNoPlace =
    (octets : List ℕ) (forest : Forest) (at : ℕ) → AreElements false most_levels octets forest
    → ¬ IsPlaceAmong false most_levels octets at

-- octets that are not elements have one place where they are not
abbrev pub ElementsHaveOnePlace : Type 0
ElementsHaveOnePlace =
    (octets : List ℕ) (a b : ℕ) → IsPlaceAmong false most_levels octets a
    → IsPlaceAmong false most_levels octets b → a ≡ b

-- a unit has no place where it is none
abbrev pub UnitHasNoPlace : Type 0
UnitHasNoPlace =
    (octets : List ℕ) (tree : Forest) (at : ℕ) → IsUnit octets tree → ¬ IsUnitPlace octets at

-- octets that are no unit have one place where they are none
abbrev pub UnitHasOnePlace : Type 0
UnitHasOnePlace = (octets : List ℕ) (a b : ℕ) → IsUnitPlace octets a → IsUnitPlace octets b → a ≡ b
