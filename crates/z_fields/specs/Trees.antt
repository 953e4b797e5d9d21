-- For contracts alone: the trees that octets have, worked out from the front (X.690:2021, 8.1.1):
-- what a lent element is seen as.
use Rattle.std.specs.Prelude.{◌≡◌, ℕ, zero, suc, List, [], ◌∷◌, length, Bool, Option, Some, None, Result, Ok, Err, if◌then◌else◌}
use Rattle.z_ber.specs.declared.fault.BerFault.{BerFault}
use Rattle.z_ber.specs.declared.tag.Tag.{Tag}
use Rattle.z_ber.specs.Element.{Forest, none, leaf, branch, AreElements}
use Rattle.z_ber.specs.Lent.{Lent, children_of}
use Rattle.z_ber.specs.Place.{IsUnit, IsUnitPlace}
use Rattle.z_ber.specs.Reading.{extent_at}
use Rattle.unit_forms.specs.Reading.Elements.{Field, field_of, first_element, other_elements}

-- an element, with what it holds and what stands behind it
abbrev pub element_behind : (List ℕ → Forest) → (List ℕ → Forest)
    → Result (Tag × List ℕ × List ℕ) BerFault → Forest
element_behind inner others (Ok (tag, contents, rest)) =
    if tag.constructed then branch tag contents (inner contents) (others rest)
    else leaf tag contents (others rest)
element_behind inner others (Err fault) = none

-- elements one after another, in at most `steps` steps and on at most `levels` levels
abbrev pub elements_at : ℕ → ℕ → List ℕ → Forest
elements_at steps levels [] = none
elements_at zero levels (octet ∷ octets) = none
elements_at (suc steps) zero (octet ∷ octets) = none
elements_at (suc steps) (suc levels) (octet ∷ octets) =
    element_behind (elements_at steps levels) (elements_at steps (suc levels))
    (extent_at levels (octet ∷ octets))

-- the elements that octets are
unfoldable pub elements_in : ℕ → List ℕ → Forest
elements_in levels octets = elements_at (length octets) levels octets

-- octets are elements, all the way down
abbrev pub AreWhole : ℕ → List ℕ → Type 0
AreWhole levels octets =
    (within : Bool) × (forest : Forest) × AreElements within levels octets forest

-- what a lent element is seen as
abbrev pub seen : Lent → Field
seen lent = field_of lent.tag lent.body (elements_in lent.levels lent.left)

-- an element is lent of which the children are whole and none has been lent
pub record IsWholeLent (lent : Lent) : Type 0 where
  pub whole : AreWhole lent.levels lent.left
  pub fresh : lent.left ≡ children_of lent.tag lent.body

-- the elements of which the first is still to be lent
abbrev pub left_in : Lent → Forest
left_in lent = elements_in lent.levels lent.left

-- what is lent, and what is left, where the first of whole elements is lent
pub record IsTakenAs (old new : Lent) (first : Option Field) : Type 0 where
  pub whole : AreWhole new.levels new.left
  pub first-is : first ≡ first_element (left_in old)
  pub others-are : left_in new ≡ other_elements (left_in old)

abbrev pub IsTaken : Lent → Lent → Option Lent → Type 0
IsTaken old new None = IsTakenAs old new None
IsTaken old new (Some child) = IsTakenAs old new (Some (seen child)) × IsWholeLent child

-- an element stands at the root of the tree that a unit has
abbrev pub IsRootOf : List ℕ → Field → Type 0
IsRootOf octets field = (tree : Forest) × IsUnit octets tree × (first_element tree ≡ Some field)

-- the element that a unit is, or the place where octets are none
abbrev pub IsRoot : List ℕ → Result Field ℕ → Type 0
IsRoot octets (Ok field) = IsRootOf octets field
IsRoot octets (Err at) = IsUnitPlace octets at

-- how many elements stand one after another
abbrev pub count : Forest → ℕ
count none = 0
count (leaf tag contents others) = suc (count others)
count (branch tag contents inner others) = suc (count others)
