-- For contracts alone: the fields of an element by the numbers of their context tags (this
-- project's own).
use Rattle.std.specs.Prelude.{◌≡◌, ℕ, zero, suc, ◌+◌, ◌<◌, ◌≤◌, ◌==◌, ◌&&◌, ◌%◌, List, [], ◌∷◌, ◌++◌, Bool, true, false, Option, Some, None, length, get_or, slice_get, if◌then◌else◌}
use Rattle.std.proofs.Math.ListN.{set}
use Rattle.z_ber.specs.declared.tag.Tag.{Tag}
use Rattle.z_ber.specs.Element.{Forest, none, leaf, branch}
use Rattle.unit_forms.specs.Reading.Elements.{Field, field_of}

-- how many places an index has
abbrev pub place_count : ℕ
place_count = 31

-- the place of a number
abbrev pub place_of : ℕ → ℕ
place_of number = number % place_count

-- a tag is of the context class and has a place
abbrev pub has_place : ℕ → Tag → Bool
has_place place tag = (tag.class == 2) && (place_of tag.number == place)

-- the first element with a place
abbrev pub first_at : ℕ → Forest → Option Field
first_at place none = None
first_at place (leaf tag contents others) =
    if has_place place tag then Some (field_of tag contents none) else first_at place others
first_at place (branch tag contents inner others) =
    if has_place place tag then Some (field_of tag contents inner) else first_at place others

-- what stands behind a place: nothing at 0, and otherwise the kept field of the number before
abbrev pub behind : ℕ → List Field → Option Field
behind zero kept = None
behind (suc i) kept = slice_get kept i

abbrev pub kept_at : List ℕ → List Field → ℕ → Option Field
kept_at places kept place = behind (get_or places place 0) kept

-- how many places nothing stands behind
abbrev pub free : List ℕ → ℕ
free [] = 0
free (zero ∷ places) = suc (free places)
free (suc i ∷ places) = free places

-- at each place stands the first element with it
abbrev pub IsIndex : List ℕ → List Field → Forest → Type 0
IsIndex places kept elements =
    (place : ℕ) → place < place_count → kept_at places kept place ≡ first_at place elements

-- a field, or otherwise another one
abbrev pub or_field : Option Field → Option Field → Option Field
or_field (Some field) other = Some field
or_field None other = other

-- places stand for fields that are kept, and the first element with each place is there, or is left
pub record Indexes (start : Forest) (places : List ℕ) (kept : List Field)
    (left : Forest) : Type 0 where
  pub whole : length places ≡ place_count
  pub room : length kept + free places ≡ place_count
  pub within : (place : ℕ) → get_or places place 0 ≤ length kept
  pub firsts : (place : ℕ) → place < place_count →
      first_at place start ≡ or_field (kept_at places kept place) (first_at place left)

-- a field is the first with its place
abbrev pub is_new : List ℕ → Tag → Bool
is_new places tag = (tag.class == 2) && (get_or places (place_of tag.number) 0 == 0)

-- the places and the kept fields with one more field
abbrev pub places_with : List ℕ → List Field → Field → List ℕ
places_with places kept field =
    if is_new places field.tag
    then set places (place_of field.tag.number) (suc (length kept)) else places

abbrev pub kept_with : List ℕ → List Field → Field → List Field
kept_with places kept field = if is_new places field.tag then kept ++ field ∷ [] else kept

-- fields are found by their places, where there are some
abbrev pub AreIndexed : Bool → List ℕ → List Field → Forest → Type 0
AreIndexed true places kept elements = IsIndex places kept elements
AreIndexed false places kept elements = Unit {0}
