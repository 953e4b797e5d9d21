-- Elements, and which of them is a field (X.690:2021, 8.1.1; this project's own).
use Rattle.std.specs.Prelude.{ℕ, List, [], ◌∷◌, Bool, false, ◌==◌, ◌&&◌, ◌||◌, Option, Some, None, if◌then◌else◌}
use Rattle.z_ber.specs.declared.tag.Tag.{Tag}
use Rattle.z_ber.specs.Element.{Forest, none, leaf, branch}

-- an element: its tag, its contents octets, and the elements in it
pub record Field : Type 0 where
  pub tag : Tag
  pub contents : List ℕ
  pub inner : Forest

abbrev pub field_of : Tag → List ℕ → Forest → Field
field_of tag contents inner = record { tag = tag; contents = contents; inner = inner }

-- the first of elements one after another
abbrev pub first_element : Forest → Option Field
first_element none = None
first_element (leaf tag contents others) = Some (field_of tag contents none)
first_element (branch tag contents inner others) = Some (field_of tag contents inner)

-- the elements behind it
abbrev pub other_elements : Forest → Forest
other_elements none = none
other_elements (leaf tag contents others) = others
other_elements (branch tag contents inner others) = others

-- a field is found by the class and number of its tag alone
abbrev pub has_tag : Tag → Tag → Bool
has_tag tag wanted = (tag.class == wanted.class) && (tag.number == wanted.number)

-- whether a tag is one of a choice's
abbrev pub is_one_of : List Tag → Tag → Bool
is_one_of [] tag = false
is_one_of (wanted ∷ choice) tag = has_tag tag wanted || is_one_of choice tag

-- the first element whose tag is one of these
abbrev pub first_of : List Tag → Forest → Option Field
first_of choice none = None
first_of choice (leaf tag contents others) =
    if is_one_of choice tag then Some (field_of tag contents none) else first_of choice others
first_of choice (branch tag contents inner others) =
    if is_one_of choice tag then Some (field_of tag contents inner) else first_of choice others

-- a tag is the wanted one, around elements
abbrev pub is_constructed : Tag → Tag → Bool
is_constructed wanted tag = tag.constructed && has_tag tag wanted

-- the first constructed element with this tag; primitive ones are passed
abbrev pub first_constructed : Tag → Forest → Option Field
first_constructed wanted none = None
first_constructed wanted (leaf tag contents others) =
    if is_constructed wanted tag then Some (field_of tag contents none)
    else first_constructed wanted others
first_constructed wanted (branch tag contents inner others) =
    if is_constructed wanted tag then Some (field_of tag contents inner)
    else first_constructed wanted others

-- the first element of the context class
abbrev pub first_context : Forest → Option Field
first_context none = None
first_context (leaf tag contents others) =
    if tag.class == 2 then Some (field_of tag contents none) else first_context others
first_context (branch tag contents inner others) =
    if tag.class == 2 then Some (field_of tag contents inner) else first_context others
