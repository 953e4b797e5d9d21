-- What a login says (ANSI/NISO Z39.50-2003, 3.2.1.1.5, Id/authentication: the choices open and
-- idPass; how they are read is this project's own): a user and a password, or nothing
use Rattle.std.specs.Prelude.{ℕ, ◌+◌, ◌==◌, Bool, List, [], ◌∷◌, take, drop, Option, Some, None}
use Rattle.std.specs.Prelude.{if◌then◌else◌}
use Rattle.std.specs.List.{position}
use Rattle.z_ber.specs.Element.{Forest}
use Rattle.unit_forms.specs.Reading.Elements.{Field, has_tag, first_of, first_element}
use Rattle.unit_forms.specs.Reading.Rows.{context, universal}
use Rattle.z_fields.specs.Trees.{elements_in}
use Rattle.z_types.specs.Bounds.{most_levels}

-- a user and a password
pub record Credentials : Type 0 where
  pub name : List ℕ
  pub password : List ℕ

-- ---- a VisibleString

abbrev pub is_slash : ℕ → Bool
is_slash c = c == 47

-- parted at a place
abbrev pub parted_at : Option ℕ → List ℕ → Credentials
parted_at None text = record { name = text; password = [] }
parted_at (Some place) text = record { name = take place text; password = drop (place + 1) text }

-- the user before the first `/`, and the password behind it; without `/` all of it is the user
abbrev pub parted : List ℕ → Credentials
parted text = parted_at (position is_slash text) text

-- ---- a sequence

-- a string in primitive form; in constructed form it is none, and one that is absent is empty
abbrev pub text_in : Option Field → Option (List ℕ)
text_in None = Some []
text_in (Some field) = if field.tag.constructed then None else Some field.contents

-- the first element with the context tag of a number, as a string
abbrev pub text_of : ℕ → Forest → Option (List ℕ)
text_of number fields = text_in (first_of (context number ∷ []) fields)

abbrev pub both : Option (List ℕ) → Option (List ℕ) → Option Credentials
both None password = None
both (Some name) None = None
both (Some name) (Some password) = Some (record { name = name; password = password })

-- userId [1] and password [2]
abbrev pub id_pass : Forest → Option Credentials
id_pass fields = both (text_of 1 fields) (text_of 2 fields)

-- ---- a login

-- a constructed element says something as a SEQUENCE (16), a primitive one as a VisibleString
-- (26), and all others nothing
abbrev pub said_by : Field → Option Credentials
said_by field =
    if field.tag.constructed
    then (if has_tag field.tag (universal 16) then id_pass field.inner else None)
    else (if has_tag field.tag (universal 26) then Some (parted field.contents) else None)

-- the first element says it; no element, nothing
abbrev pub said_first : Option Field → Option Credentials
said_first None = None
said_first (Some field) = said_by field

-- what elements one after another say
abbrev pub said : Forest → Option Credentials
said elements = said_first (first_element elements)

-- what a login says, by the elements that it is worked out to be
abbrev pub says : List ℕ → Option Credentials
says login = said (elements_in most_levels login)
