-- What the values of parameters choose (SRU 1.2, Request Parameters; the limits are
-- this project's own)
use Rattle.std.specs.Prelude.{ℕ, ◌-◌, Bool, true, false, not, ◌||◌, ◌&&◌, ◌==◌, nat_le, nat_eq, min, List, [], ◌∷◌, length, Option, None, Some, position, codes, if◌then◌else◌}
use Rattle.std.specs.Char.{is_ascii_digit}
use Rattle.std.specs.List.{list_all, list_any, starts_with}
use Rattle.std.specs.Option.{option_map}
use Rattle.z_types.specs.Bounds.{most_number}
use Rattle.z_types.specs.Digits.{number_after}
use Rattle.z_types.specs.declared.schemas.Schema.{Schema}
use Rattle.sru_request.specs.declared.parameter.Parameter.{Parameter}
use Rattle.z_types.specs.Same.{is_same}
use Rattle.sru_request.specs.Parameters.{value_of}

-- a value is absent
abbrev pub is_absent : List ℕ → Bool
is_absent value = length value == 0

-- each octet is a decimal digit
unfoldable pub are_digits : List ℕ → Bool
are_digits octets = list_all is_ascii_digit octets

-- a number that is no less than one, and at most 2147483647
abbrev pub in_range : ℕ → ℕ → Option ℕ
in_range least number =
    if nat_le number most_number && nat_le least number then Some number else None

-- a number in decimal, or another where it is absent
abbrev pub number_in : ℕ → ℕ → List ℕ → Option ℕ
number_in least default value =
    if is_absent value then Some default
    else (if are_digits value then in_range least (number_after 0 value) else None)

-- the position of the first record
abbrev pub start_in : List ℕ → Option ℕ
start_in value = number_in 1 1 value

-- how many records at most
abbrev pub maximum_in : List ℕ → Option ℕ
maximum_in value = option_map (λ number. min number 100) (number_in 0 10 value)

-- whether records are escaped
abbrev pub packing_in : List ℕ → Option Bool
packing_in value =
    if is_absent value || is_same value (codes "xml") then Some false
    else (if is_same value (codes "string") then Some true else None)

-- a value is the name or the identifier of a schema, or absent
abbrev pub is_of : List ℕ → Schema → Bool
is_of value schema = is_absent value || (is_same schema.name value || is_same schema.uri value)

-- the place of the first such schema
abbrev pub schema_in : List Schema → List ℕ → Option ℕ
schema_in schemas value = position (is_of value) schemas

-- the names that say something
abbrev pub known_names : List (List ℕ)
known_names =
    codes "operation" ∷ codes "version" ∷ codes "query" ∷ codes "startRecord"
    ∷ codes "maximumRecords" ∷ codes "recordPacking" ∷ codes "recordSchema" ∷ codes "sortKeys" ∷ []

unfoldable pub is_known : List ℕ → Bool
is_known name = list_any (is_same name) known_names

-- a name of extra request data
unfoldable pub is_extra : List ℕ → Bool
is_extra name = starts_with nat_eq name (codes "x-")

-- whether the first pair of a name has a value, where there is one
abbrev pub first_given : List ℕ → List Parameter → Option Bool
first_given name [] = None
first_given name (first ∷ rest) =
    if is_same first.name name then Some (not (is_absent first.value)) else first_given name rest

-- another name that is given, among all parameters
unfoldable pub is_other : List Parameter → List ℕ → Bool
is_other given name = not (is_known name || is_extra name) && not (is_absent (value_of name given))

-- the first of those names
abbrev pub first_other : List Parameter → List Parameter → Option (List ℕ)
first_other given [] = None
first_other given (first ∷ rest) =
    if is_other given first.name then Some first.name else first_other given rest
