-- What each text of the configuration may be (this project's own).
use Rattle.z_types.specs.Same.{is_same}
use Rattle.std.specs.Prelude.{◌≡◌, ◌<◌, ◌≤◌, MatchOption, ℕ, ◌==◌, ◌&&◌, ◌||◌, Bool, true, false, not, List, [], ◌∷◌, length, Option, Some, None, codes, if◌then◌else◌}
use Rattle.std.specs.List.{list_all, slice_split}
use Rattle.std.specs.Option.{option_map}
use Rattle.z_types.specs.Digits.{number_after}
use Rattle.z_types.specs.declared.address.Address.{Address}
use Rattle.z_types.specs.declared.address.Address.TheVariants.{Test, Tcp}
use Rattle.route_config.specs.Names.{is_from, is_name, is_database_name, is_index_name, is_user_name}
use Rattle.route_text.specs.declared.rule.TextRule.{TextRule}
use Rattle.route_text.specs.declared.rule.TextRule.TheVariants.{Any, Name, DatabaseName, UpTo, IndexName, UserName, Effect}

abbrev pub is_digit : ℕ → Bool
is_digit c = is_from 48 57 c

abbrev pub all_digits : List ℕ → Bool
all_digits = list_all is_digit

-- decimal digits, the first of several not 0
abbrev pub is_decimal : List ℕ → Bool
is_decimal [] = false
is_decimal (c ∷ []) = is_digit c
is_decimal (c ∷ d ∷ digits) = (not (c == 48) && is_digit c) && all_digits (d ∷ digits)

abbrev pub number_of_digits : List ℕ → ℕ
number_of_digits = number_after 0

-- the number from one to another that a text writes
abbrev pub number_from : ℕ → ℕ → List ℕ → Option ℕ
number_from low high text =
    if is_decimal text && is_from low high (number_of_digits text)
    then Some (number_of_digits text) else None

-- a number that is at most another, or none where it is more
abbrev pub IsWithin : ℕ → ℕ → Option ℕ → Type 0
IsWithin most number result =
    MatchOption result (most < number) (λ found. (found ≡ number) × (found ≤ most))

-- an address by its parts between colons: `test:N`, or `tcp:HOST:PORT`
abbrev pub address_of : List (List ℕ) → Option Address
address_of (scheme ∷ number ∷ []) =
    if is_same scheme (codes "test") then option_map Test (number_from 0 999999 number) else None
address_of (scheme ∷ host ∷ port ∷ []) =
    if is_same scheme (codes "tcp") && is_from 1 64 (length host)
    then option_map (Tcp host) (number_from 1 65535 port) else None
address_of parts = None

-- the parts between colons
abbrev pub parts : List ℕ → List (List ℕ)
parts = slice_split (λ c. c == 58)

-- the address that a text writes
abbrev pub address : List ℕ → Option Address
address text = address_of (parts text)

-- what an access rule does: it allows, or it denies
abbrev pub is_allow : List ℕ → Bool
is_allow text = is_same text (codes "allow")

abbrev pub is_effect : List ℕ → Bool
is_effect text = is_allow text || is_same text (codes "deny")

-- the text keeps the rule
abbrev pub fits : TextRule → List ℕ → Bool
fits Any text = true
fits Name text = is_name text
fits DatabaseName text = is_database_name text
fits (UpTo most) text = is_from 1 most (length text)
fits IndexName text = is_index_name text
fits UserName text = is_user_name text
fits Effect text = is_effect text
