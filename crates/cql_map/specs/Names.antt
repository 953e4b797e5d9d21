-- Names of indexes and relations (CQL 1.2: names are compared without regard to case).
use Rattle.std.specs.Prelude.{◌≡◌, ℕ, ◌==◌, ◌&&◌, ◌||◌, Bool, true, false, List, [], ◌∷◌, if◌then◌else◌}
use Rattle.std.specs.Str.{bytes_eq}
use Rattle.cql_parse.specs.Classes.{lower}

-- two names are one, without regard to the case of ASCII letters
abbrev pub is_same_name : List ℕ → List ℕ → Bool
is_same_name name other = bytes_eq (lower name) (lower other)

-- a name has a prefix: what stands before its first dot
abbrev pub has_dot : List ℕ → Bool
has_dot [] = false
has_dot (b ∷ rest) = (b == 46) || has_dot rest

abbrev pub prefix_of : List ℕ → List ℕ
prefix_of [] = []
prefix_of (b ∷ rest) = if b == 46 then [] else (b ∷ prefix_of rest)

abbrev pub IsPrefixOf : List ℕ → List ℕ → Type 0
IsPrefixOf name prefix = (has_dot name ≡ true) × (prefix ≡ prefix_of name)

abbrev pub has_prefix : List ℕ → List ℕ → Bool
has_prefix name prefix = has_dot name && is_same_name (prefix_of name) prefix
