-- What the names of a configuration may be (this project's own).
use Rattle.std.specs.Prelude.{ℕ, ◌-◌, ◌==◌, ◌&&◌, ◌||◌, Bool, false, not, nat_le, List, length, codes, Option}
use Rattle.std.specs.List.{list_any, position}
use Rattle.std.specs.Option.{option_map_or}
use Rattle.z_types.specs.Same.{is_same}

-- a number from one to another
abbrev pub is_from : ℕ → ℕ → ℕ → Bool
is_from low high n = nat_le low n && nat_le n high

-- space, tab, CR, LF
abbrev pub is_white : ℕ → Bool
is_white c = ((c == 32 || c == 9) || c == 13) || c == 10

abbrev pub has_white : List ℕ → Bool
has_white = list_any is_white

-- a target's or a group's: 1 to 64 octets, none of them white space
abbrev pub is_name : List ℕ → Bool
is_name text = is_from 1 64 (length text) && not (has_white text)

-- `/` and `?` part a path and its query
abbrev pub is_delimiter : ℕ → Bool
is_delimiter c = c == 47 || c == 63

abbrev pub has_delimiter : List ℕ → Bool
has_delimiter = list_any is_delimiter

-- a database's: such a name without delimiters
abbrev pub is_database_name : List ℕ → Bool
is_database_name text = is_name text && not (has_delimiter text)

-- where the first dot stands
abbrev pub first_dot : List ℕ → Option ℕ
first_dot = position (λ c. c == 46)

-- an index's: a dot with text on both sides of the first one
abbrev pub is_index_name : List ℕ → Bool
is_index_name text = option_map_or (is_from 1 (length text - 2)) (first_dot text) false

-- what a rule calls a client that has not logged in
abbrev pub anonymous : List ℕ
anonymous = codes "anonymous"

-- what a rule calls all users, or all databases
abbrev pub every : List ℕ
every = codes "*"

-- `/` parts a user and its password
abbrev pub has_slash : List ℕ → Bool
has_slash = list_any (λ c. c == 47)

-- a user's: 1 to 64 octets without `/`, and no word of the rules
abbrev pub is_user_name : List ℕ → Bool
is_user_name text =
    ((is_from 1 64 (length text) && not (has_slash text)) && not (is_same text anonymous))
    && not (is_same text every)
