-- Where the head of a request ends, as it comes on a connection (RFC 9112, 2.1 and 2.2: a line ends
-- in CR LF, or in LF alone)
use Rattle.std.specs.Prelude.{ℕ, Bool, false, List, [], ◌∷◌, Option, None, Some, suc, if◌then◌else◌, ◌==◌, ◌&&◌}
use Rattle.std.specs.Option.{option_map}

-- the first octet is a line feed
abbrev pub begins_with_line_feed : List ℕ → Bool
begins_with_line_feed [] = false
begins_with_line_feed (first ∷ rest) = first == 10

-- how many octets an empty line at the front has: LF, or CR LF
abbrev pub empty_line : List ℕ → Option ℕ
empty_line [] = None
empty_line (first ∷ rest) =
    if first == 10 then Some 1
    else (if first == 13 && begins_with_line_feed rest then Some 2 else None)

-- the one, or else the other
abbrev pub or_else : Option ℕ → Option ℕ → Option ℕ
or_else None other = other
or_else (Some n) other = Some n

-- how many octets an empty line has that stands behind a line feed
abbrev pub line_behind : ℕ → List ℕ → Option ℕ
line_behind octet rest = if octet == 10 then empty_line rest else None

-- how many octets there are up to and with the first empty line, which stands behind a line feed
abbrev pub head_length : List ℕ → Option ℕ
head_length [] = None
head_length (first ∷ rest) = option_map suc (or_else (line_behind first rest) (head_length rest))
