-- The octets of CQL's words and strings (CQL 1.2, BNF: charString1 and charString2).
use Rattle.std.specs.Prelude.{ℕ, suc, Bool, true, false, ◌==◌, ◌||◌, List, [], ◌∷◌, length, Option, Some, None, option_map, if◌then◌else◌}

-- white space: space, tab, carriage return, line feed
abbrev pub is_space : ℕ → Bool
is_space b = (b == 32) || (b == 9) || (b == 13) || (b == 10)

-- what a bare word ends before (charString1): white space and ( ) = < > " /
abbrev pub ends_word : ℕ → Bool
ends_word b =
    is_space b || (b == 40) || (b == 41) || (b == 61) || (b == 60) || (b == 62) || (b == 34)
    || (b == 47)

-- how many octets of white space stand at the front
abbrev pub spaces : List ℕ → ℕ
spaces [] = 0
spaces (b ∷ rest) = if is_space b then suc (spaces rest) else 0

-- The octets of a string behind its first quote, with the quote that ends it: the next that no
-- backslash takes (charString2). `taken` says that a backslash takes the octet at the front.
abbrev pub quoted_length : Bool → List ℕ → Option ℕ
quoted_length taken [] = None
quoted_length true (b ∷ rest) = option_map suc (quoted_length false rest)
quoted_length false (b ∷ rest) =
    if b == 34 then Some 1 else option_map suc (quoted_length (b == 92) rest)

-- The octets of the longest bare word at the front; none where a backslash has no octet to take.
abbrev pub word_length : Bool → List ℕ → Option ℕ
word_length true [] = None
word_length false [] = Some 0
word_length true (b ∷ rest) = option_map suc (word_length false rest)
word_length false (b ∷ rest) =
    if ends_word b then Some 0 else option_map suc (word_length (b == 92) rest)

-- these octets alone are one bare word
abbrev pub is_whole : Option ℕ → ℕ → Bool
is_whole None len = false
is_whole (Some found) len = found == len

abbrev pub is_word : List ℕ → Bool
is_word [] = false
is_word (b ∷ rest) = is_whole (word_length false (b ∷ rest)) (suc (length rest))
