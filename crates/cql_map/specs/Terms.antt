-- A term's characters, its words and its masks (CQL 1.2; which masks are taken is
-- this project's own).
use Rattle.std.specs.Prelude.{◌≡◌, ℕ, ◌<◌, length, Option, Some, None, ◌==◌, ◌&&◌, ◌||◌, Bool, true, false, not, List, [], ◌∷◌, drop, map, if◌then◌else◌}
use Rattle.std.specs.Borrow.{Bor}
use Rattle.cql_lex.specs.Characters.{is_space}
use Rattle.cql_map.specs.declared.term.Character.{Character}

-- an octet, and whether a backslash took it
abbrev pub character : ℕ → Bool → Character
character octet taken = record { octet = octet; taken = taken }

-- each octet of a term but the backslashes that take one
abbrev pub characters : Bool → List ℕ → List Character
characters taken [] = []
characters true (b ∷ rest) = character b true ∷ characters false rest
characters false (b ∷ rest) =
    if b == 92 then characters true rest else (character b false ∷ characters false rest)

abbrev pub octets : List Character → List ℕ
octets cs = map (λ c. c.octet) cs

-- this octet, which no backslash took
abbrev pub is_bare : ℕ → Character → Bool
is_bare octet c = (c.octet == octet) && not c.taken

-- white space, taken or not, is the term's; words are parted by what is not taken
abbrev pub has_space : List Character → Bool
has_space [] = false
has_space (c ∷ cs) = is_space c.octet || has_space cs

abbrev pub parts_words : Character → Bool
parts_words c = is_space c.octet && not c.taken

-- it belongs to a word
abbrev pub is_of_word : Character → Bool
is_of_word c = not (parts_words c)

abbrev pub begins : (Character → Bool) → List Character → Bool
begins test [] = false
begins test (c ∷ cs) = test c

abbrev pub in_front : Character → List (List Character) → List (List Character)
in_front c [] = (c ∷ []) ∷ []
in_front c (w ∷ ws) = (c ∷ w) ∷ ws

abbrev pub words : List Character → List (List Character)
words [] = []
words (c ∷ cs) =
    if parts_words c then words cs
    else (if begins is_of_word cs then in_front c (words cs) else (c ∷ []) ∷ words cs)

-- behind a word of this length comes what parts words, or nothing
abbrev pub EndsWord : List Character → ℕ → Type 0
EndsWord cs len = len < length cs → begins parts_words (drop len cs) ≡ true

-- the first word and what stands behind it; none where there is no word
abbrev pub IsNextWord : List Character
    → Option (Bor (List Character) × Bor (List Character)) → Type 0
IsNextWord cs None = words cs ≡ []
IsNextWord cs (Some found) =
    (words cs ≡ found.0.now ∷ words found.1.now) × (length found.1.now < length cs)

-- a mask: a star at the start, one at the end
abbrev pub is_star : Character → Bool
is_star c = is_bare 42 c

abbrev pub begins_star : List Character → Bool
begins_star cs = begins is_star cs

abbrev pub ends_star : List Character → Bool
ends_star [] = false
ends_star (c ∷ []) = is_star c
ends_star (c ∷ d ∷ cs) = ends_star (d ∷ cs)

-- what stands behind a star at the start, and before one at the end
abbrev pub behind_star : List Character → List Character
behind_star [] = []
behind_star (c ∷ cs) = if is_star c then cs else (c ∷ cs)

abbrev pub before_star : List Character → List Character
before_star [] = []
before_star (c ∷ []) = if is_star c then [] else (c ∷ [])
before_star (c ∷ d ∷ cs) = c ∷ before_star (d ∷ cs)

-- what is left of a term or word without its masks
abbrev pub core : List Character → List Character
core cs = before_star (behind_star cs)
