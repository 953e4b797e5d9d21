-- Character data with references in place of markup (XML 1.0, fifth edition, 2.4 and 4.6).
-- Stricter: `>` and `"` are never left as they are.
use Rattle.std.specs.Prelude.{◌≡◌, ℕ, Bool, true, false, ◌&&◌, ◌||◌, not, ◌==◌, List, [], ◌∷◌, zero, suc, codes, if◌then◌else◌, IsTrue}
use Rattle.std.specs.List.{flat_map}

-- `"`, `&`, `<` and `>`
abbrev pub quotation_mark : ℕ
quotation_mark = 34

abbrev pub ampersand : ℕ
ampersand = 38

abbrev pub less_than : ℕ
less_than = 60

abbrev pub greater_than : ℕ
greater_than = 62

-- an octet, or the reference to it
abbrev pub escaped_octet : ℕ → List ℕ
escaped_octet octet =
    if octet == ampersand then codes "&amp;"
    else (if octet == less_than then codes "&lt;"
    else (if octet == greater_than then codes "&gt;"
    else (if octet == quotation_mark then codes "&quot;" else octet ∷ [])))

-- each octet
abbrev pub escaped : List ℕ → List ℕ
escaped octets = flat_map escaped_octet octets

-- a text begins with another one
abbrev pub begins : List ℕ → List ℕ → Bool
begins [] text = true
begins (octet ∷ front) [] = false
begins (octet ∷ front) (first ∷ text) = first == octet && begins front text

-- what a text begins with: the octet that a reference is to, with how many octets the reference has
-- behind its first, or an octet alone
abbrev pub front_of : ℕ → List ℕ → ℕ × ℕ
front_of octet text =
    if begins (codes "&amp;") (octet ∷ text) then (ampersand, 4)
    else (if begins (codes "&lt;") (octet ∷ text) then (less_than, 3)
    else (if begins (codes "&gt;") (octet ∷ text) then (greater_than, 3)
    else (if begins (codes "&quot;") (octet ∷ text) then (quotation_mark, 5) else (octet, 0))))

-- the octets that are read behind `count` that were read before
abbrev pub read_behind : ℕ → List ℕ → List ℕ
read_behind count [] = []
read_behind (suc count) (octet ∷ text) = read_behind count text
read_behind zero (octet ∷ text) = (front_of octet text).0 ∷ read_behind (front_of octet text).1 text

-- the octets that character data is read as
abbrev pub read_octets : List ℕ → List ℕ
read_octets text = read_behind 0 text

-- at the front of a text stands no `<`, `>` or `"`, and no `&` but that of a reference
abbrev pub is_plain_front : ℕ → List ℕ → Bool
is_plain_front octet text =
    not (octet == less_than) && (not (octet == greater_than) && (not (octet == quotation_mark)
    && (not (octet == ampersand)
    || (begins (codes "&amp;") (octet ∷ text) || (begins (codes "&lt;") (octet ∷ text)
    || (begins (codes "&gt;") (octet ∷ text) || begins (codes "&quot;") (octet ∷ text)))))))

-- nowhere in a text
abbrev pub has_no_markup : List ℕ → Bool
has_no_markup [] = true
has_no_markup (octet ∷ text) = is_plain_front octet text && has_no_markup text

-- escaped octets have no markup in them
abbrev pub HasNoMarkup : List ℕ → Type 0
HasNoMarkup octets = IsTrue (has_no_markup (escaped octets))

-- escaped octets are read as the octets again
abbrev pub IsReadAgain : List ℕ → Type 0
IsReadAgain octets = read_octets (escaped octets) ≡ octets
