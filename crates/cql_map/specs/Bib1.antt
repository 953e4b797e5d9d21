-- Attributes of bib-1 (ANSI/NISO Z39.50-2003, Appendix ATR, bib-1), as terms of CQL use them.
use Rattle.std.specs.Prelude.{ℕ, List, [], ◌∷◌, None}
use Rattle.z_types.specs.declared.query.Attr.{Attr}

-- the object identifier of the attribute set
abbrev pub bib1_attributes : List ℕ
bib1_attributes = 1 ∷ 2 ∷ 840 ∷ 10003 ∷ 3 ∷ 1 ∷ []

-- an attribute of the query's own set
abbrev pub attribute : ℕ → ℕ → Attr
attribute kind value = record { set = None; kind = kind; value = value }

-- Use (type 1), and its value for any field that the target searches by default
abbrev pub use_attribute : ℕ → Attr
use_attribute value = attribute 1 value

abbrev pub anywhere : ℕ
anywhere = 1016

-- Relation (type 2): less than, less than or equal, equal, greater or equal, greater than, not
-- equal
abbrev pub relation_attribute : ℕ → Attr
relation_attribute value = attribute 2 value

abbrev pub less : ℕ
less = 1

abbrev pub less_or_equal : ℕ
less_or_equal = 2

abbrev pub equal : ℕ
equal = 3

abbrev pub greater_or_equal : ℕ
greater_or_equal = 4

abbrev pub greater : ℕ
greater = 5

abbrev pub not_equal : ℕ
not_equal = 6

-- Position (type 3), Structure (type 4), Completeness (type 6)
abbrev pub first_in_field : Attr
first_in_field = attribute 3 1

abbrev pub phrase : Attr
phrase = attribute 4 1

abbrev pub word : Attr
word = attribute 4 2

abbrev pub complete_field : Attr
complete_field = attribute 6 3

-- Truncation (type 5): at the right end, the left end, both
abbrev pub right_truncation : Attr
right_truncation = attribute 5 1

abbrev pub left_truncation : Attr
left_truncation = attribute 5 2

abbrev pub both_truncations : Attr
both_truncations = attribute 5 3
