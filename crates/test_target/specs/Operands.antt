-- What an operand asks the test target n for (this project's own; Use is of ANSI/NISO Z39.50-2003,
-- appendix ATR)
use Rattle.std.specs.Prelude.{ℕ, ◌+◌, ◌%◌, ◌==◌, Bool, List, [], ◌∷◌, sum, find}
use Rattle.std.specs.List.{list_any}
use Rattle.std.specs.Option.{option_map_or}
use Rattle.std.specs.Fmt.{signed_decimal}
use Rattle.z_types.specs.declared.query.Attr.{Attr}
use Rattle.z_types.specs.declared.query.Term.{Term}
use Rattle.z_types.specs.declared.query.Term.TheVariants.{General, Number, Words}

-- the Use attribute: the first of kind 1, or any
abbrev pub use_of : List Attr → ℕ
use_of attrs = option_map_or (λ a. a.value) (find (λ a. a.kind == 1) attrs) 1016

-- title, ISBN, ISSN, subject, author and any
abbrev pub is_use : ℕ → Bool
is_use value = list_any (λ known. known == value) (4 ∷ 7 ∷ 8 ∷ 21 ∷ 1003 ∷ 1016 ∷ [])

-- the octets of a term; a number's are its decimal text
abbrev pub octets_of : Term → List ℕ
octets_of (General text) = text
octets_of (Number number) = signed_decimal number
octets_of (Words text) = text

-- a term is found at every n-th record, where n is 2 to 8
abbrev pub modulus : Term → ℕ
modulus term = 2 + sum (octets_of term) % 7
