-- The table of relations: which attributes follow Use (CQL 1.2, context set cql; the attributes are
-- this project's own).
use Rattle.std.specs.Prelude.{ℕ, List, [], ◌∷◌, take, drop, codes, Option, Some, None, if◌then◌else◌}
use Rattle.cql_map.specs.declared.relation.Row.{Row}
use Rattle.cql_map.specs.declared.relation.Row.TheVariants.{Compared, Whole, Adjacent, Words}
use Rattle.cql_map.specs.declared.relation.Joint.TheVariants.{All, Any}
use Rattle.cql_map.specs.Names.{is_same_name}
use Rattle.cql_map.specs.Bib1.{less, less_or_equal, equal, greater_or_equal, greater, not_equal}

-- the symbols
abbrev pub symbols : List (List ℕ × Row)
symbols =
    (codes "=", Compared equal) ∷ (codes "==", Whole) ∷ (codes "<", Compared less)
    ∷ (codes "<=", Compared less_or_equal) ∷ (codes ">=", Compared greater_or_equal)
    ∷ (codes ">", Compared greater) ∷ (codes "<>", Compared not_equal) ∷ []

-- the words
abbrev pub words : List (List ℕ × Row)
words =
    (codes "scr", Compared equal) ∷ (codes "exact", Whole) ∷ (codes "adj", Adjacent)
    ∷ (codes "all", Words All) ∷ (codes "any", Words Any) ∷ []

-- the row of this name
abbrev pub row_in : List (List ℕ × Row) → List ℕ → Option Row
row_in [] name = None
row_in (r ∷ rest) name = if is_same_name name r.0 then Some r.1 else row_in rest name

-- a word without the prefix cql.
abbrev pub bare_name : List ℕ → List ℕ
bare_name name = if is_same_name (take 4 name) (codes "cql.") then drop 4 name else name

-- the row of a relation: a symbol, or a word with or without cql.
abbrev pub or_row : Option Row → Option Row → Option Row
or_row None other = other
or_row (Some row) other = Some row

abbrev pub row_of : List ℕ → Option Row
row_of relation = or_row (row_in symbols relation) (row_in words (bare_name relation))
