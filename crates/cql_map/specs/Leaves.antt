-- The operand of a term or word: its attributes, in the order of the table of relations, and its
-- octets. (ANSI/NISO Z39.50-2003, AttributesPlusTerm; the attributes are this project's own.)
use Rattle.std.specs.Prelude.{ℕ, Bool, true, false, List, [], ◌∷◌, ◌++◌, if◌then◌else◌}
use Rattle.z_types.specs.declared.query.Attr.{Attr}
use Rattle.z_types.specs.declared.query.Term.{Term}
use Rattle.z_types.specs.declared.query.Term.TheVariants.{General}
use Rattle.z_types.specs.Tree as rpn
use Rattle.cql_map.specs.declared.relation.Row.{Row}
use Rattle.cql_map.specs.declared.relation.Row.TheVariants.{Compared, Whole, Adjacent, Words}
use Rattle.cql_map.specs.declared.term.Character.{Character}
use Rattle.cql_map.specs.Terms.{octets, has_space, begins_star, ends_star, behind_star, core}
use Rattle.cql_map.specs.Bib1.{use_attribute, relation_attribute, equal, first_in_field, phrase, word, complete_field, right_truncation, left_truncation, both_truncations}

-- a phrase where the term has white space, else a word
abbrev pub structure : List Character → Attr
structure cs = if has_space cs then phrase else word

-- what follows Use
abbrev pub row_attributes : Row → List Character → List Attr
row_attributes (Compared relation) cs = relation_attribute relation ∷ structure cs ∷ []
row_attributes Whole cs = relation_attribute equal ∷ first_in_field ∷ phrase ∷ complete_field ∷ []
row_attributes Adjacent cs = relation_attribute equal ∷ phrase ∷ []
row_attributes (Words joint) cs = relation_attribute equal ∷ word ∷ []

-- masks at the start and at the end
abbrev pub truncation : Bool → Bool → List Attr
truncation false false = []
truncation false true = right_truncation ∷ []
truncation true false = left_truncation ∷ []
truncation true true = both_truncations ∷ []

abbrev pub attributes : ℕ → Row → List Character → List Attr
attributes value row cs =
    use_attribute value ∷ row_attributes row (core cs)
    ++ truncation (begins_star cs) (ends_star (behind_star cs))

abbrev pub term_of : List Character → Term
term_of cs = General (octets (core cs))

abbrev pub leaf_of : ℕ → Row → List Character → rpn.Tree
leaf_of value row cs = rpn.leaf (attributes value row cs) (term_of cs)
