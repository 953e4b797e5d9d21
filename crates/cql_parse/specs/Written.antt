-- The text of a query (CQL 1.2, BNF; where there is a choice, this project's own).
use Rattle.std.specs.Prelude.{ℕ, Bool, true, false, List, [], ◌∷◌, ◌++◌, Option, Some, None, codes, if◌then◌else◌}
use Rattle.cql_lex.specs.Characters.{is_word}
use Rattle.cql_parse.specs.declared.tree.Modifier.{Modifier}
use Rattle.cql_parse.specs.declared.tree.Head.{Head}
use Rattle.cql_parse.specs.declared.tree.SortKey.{SortKey}
use Rattle.cql_parse.specs.Tree.{Tree, clause, joined, assigned, sorted}

-- between quotes, and between brackets where they are needed
abbrev pub quoted : List ℕ → List ℕ
quoted text = 34 ∷ text ++ 34 ∷ []

abbrev pub bracketed : Bool → List ℕ → List ℕ
bracketed needed text = if needed then 40 ∷ text ++ 41 ∷ [] else text

-- an index or a sort key: as it is where it is one bare word, else quoted
abbrev pub index_text : List ℕ → List ℕ
index_text name = if is_word name then name else quoted name

-- a modifier's symbol and term, modifiers, sort keys
abbrev pub value_text : Option (List ℕ × List ℕ) → List ℕ
value_text None = []
value_text (Some value) = value.0 ++ quoted value.1

abbrev pub modifiers_text : List Modifier → List ℕ
modifiers_text [] = []
modifiers_text (m ∷ ms) = 47 ∷ m.name ++ value_text m.value ++ modifiers_text ms

abbrev pub keys_text : List SortKey → List ℕ
keys_text [] = []
keys_text (k ∷ ks) = 32 ∷ index_text k.index ++ modifiers_text k.modifiers ++ keys_text ks

-- what is read before a term is compared, and before the query of a prefix assignment
abbrev pub head_text : Option Head → List ℕ
head_text None = []
head_text (Some head) =
    index_text head.index ++ 32 ∷ head.relation ++ modifiers_text head.modifiers ++ 32 ∷ []

abbrev pub prefix_text : Option (List ℕ) → List ℕ
prefix_text None = 62 ∷ 32 ∷ []
prefix_text (Some name) = 62 ∷ 32 ∷ name ++ 32 ∷ 61 ∷ 32 ∷ []

-- a prefix assignment or a sort: in brackets where it is part of a larger query
abbrev pub reaches_on : Tree → Bool
reaches_on (clause head term) = false
reaches_on (joined boolean modifiers l r) = false
reaches_on (assigned name uri q) = true
reaches_on (sorted q keys) = true

-- a boolean too is in brackets where it is a right operand
abbrev pub groups : Tree → Bool
groups (clause head term) = false
groups (joined boolean modifiers l r) = true
groups (assigned name uri q) = true
groups (sorted q keys) = true

-- the text of a query
abbrev pub written : Tree → List ℕ
written (clause head term) = head_text head ++ quoted term
written (joined boolean modifiers l r) =
    bracketed (reaches_on l) (written l) ++ 32 ∷ boolean ++ modifiers_text modifiers ++ 32
    ∷ bracketed (groups r) (written r)
written (assigned name uri q) =
    prefix_text name ++ quoted uri ++ 32 ∷ bracketed (reaches_on q) (written q)
written (sorted q keys) = bracketed (reaches_on q) (written q) ++ codes " sortby" ++ keys_text keys
