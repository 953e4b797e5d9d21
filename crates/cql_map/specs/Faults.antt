-- What a query has that is not mapped, from the left, in a clause in the order index, relation,
-- modifiers, term, and a sort behind all others (CQL 1.2 has these parts; which are not mapped is
-- this project's own).
use Rattle.std.specs.Prelude.{◌≡◌, ℕ, ◌||◌, ◌⊎◌, Bool, true, false, List, [], ◌∷◌, ◌++◌, Option, Some, None, if◌then◌else◌}
use Rattle.route_config.specs.declared.route.Index.{Index}
use Rattle.cql_parse.specs.declared.tree.Modifier.{Modifier}
use Rattle.cql_parse.specs.declared.tree.Head.{Head}
use Rattle.cql_parse.specs.Tree.{Tree, clause, joined, assigned, sorted}
use Rattle.cql_map.specs.declared.fault.MapFault.{MapFault}
use Rattle.cql_map.specs.declared.fault.MapFault.TheVariants as fault
use Rattle.cql_map.specs.declared.relation.Row.{Row}
use Rattle.cql_map.specs.declared.relation.Row.TheVariants.{Compared, Words}
use Rattle.cql_map.specs.declared.operator.Operator.{Operator}
use Rattle.cql_map.specs.declared.term.Character.{Character}
use Rattle.cql_map.specs.Names.{has_dot, prefix_of}
use Rattle.cql_map.specs.Indexes.{use_of, is_known_prefix}
use Rattle.cql_map.specs.Relations.{row_of}
use Rattle.cql_map.specs.Bib1.{equal}
use Rattle.cql_map.specs.Terms.{characters, words, core, is_bare}
use Rattle.cql_map.specs.Operators.{operator_of}

-- an index that there is not: its prefix, where no index has it, else its name
abbrev pub unknown_index : List Index → List ℕ → MapFault
unknown_index indexes name =
    if has_dot name then (if is_known_prefix indexes (prefix_of name) then fault.Index name
    else fault.ContextSet (prefix_of name))
    else fault.Index name

abbrev pub index_faults_by : List Index → List ℕ → Option ℕ → List MapFault
index_faults_by indexes name None = unknown_index indexes name ∷ []
index_faults_by indexes name (Some value) = []

abbrev pub index_faults : List Index → List ℕ → List MapFault
index_faults indexes name = index_faults_by indexes name (use_of indexes name)

-- a relation that there is not
abbrev pub relation_faults_by : List ℕ → Option Row → List MapFault
relation_faults_by relation None = fault.Relation relation ∷ []
relation_faults_by relation (Some row) = []

abbrev pub relation_faults : List ℕ → List MapFault
relation_faults relation = relation_faults_by relation (row_of relation)

-- a fault for each modifier, by its name
abbrev pub modifier_faults : (List ℕ → MapFault) → List Modifier → List MapFault
modifier_faults fault [] = []
modifier_faults fault (m ∷ ms) = fault m.name ∷ modifier_faults fault ms

abbrev pub relation_modifier_faults : List Modifier → List MapFault
relation_modifier_faults modifiers = modifier_faults fault.Modifier modifiers

abbrev pub boolean_modifier_faults : List Modifier → List MapFault
boolean_modifier_faults modifiers = modifier_faults fault.BooleanModifier modifiers

-- masking and anchoring characters
abbrev pub sign_faults : List Character → List MapFault
sign_faults [] = []
sign_faults (c ∷ cs) =
    if is_bare 42 c || is_bare 63 c then fault.Masking (c.octet ∷ []) ∷ sign_faults cs
    else (if is_bare 94 c then fault.Anchoring (c.octet ∷ []) ∷ sign_faults cs else sign_faults cs)

-- a term or word without its masks
abbrev pub core_faults : List Character → List MapFault
core_faults [] = fault.EmptyTerm [] ∷ []
core_faults (c ∷ cs) = sign_faults (c ∷ cs)

abbrev pub word_faults : List Character → List MapFault
word_faults cs = core_faults (core cs)

-- words, at least one
abbrev pub more_words_faults : List (List Character) → List MapFault
more_words_faults [] = []
more_words_faults (w ∷ ws) = word_faults w ++ more_words_faults ws

abbrev pub words_faults : List (List Character) → List MapFault
words_faults [] = fault.EmptyTerm [] ∷ []
words_faults (w ∷ ws) = word_faults w ++ more_words_faults ws

abbrev pub row_faults : Row → List Character → List MapFault
row_faults (Words joint) cs = words_faults (words cs)
row_faults row cs = word_faults cs

abbrev pub term_faults : Option Row → List Character → List MapFault
term_faults None cs = []
term_faults (Some row) cs = row_faults row cs

-- a clause
abbrev pub head_faults : List Index → Head → List MapFault
head_faults indexes head =
    index_faults indexes head.index
    ++ (relation_faults head.relation ++ relation_modifier_faults head.modifiers)

abbrev pub clause_faults : List Index → Option Head → List ℕ → List MapFault
clause_faults indexes None term = row_faults (Compared equal) (characters false term)
clause_faults indexes (Some head) term =
    head_faults indexes head ++ term_faults (row_of head.relation) (characters false term)

-- a boolean that is no operator: prox
abbrev pub boolean_faults_by : List ℕ → Option Operator → List MapFault
boolean_faults_by boolean None = fault.Boolean boolean ∷ []
boolean_faults_by boolean (Some o) = []

abbrev pub boolean_faults : List ℕ → List MapFault
boolean_faults boolean = boolean_faults_by boolean (operator_of boolean)

-- from the left
abbrev pub faults : List Index → Tree → List MapFault
faults indexes (clause head term) = clause_faults indexes head term
faults indexes (joined boolean modifiers a b) =
    faults indexes a
    ++ (boolean_faults boolean ++ (boolean_modifier_faults modifiers ++ faults indexes b))
faults indexes (assigned name uri q) = fault.ContextSet uri ∷ faults indexes q
faults indexes (sorted q keys) = faults indexes q

abbrev pub has_sort : Tree → Bool
has_sort (clause head term) = false
has_sort (joined boolean modifiers a b) = has_sort a || has_sort b
has_sort (assigned name uri q) = has_sort q
has_sort (sorted q keys) = true

abbrev pub sort_faults : Bool → List MapFault
sort_faults true = fault.Sort [] ∷ []
sort_faults false = []

abbrev pub all_faults : List Index → Tree → List MapFault
all_faults indexes q = faults indexes q ++ sort_faults (has_sort q)

-- this is the first of them
abbrev pub IsFirst : List MapFault → MapFault → Type 0
IsFirst [] e = ⊥
IsFirst (f ∷ fs) e = e ≡ f

-- the first of them is printed_detail, or memory is wanting
abbrev pub IsRefusal : List MapFault → MapFault → Type 0
IsRefusal fs e = (e ≡ fault.Memory) ⊎ IsFirst fs e
