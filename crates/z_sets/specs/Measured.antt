-- The measures of a query's expansion, which are known before it is built
-- (this project's own)
use Rattle.std.specs.Prelude.{◌≡◌, ℕ, List, [], map, Option, option_map, Result, Ok, Err, Bool, true, false, ◌||◌, if◌then◌else◌, nat_lt}
use Rattle.z_types.specs.Bounds.{most_query_depth, most_query_nodes, most_query_cost}
use Rattle.z_types.specs.Tree.{Tree, leaf, operand, and, or, and_not}
use Rattle.z_types.specs.QueryMeasures.{measures_of}
use Rattle.z_types.specs.declared.measures.Measures.{Measures}
use Rattle.z_types.specs.declared.known_set.KnownSet.{KnownSet}
use Rattle.z_sets.specs.Sets.{stored, known_set_named}
use Rattle.z_sets.specs.Expansion.{substituted}
use Rattle.z_sets.specs.declared.fault.ExpandFault.{ExpandFault}
use Rattle.z_sets.specs.declared.fault.ExpandFault.TheVariants.{TooLarge, TooDeep, TooCostly, Memory}

-- a result, or want of memory, which has no cause
abbrev pub IsOrMemory : {A : Type 0} → Result A ExpandFault → Result A ExpandFault → Type 0
IsOrMemory wanted (Err Memory) = Unit {0}
IsOrMemory wanted answer = answer ≡ wanted

-- the measures of the queries that sets stand for
abbrev pub measures_of_sets : List KnownSet → List Measures
measures_of_sets = map (λ set. measures_of set.query.root)

-- those of the query that the set of a name stands for
abbrev pub measures_named : List ℕ → List KnownSet → Option Measures
measures_named name sets =
    option_map (λ set. measures_of set.query.root) (known_set_named name sets)

-- the measures of a structure, or why there is none
abbrev pub measures_in : Result Tree ExpandFault → Result Measures ExpandFault
measures_in (Ok tree) = Ok (measures_of tree)
measures_in (Err fault) = Err fault

-- the measures of a structure with stored queries in place of its operand sets, or the fault of the
-- first; they are the same under each attribute set
abbrev pub expansion_measures : List ℕ → List KnownSet → Tree → Result Measures ExpandFault
expansion_measures legs sets tree = measures_in (substituted [] legs (map stored sets) tree)

-- some operand is a result set
abbrev pub names_a_set : Tree → Bool
names_a_set (leaf attrs term) = false
names_a_set (operand name) = true
names_a_set (and l r) = names_a_set l || names_a_set r
names_a_set (or l r) = names_a_set l || names_a_set r
names_a_set (and_not l r) = names_a_set l || names_a_set r

-- measures within the bounds of a query, or the first that is above
abbrev pub tested : Measures → Result (Unit {0}) ExpandFault
tested m =
    if nat_lt most_query_nodes m.nodes then Err (TooLarge m.nodes)
    else if nat_lt most_query_depth m.levels then Err (TooDeep m.levels)
    else if nat_lt most_query_cost m.cost then Err (TooCostly m.cost)
    else Ok tt

-- an expansion is tested: its operands first, then its measures
abbrev pub then_tested : Result Measures ExpandFault → Result (Unit {0}) ExpandFault
then_tested (Ok m) = tested m
then_tested (Err fault) = Err fault

abbrev pub tested_expansion : List ℕ → List KnownSet → Tree → Result (Unit {0}) ExpandFault
tested_expansion legs sets tree = then_tested (expansion_measures legs sets tree)
