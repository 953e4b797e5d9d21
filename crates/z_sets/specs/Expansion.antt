-- A query with the client's result sets put in place of its operands (ANSI/NISO Z39.50-2003,
-- RPNStructure and ResultSetId; that a set becomes its query, and the bounds, are
-- this project's own)
use Rattle.std.specs.Prelude.{◌≡◌, ℕ, List, map, Option, None, Some, unwrap_or, Result, Ok, Err, if◌then◌else◌, nat_lt}
use Rattle.z_types.specs.Bounds.{most_query_depth, most_query_nodes, most_query_cost, within32, within64}
use Rattle.z_types.specs.declared.known_set.KnownSet.{KnownSet}
use Rattle.z_types.specs.declared.query.Attr.{Attr}
use Rattle.z_types.specs.declared.query.RpnQuery.{RpnQuery}
use Rattle.z_types.specs.Tree.{Tree, tree_size, leaf, operand, and, or, and_not}
use Rattle.z_types.specs.QueryMeasures.{tree_depth, tree_cost}
use Rattle.z_types.specs.Same.{is_same}
use Rattle.z_sets.specs.Sets.{StoredSet, stored, set_named}
use Rattle.z_sets.specs.declared.fault.ExpandFault.{ExpandFault}
use Rattle.z_sets.specs.declared.fault.ExpandFault.TheVariants.{UnknownSet, OtherLegs, TooLarge, TooDeep, TooCostly, Memory}

-- an attribute that names no attribute set gets this one
abbrev pub in_set : List ℕ → Attr → Attr
in_set arcs attr = record attr { set = Some (unwrap_or attr.set arcs) }

-- each attribute of a structure that names no attribute set gets this one
abbrev pub all_in_set : List ℕ → Tree → Tree
all_in_set arcs (leaf attrs term) = leaf (map (in_set arcs) attrs) term
all_in_set arcs (operand name) = operand name
all_in_set arcs (and l r) = and (all_in_set arcs l) (all_in_set arcs r)
all_in_set arcs (or l r) = or (all_in_set arcs l) (all_in_set arcs r)
all_in_set arcs (and_not l r) = and_not (all_in_set arcs l) (all_in_set arcs r)

-- a stored query inside one of this attribute set
abbrev pub inside : List ℕ → RpnQuery → Tree
inside arcs query =
    if is_same query.attr_set arcs then query.root else all_in_set query.attr_set query.root

-- what stands for the result set of a name in a query of this attribute set and these legs
abbrev pub in_place_of : List ℕ → List ℕ → List ℕ → Option StoredSet → Result Tree ExpandFault
in_place_of arcs legs name None = Err (UnknownSet name)
in_place_of arcs legs name (Some set) =
    if is_same set.legs legs then Ok (inside arcs set.query) else Err (OtherLegs name)

-- two sides under an operator, or the fault of the left one, or else of the right one
abbrev pub under : (Tree → Tree → Tree) → Result Tree ExpandFault → Result Tree ExpandFault
    → Result Tree ExpandFault
under operator (Err fault) r = Err fault
under operator (Ok l) (Err fault) = Err fault
under operator (Ok l) (Ok r) = Ok (operator l r)

-- a structure with stored queries in place of its operand sets, or the fault of the first from the
-- left
abbrev pub substituted : List ℕ → List ℕ → List StoredSet → Tree → Result Tree ExpandFault
substituted arcs legs sets (leaf attrs term) = Ok (leaf attrs term)
substituted arcs legs sets (operand name) = in_place_of arcs legs name (set_named name sets)
substituted arcs legs sets (and l r) =
    under and (substituted arcs legs sets l) (substituted arcs legs sets r)
substituted arcs legs sets (or l r) =
    under or (substituted arcs legs sets l) (substituted arcs legs sets r)
substituted arcs legs sets (and_not l r) =
    under and_not (substituted arcs legs sets l) (substituted arcs legs sets r)

-- the same, with the sets that the gateway keeps
abbrev pub substituted_among : List ℕ → List ℕ → List KnownSet → Tree → Result Tree ExpandFault
substituted_among arcs legs sets tree = substituted arcs legs (map stored sets) tree

-- a structure within the bounds, as a query of this attribute set; a number past its type's end is
-- told as that end
abbrev pub bounded : List ℕ → Tree → Result RpnQuery ExpandFault
bounded arcs root =
    if nat_lt most_query_nodes (tree_size root) then Err (TooLarge (within64 (tree_size root)))
    else if nat_lt most_query_depth (tree_depth root)
    then Err (TooDeep (within32 (tree_depth root)))
    else if nat_lt most_query_cost (tree_cost root) then Err (TooCostly (within64 (tree_cost root)))
    else Ok (record { attr_set = arcs; root = root })

-- bounds are tested only where every operand set was found
abbrev pub then_bounded : List ℕ → Result Tree ExpandFault → Result RpnQuery ExpandFault
then_bounded arcs (Err fault) = Err fault
then_bounded arcs (Ok root) = bounded arcs root

-- a query over these legs, with these sets in place of its operands
abbrev pub expanded : RpnQuery → List ℕ → List StoredSet → Result RpnQuery ExpandFault
expanded query legs sets =
    then_bounded query.attr_set (substituted query.attr_set legs sets query.root)

-- the expansion of a query, or why it has none; want of memory has no cause
abbrev pub IsExpansion : RpnQuery → List ℕ → List KnownSet → Result RpnQuery ExpandFault → Type 0
IsExpansion query legs sets (Err Memory) = Unit {0}
IsExpansion query legs sets answer = answer ≡ expanded query legs (map stored sets)
