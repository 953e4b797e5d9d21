-- The measures of an expansion follow from those of its parts
use Rattle.std.proofs.Common.{◌≡◌, ℕ, List, [], find, option_map, refl, Bool, true, false, cond, Option, None, Some, Result, Ok, Err, slice_get, rules, sym, ap, ◌∙◌}
use Rattle.std.proofs.lemmas.List.{length-map}
use Rattle.std.proofs.lemmas.Option.{slice_get-map}
use Rattle.std.specs.List.{position}
use Rattle.z_types.specs.declared.known_set.KnownSet.{KnownSet}
use Rattle.z_types.specs.declared.query.RpnQuery.{RpnQuery}
use Rattle.z_types.specs.Tree.{Tree, tree_size, leaf, operand, and, or, and_not}
use Rattle.z_types.specs.QueryMeasures.{tree_depth, tree_cost, measures_of, joined}
use Rattle.z_types.specs.Same.{is_same}
use Rattle.z_sets.specs.Sets.{stored}
use Rattle.z_sets.specs.Expansion.{all_in_set, inside, under, in_place_of}
use Rattle.z_sets.specs.Measured.{measures_in, measures_of_sets, expansion_measures}
use Rattle.z_sets.specs.declared.fault.ExpandFault.{ExpandFault}
use Rattle.z_sets.specs.declared.fault.ExpandFault.TheVariants.{OtherLegs}
use Rattle.z_types.specs.declared.measures.Measures.{Measures}
use Rattle.z_sets.specs.Operands.{set_for}
use Rattle.z_sets.proofs.SetLemmas.{set_named-map-stored, found_at_place, found_at_no_place}

pub tree_size-all_in_set : (arcs : List ℕ) (t : Tree) → tree_size (all_in_set arcs t) ≡ tree_size t
tree_size-all_in_set arcs (leaf attrs term) = refl
tree_size-all_in_set arcs (operand name) = refl
tree_size-all_in_set arcs (and l r) = cc (tree_size-all_in_set arcs l, tree_size-all_in_set arcs r)
tree_size-all_in_set arcs (or l r) = cc (tree_size-all_in_set arcs l, tree_size-all_in_set arcs r)
tree_size-all_in_set arcs (and_not l r) = cc (tree_size-all_in_set arcs l, tree_size-all_in_set arcs r)

pub tree_depth-all_in_set : (arcs : List ℕ) (t : Tree) → tree_depth (all_in_set arcs t) ≡ tree_depth t
tree_depth-all_in_set arcs (leaf attrs term) = refl
tree_depth-all_in_set arcs (operand name) = refl
tree_depth-all_in_set arcs (and l r) = cc (tree_depth-all_in_set arcs l, tree_depth-all_in_set arcs r)
tree_depth-all_in_set arcs (or l r) = cc (tree_depth-all_in_set arcs l, tree_depth-all_in_set arcs r)
tree_depth-all_in_set arcs (and_not l r) = cc (tree_depth-all_in_set arcs l, tree_depth-all_in_set arcs r)

pub tree_cost-all_in_set : (arcs : List ℕ) (t : Tree) → tree_cost (all_in_set arcs t) ≡ tree_cost t
tree_cost-all_in_set arcs (leaf attrs term) = rw length-map refl
tree_cost-all_in_set arcs (operand name) = refl
tree_cost-all_in_set arcs (and l r) = cc (tree_cost-all_in_set arcs l, tree_cost-all_in_set arcs r)
tree_cost-all_in_set arcs (or l r) = cc (tree_cost-all_in_set arcs l, tree_cost-all_in_set arcs r)
tree_cost-all_in_set arcs (and_not l r) = cc (tree_cost-all_in_set arcs l, tree_cost-all_in_set arcs r)

-- an attribute set changes no measure
pub measures_of-all_in_set : (arcs : List ℕ) (t : Tree) → measures_of (all_in_set arcs t) ≡ measures_of t
measures_of-all_in_set arcs t = cc (tree_size-all_in_set arcs t, tree_depth-all_in_set arcs t, tree_cost-all_in_set arcs t)

inside_one : (b : Bool) (t s : Tree) → measures_of s ≡ measures_of t → measures_of (cond b t s) ≡ measures_of t
inside_one true t s h = refl
inside_one false t s h = h

-- a stored query has its measures inside each attribute set
pub measures_of-inside : (arcs : List ℕ) (query : RpnQuery) → measures_of (inside arcs query) ≡ measures_of query.root
measures_of-inside arcs query =
    inside_one (is_same query.attr_set arcs) query.root (all_in_set query.attr_set query.root) (measures_of-all_in_set query.attr_set query.root)

-- ---- operands that are result sets

known_one : (b : Bool) (name : List ℕ) (other set : KnownSet) → cond b (Ok other) (Err (OtherLegs name)) ≡ Ok set → measures_in (cond b (Ok (inside [] other.query)) (Err (OtherLegs name))) ≡ Ok (measures_of set.query.root)
known_one true name other set h = let e = measures_of-inside [] other.query in cc
known_one false name other set h = cc

-- the size at the place of a name, where there is one
pub size_named : (name : List ℕ) (sets : List KnownSet) (i : ℕ) → position (λ set. is_same set.name name) sets ≡ Some i → slice_get (measures_of_sets sets) i ≡ option_map (λ set. measures_of set.query.root) (find (λ set. is_same set.name name) sets)
size_named name sets i h =
    slice_get-map (λ set. measures_of set.query.root) sets i
    ∙ ap (option_map (λ set. measures_of set.query.root)) (sym (found_at_place (λ set. is_same set.name name) sets i h))

pub no_size_named : (name : List ℕ) (sets : List KnownSet) → position (λ set. is_same set.name name) sets ≡ None → option_map (λ set. measures_of set.query.root) (find (λ set. is_same set.name name) sets) ≡ None
no_size_named name sets h =
    ap (option_map (λ set. measures_of set.query.root)) (found_at_no_place (λ set. is_same set.name name) sets h)

operand_measured : (legs : List ℕ) (name : List ℕ) (found : Option KnownSet) (set : KnownSet) → set_for name legs found ≡ Ok set → measures_in (in_place_of [] legs name (option_map stored found)) ≡ Ok (measures_of set.query.root)
operand_measured legs name None set h = cc
operand_measured legs name (Some other) set h =
    known_one (is_same other.legs legs) name other set h

-- where the set of a name is one of these legs, its query has the measures
pub measures-of-known : (legs : List ℕ) (sets : List KnownSet) (name : List ℕ) (set : KnownSet) → set_for name legs (find (λ set. is_same set.name name) sets) ≡ Ok set → expansion_measures legs sets (operand name) ≡ Ok (measures_of set.query.root)
measures-of-known legs sets name set h =
    rw (set_named-map-stored name sets) (operand_measured legs name (find (λ set. is_same set.name name) sets) set h)

-- ---- operators

joined_one : (operator : Tree → Tree → Tree) → ((l r : Tree) → measures_of (operator l r) ≡ joined (measures_of l) (measures_of r)) → (L R : Result Tree ExpandFault) (l r : Measures) → measures_in L ≡ Ok l → measures_in R ≡ Ok r → measures_in (under operator L R) ≡ Ok (joined l r)
joined_one operator e (Ok x) (Ok y) l r h k = let q = e x y in cc
joined_one operator e (Err f) R l r h k = cc
joined_one operator e (Ok x) (Err f) l r h k = cc

pub measures_of-and : (l r : Tree) → measures_of (and l r) ≡ joined (measures_of l) (measures_of r)
measures_of-and l r = search rules

pub measures_of-or : (l r : Tree) → measures_of (or l r) ≡ joined (measures_of l) (measures_of r)
measures_of-or = measures_of-and

pub measures_of-and_not : (l r : Tree) → measures_of (and_not l r) ≡ joined (measures_of l) (measures_of r)
measures_of-and_not = measures_of-and

pub measures_in-and : (L R : Result Tree ExpandFault) (l r : Measures) → measures_in L ≡ Ok l → measures_in R ≡ Ok r → measures_in (under and L R) ≡ Ok (joined l r)
measures_in-and = joined_one and measures_of-and

pub measures_in-or : (L R : Result Tree ExpandFault) (l r : Measures) → measures_in L ≡ Ok l → measures_in R ≡ Ok r → measures_in (under or L R) ≡ Ok (joined l r)
measures_in-or = joined_one or measures_of-or

pub measures_in-and_not : (L R : Result Tree ExpandFault) (l r : Measures) → measures_in L ≡ Ok l → measures_in R ≡ Ok r → measures_in (under and_not L R) ≡ Ok (joined l r)
measures_in-and_not = joined_one and_not measures_of-and_not
