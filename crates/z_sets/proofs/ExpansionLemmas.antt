-- An expansion follows from its measures and its parts
use Rattle.std.proofs.Common.{◌≡◌, ℕ, ◌<◌, ◌^◌, ◌-◌, List, [], map, refl, Bool, true, false, cond, Option, None, Some, Result, Ok, Err, nat_lt, arith, sym, ap, ◌∙◌}
use Rattle.std.proofs.lemmas.Bool.Decides.{nat_tests}
use Rattle.std.proofs.lemmas.Bool.{or_parts}
use Rattle.z_types.specs.declared.known_set.KnownSet.{KnownSet}
use Rattle.z_types.specs.declared.query.RpnQuery.{RpnQuery}
use Rattle.z_types.specs.Bounds.{most_query_depth, most_query_nodes, most_query_cost, within32, within64}
use Rattle.z_types.specs.Tree.{Tree, tree_size, leaf, operand, and, or, and_not}
use Rattle.z_types.specs.QueryMeasures.{tree_depth, tree_cost, measures_of, joined}
use Rattle.z_types.specs.Same.{is_same}
use Rattle.z_sets.specs.Sets.{StoredSet, stored, set_named}
use Rattle.z_sets.specs.Expansion.{IsExpansion, expanded, then_bounded, bounded, under, substituted, in_place_of, inside}
use Rattle.z_sets.specs.Measured.{IsOrMemory, measures_in, names_a_set, tested, then_tested, tested_expansion}
use Rattle.z_sets.specs.declared.fault.ExpandFault.{ExpandFault}
use Rattle.z_sets.specs.declared.fault.ExpandFault.TheVariants.{UnknownSet, OtherLegs, TooLarge, TooDeep, TooCostly, Memory}
use Rattle.z_sets.proofs.MeasureLemmas.{measures_of-inside, measures_of-and, measures_of-or, measures_of-and_not}

-- ---- the attribute set changes no measure

in_place_one : (b : Bool) (name : List ℕ) (t s : Tree) → measures_of t ≡ measures_of s → measures_in (cond b (Ok t) (Err (OtherLegs name))) ≡ measures_in (cond b (Ok s) (Err (OtherLegs name)))
in_place_one true name t s h = ap Ok h
in_place_one false name t s h = refl

in_place_measured : (arcs legs name : List ℕ) (found : Option StoredSet) → measures_in (in_place_of arcs legs name found) ≡ measures_in (in_place_of [] legs name found)
in_place_measured arcs legs name None = refl
in_place_measured arcs legs name (Some set) =
    in_place_one (is_same set.legs legs) name (inside arcs set.query) (inside [] set.query)
    (measures_of-inside arcs set.query ∙ sym (measures_of-inside [] set.query))

under_measured : (operator : Tree → Tree → Tree) → ((l r : Tree) → measures_of (operator l r) ≡ joined (measures_of l) (measures_of r)) → (L R M S : Result Tree ExpandFault) → measures_in L ≡ measures_in M → measures_in R ≡ measures_in S → measures_in (under operator L R) ≡ measures_in (under operator M S)
under_measured operator e (Err f) R (Err g) S h k = h
under_measured operator e (Err f) R (Ok m) S h k = cc
under_measured operator e (Ok l) R (Err g) S h k = cc
under_measured operator e (Ok l) (Err f) (Ok m) (Err g) h k = k
under_measured operator e (Ok l) (Err f) (Ok m) (Ok s) h k = cc
under_measured operator e (Ok l) (Ok r) (Ok m) (Err g) h k = cc
under_measured operator e (Ok l) (Ok r) (Ok m) (Ok s) h k = cc (e l r, e m s)

-- a structure's expansion has the same measures inside each attribute set
pub measures_in-substituted : (arcs legs : List ℕ) (sets : List StoredSet) (t : Tree) → measures_in (substituted arcs legs sets t) ≡ measures_in (substituted [] legs sets t)
measures_in-substituted arcs legs sets (leaf attrs term) = refl
measures_in-substituted arcs legs sets (operand name) = in_place_measured arcs legs name (set_named name sets)
measures_in-substituted arcs legs sets (and l r) =
    under_measured and measures_of-and _ _ _ _ (measures_in-substituted arcs legs sets l) (measures_in-substituted arcs legs sets r)
measures_in-substituted arcs legs sets (or l r) =
    under_measured or measures_of-or _ _ _ _ (measures_in-substituted arcs legs sets l) (measures_in-substituted arcs legs sets r)
measures_in-substituted arcs legs sets (and_not l r) =
    under_measured and_not measures_of-and_not _ _ _ _ (measures_in-substituted arcs legs sets l) (measures_in-substituted arcs legs sets r)

-- ---- the bounds

below_64 : (k n : ℕ) → k < 2 ^ 64 - 1 → nat_lt k (within64 n) ≡ nat_lt k n
below_64 k n h = grind (arith, nat_tests)

below_32 : (k n : ℕ) → k < 2 ^ 32 - 1 → nat_lt k (within32 n) ≡ nat_lt k n
below_32 k n h = grind (arith, nat_tests)

first_fault : {A B : Type 0} (a b c : Bool) (x y z e : ExpandFault) (p : A) (q : B) → cond a (Err x) (cond b (Err y) (cond c (Err z) (Ok p))) ≡ Err e → cond a (Err x) (cond b (Err y) (cond c (Err z) (Ok q))) ≡ Err e
first_fault true b c x y z e p q h = cc
first_fault false true c x y z e p q h = cc
first_fault false false true x y z e p q h = cc
first_fault false false false x y z e p q h = cc

no_fault : {A B : Type 0} (a b c : Bool) (x y z : ExpandFault) (p r : A) (q : B) → cond a (Err x) (cond b (Err y) (cond c (Err z) (Ok p))) ≡ Ok r → cond a (Err x) (cond b (Err y) (cond c (Err z) (Ok q))) ≡ Ok q
no_fault true b c x y z p r q h = cc
no_fault false true c x y z p r q h = cc
no_fault false false true x y z p r q h = cc
no_fault false false false x y z p r q h = refl

-- a structure as tested by its measures
tested_bounds : (root : Tree) → tested (measures_of root) ≡ cond (nat_lt most_query_nodes (tree_size root)) (Err (TooLarge (within64 (tree_size root)))) (cond (nat_lt most_query_depth (tree_depth root)) (Err (TooDeep (within32 (tree_depth root)))) (cond (nat_lt most_query_cost (tree_cost root)) (Err (TooCostly (within64 (tree_cost root)))) (Ok tt)))
tested_bounds root =
    let a = below_64 most_query_nodes (tree_size root) (omega arith) in
    let b = below_32 most_query_depth (tree_depth root) (omega arith) in
    let d = below_64 most_query_cost (tree_cost root) (omega arith) in rw (a, b, d) refl

-- the fault of a test is the expansion's
bounded_fault : (arcs : List ℕ) (tree : Result Tree ExpandFault) (fault : ExpandFault) → then_tested (measures_in tree) ≡ Err fault → then_bounded arcs tree ≡ Err fault
bounded_fault arcs (Err f) fault h = cc
bounded_fault arcs (Ok root) fault h =
    first_fault (nat_lt most_query_nodes (tree_size root)) (nat_lt most_query_depth (tree_depth root)) (nat_lt most_query_cost (tree_cost root)) _ _ _ fault tt (record { attr_set = arcs; root = root }) (sym (tested_bounds root) ∙ h)

-- what passes the test is the expansion
bounded_passes : (arcs : List ℕ) (root : Tree) (done : Unit {0}) → tested (measures_of root) ≡ Ok done → bounded arcs root ≡ Ok (record { attr_set = arcs; root = root })
bounded_passes arcs root done h =
    no_fault (nat_lt most_query_nodes (tree_size root)) (nat_lt most_query_depth (tree_depth root)) (nat_lt most_query_cost (tree_cost root)) _ _ _ tt done (record { attr_set = arcs; root = root }) (sym (tested_bounds root) ∙ h)

-- ---- the whole

told_whole : {A : Type 0} (query : RpnQuery) (legs : List ℕ) (sets : List KnownSet) (part : Result A ExpandFault) (fault : ExpandFault) → IsOrMemory part (Err fault) → ((f : ExpandFault) → part ≡ Err f → expanded query legs (map stored sets) ≡ Err f) → IsExpansion query legs sets (Err fault)
told_whole query legs sets part (UnknownSet name) h e = sym (e _ (sym h))
told_whole query legs sets part (OtherLegs name) h e = sym (e _ (sym h))
told_whole query legs sets part (TooLarge n) h e = sym (e _ (sym h))
told_whole query legs sets part (TooDeep n) h e = sym (e _ (sym h))
told_whole query legs sets part (TooCostly n) h e = sym (e _ (sym h))
told_whole query legs sets part Memory h e = tt

-- where a test fails
pub test_fails : (query : RpnQuery) (legs : List ℕ) (sets : List KnownSet) (fault : ExpandFault) → IsOrMemory (tested_expansion legs sets query.root) (Err fault) → IsExpansion query legs sets (Err fault)
test_fails query legs sets fault h =
    told_whole query legs sets (tested_expansion legs sets query.root) fault h
    (λ f e. bounded_fault query.attr_set (substituted query.attr_set legs (map stored sets) query.root) f
    (ap then_tested (measures_in-substituted query.attr_set legs (map stored sets) query.root) ∙ e))

passed_whole : (arcs : List ℕ) (tree : Result Tree ExpandFault) (root : Tree) (done : Unit {0}) → then_tested (measures_in tree) ≡ Ok done → tree ≡ Ok root → then_bounded arcs tree ≡ Ok (record { attr_set = arcs; root = root })
passed_whole arcs (Err f) root done h e = cc
passed_whole arcs (Ok other) root done h e = let q = bounded_passes arcs other done h in cc

-- where nothing fails
pub built : (query : RpnQuery) (legs : List ℕ) (sets : List KnownSet) (root : Tree) (done : Unit {0}) → tested_expansion legs sets query.root ≡ Ok done → substituted query.attr_set legs (map stored sets) query.root ≡ Ok root → expanded query legs (map stored sets) ≡ Ok (record { attr_set = query.attr_set; root = root })
built query legs sets root done h e =
    passed_whole query.attr_set (substituted query.attr_set legs (map stored sets) query.root) root done
    (ap then_tested (measures_in-substituted query.attr_set legs (map stored sets) query.root) ∙ h) e

-- ---- a query that names no set

-- needs none
pub substituted-none : (arcs legs : List ℕ) (sets : List StoredSet) (t : Tree) → names_a_set t ≡ false → substituted arcs legs sets t ≡ substituted arcs legs [] t
substituted-none arcs legs sets (leaf attrs term) h = refl
substituted-none arcs legs sets (operand name) h = cc
substituted-none arcs legs sets (and l r) h =
    let p = or_parts (names_a_set l) (names_a_set r) h in
    cc (substituted-none arcs legs sets l p.0, substituted-none arcs legs sets r p.1)
substituted-none arcs legs sets (or l r) h =
    let p = or_parts (names_a_set l) (names_a_set r) h in
    cc (substituted-none arcs legs sets l p.0, substituted-none arcs legs sets r p.1)
substituted-none arcs legs sets (and_not l r) h =
    let p = or_parts (names_a_set l) (names_a_set r) h in
    cc (substituted-none arcs legs sets l p.0, substituted-none arcs legs sets r p.1)

told_again : (query : RpnQuery) (legs : List ℕ) (sets : List KnownSet) (answer : Result RpnQuery ExpandFault) → expanded query legs (map stored sets) ≡ expanded query legs [] → IsExpansion query legs [] answer → IsExpansion query legs sets answer
told_again query legs sets (Ok given) e h = h ∙ sym e
told_again query legs sets (Err (UnknownSet name)) e h = h ∙ sym e
told_again query legs sets (Err (OtherLegs name)) e h = h ∙ sym e
told_again query legs sets (Err (TooLarge n)) e h = h ∙ sym e
told_again query legs sets (Err (TooDeep n)) e h = h ∙ sym e
told_again query legs sets (Err (TooCostly n)) e h = h ∙ sym e
told_again query legs sets (Err Memory) e h = tt

-- its expansion among no sets is the one among all
pub expansion-none : (query : RpnQuery) (legs : List ℕ) (sets : List KnownSet) (answer : Result RpnQuery ExpandFault) → names_a_set query.root ≡ false → IsExpansion query legs [] answer → IsExpansion query legs sets answer
expansion-none query legs sets answer n h =
    told_again query legs sets answer (ap (then_bounded query.attr_set) (substituted-none query.attr_set legs (map stored sets) query.root n)) h
