-- What an expansion is made of may be asked for: no result set is left in it, its numbers are some, and it is within the bounds
use Rattle.std.proofs.Common.{◌≡◌, ◌||◌, ℕ, List, [], ◌∷◌, map, refl, Bool, true, false, cond, Option, None, Some, Result, Ok, Err, nat_lt, subst, sym, ◌∙◌, ap}
use Rattle.std.specs.List.{AllByRecursion}
use Rattle.std.proofs.lemmas.Bool.{ltb-false}
use Rattle.std.proofs.lemmas.List.Elements.{recursion_from_All}
use Rattle.z_types.specs.Bounds.{most_query_depth, most_query_nodes, most_query_cost}
use Rattle.z_types.specs.Numbers.{HasNumbers, HasNumbersOnly}
use Rattle.z_types.specs.QueryMeasures.{tree_depth, tree_cost}
use Rattle.z_types.specs.Same.{is_same}
use Rattle.z_types.specs.Tree.{Tree, tree_size, leaf, operand, and, or, and_not}
use Rattle.z_types.specs.declared.known_set.KnownSet.{KnownSet}
use Rattle.z_types.specs.declared.query.Attr.{Attr}
use Rattle.z_types.specs.declared.query.RpnQuery.{RpnQuery}
use Rattle.z_sets.specs.Askable.{IsPlainTree, IsAskableQuery, HasPlainQuery, HasAskableExpansion}
use Rattle.z_sets.specs.Expansion.{IsExpansion, then_bounded, bounded, under, substituted, in_place_of, inside, in_set, all_in_set}
use Rattle.z_sets.specs.Measured.{names_a_set}
use Rattle.z_sets.specs.Sets.{StoredSet, stored, set_named}
use Rattle.z_sets.specs.declared.fault.ExpandFault.{ExpandFault}
use Rattle.z_sets.specs.declared.fault.ExpandFault.TheVariants.{OtherLegs}

-- ---- two sides

-- an operator's two sides, of which neither names a set
pub plain_sides : (l r : Tree) → IsPlainTree l → IsPlainTree r → (names_a_set l || names_a_set r) ≡ false
plain_sides l r h k = ap (λ b. b || names_a_set r) h.no_set ∙ k.no_set

-- ---- attribute sets

-- the numbers of attributes stay where they get an attribute set
numbers-in_set : (arcs : List ℕ) (attrs : List Attr) → AllByRecursion HasNumbers attrs → AllByRecursion HasNumbers (map (in_set arcs) attrs)
numbers-in_set arcs [] h = tt
numbers-in_set arcs (attr ∷ attrs) h = (h.0, numbers-in_set arcs attrs h.1)

numbers-all_in_set : (arcs : List ℕ) (tree : Tree) → HasNumbersOnly tree → HasNumbersOnly (all_in_set arcs tree)
numbers-all_in_set arcs (leaf attrs term) h = numbers-in_set arcs attrs h
numbers-all_in_set arcs (operand name) h = tt
numbers-all_in_set arcs (and l r) h = (numbers-all_in_set arcs l h.0, numbers-all_in_set arcs r h.1)
numbers-all_in_set arcs (or l r) h = (numbers-all_in_set arcs l h.0, numbers-all_in_set arcs r h.1)
numbers-all_in_set arcs (and_not l r) h = (numbers-all_in_set arcs l h.0, numbers-all_in_set arcs r h.1)

names_a_set-all_in_set : (arcs : List ℕ) (tree : Tree) → names_a_set (all_in_set arcs tree) ≡ names_a_set tree
names_a_set-all_in_set arcs (leaf attrs term) = refl
names_a_set-all_in_set arcs (operand name) = refl
names_a_set-all_in_set arcs (and l r) = cc (names_a_set-all_in_set arcs l, names_a_set-all_in_set arcs r)
names_a_set-all_in_set arcs (or l r) = cc (names_a_set-all_in_set arcs l, names_a_set-all_in_set arcs r)
names_a_set-all_in_set arcs (and_not l r) = cc (names_a_set-all_in_set arcs l, names_a_set-all_in_set arcs r)

-- and so a plain structure stays plain
plain-all_in_set : (arcs : List ℕ) (tree : Tree) → IsPlainTree tree → IsPlainTree (all_in_set arcs tree)
plain-all_in_set arcs tree h = record {
  no_set = names_a_set-all_in_set arcs tree ∙ h.no_set;
  numbers = numbers-all_in_set arcs tree h.numbers;
}

inside_one : (b : Bool) (tree other : Tree) → IsPlainTree tree → IsPlainTree other → IsPlainTree (cond b tree other)
inside_one true tree other h k = h
inside_one false tree other h k = k

plain-inside : (arcs : List ℕ) (query : RpnQuery) → IsPlainTree query.root → IsPlainTree (inside arcs query)
plain-inside arcs query h =
    inside_one (is_same query.attr_set arcs) query.root (all_in_set query.attr_set query.root) h
    (plain-all_in_set query.attr_set query.root h)

-- ---- operands that are result sets

-- a set that is found is plain
abbrev pub IsPlainFound : Option StoredSet → Type 0
IsPlainFound None = Unit {0}
IsPlainFound (Some set) = IsPlainTree set.query.root

plain_one : (b : Bool) (set : StoredSet) (rest : Option StoredSet) → IsPlainTree set.query.root → IsPlainFound rest → IsPlainFound (cond b (Some set) rest)
plain_one true set rest h k = h
plain_one false set rest h k = k

found_plain : (name : List ℕ) (sets : List KnownSet) → AllByRecursion HasPlainQuery sets → IsPlainFound (set_named name (map stored sets))
found_plain name [] h = tt
found_plain name (set ∷ sets) h =
    plain_one (is_same set.name name) (stored set) (set_named name (map stored sets)) h.0 (found_plain name sets h.1)

placed : (b : Bool) (tree root : Tree) (fault : ExpandFault) → IsPlainTree tree → cond b (Ok tree) (Err fault) ≡ Ok root → IsPlainTree root
placed true tree root fault h e = let same : tree ≡ root = cc in subst IsPlainTree same h
placed false tree root fault h e = absurd cc

plain-in_place : (arcs legs name : List ℕ) (found : Option StoredSet) (root : Tree) → IsPlainFound found
    → in_place_of arcs legs name found ≡ Ok root → IsPlainTree root
plain-in_place arcs legs name None root h e = absurd cc
plain-in_place arcs legs name (Some set) root h e =
    placed (is_same set.legs legs) (inside arcs set.query) root (OtherLegs name) (plain-inside arcs set.query h) e

-- ---- operators

both_sides : (operator : Tree → Tree → Tree) (L R : Result Tree ExpandFault) (root : Tree)
    → ((l r : Tree) → IsPlainTree l → IsPlainTree r → IsPlainTree (operator l r))
    → ((l : Tree) → L ≡ Ok l → IsPlainTree l) → ((r : Tree) → R ≡ Ok r → IsPlainTree r) → under operator L R ≡ Ok root → IsPlainTree root
both_sides operator (Err fault) R root joins h k e = absurd cc
both_sides operator (Ok l) (Err fault) root joins h k e = absurd cc
both_sides operator (Ok l) (Ok r) root joins h k e =
    let same : operator l r ≡ root = cc in subst IsPlainTree same (joins l r (h l refl) (k r refl))

-- what stands for a structure among sets of plain queries
plain-substituted : (arcs legs : List ℕ) (sets : List KnownSet) (tree root : Tree) → AllByRecursion HasPlainQuery sets → HasNumbersOnly tree
    → substituted arcs legs (map stored sets) tree ≡ Ok root → IsPlainTree root
plain-substituted arcs legs sets (leaf attrs term) root plain numbers e =
    let same : leaf attrs term ≡ root = cc in subst IsPlainTree same (record { no_set = refl; numbers = numbers })
plain-substituted arcs legs sets (operand name) root plain numbers e =
    plain-in_place arcs legs name (set_named name (map stored sets)) root (found_plain name sets plain) e
plain-substituted arcs legs sets (and l r) root plain numbers e =
    both_sides and _ _ root (λ l r h k. record { no_set = plain_sides l r h k; numbers = (h.numbers, k.numbers) })
    (λ x h. plain-substituted arcs legs sets l x plain numbers.0 h) (λ x h. plain-substituted arcs legs sets r x plain numbers.1 h) e
plain-substituted arcs legs sets (or l r) root plain numbers e =
    both_sides or _ _ root (λ l r h k. record { no_set = plain_sides l r h k; numbers = (h.numbers, k.numbers) })
    (λ x h. plain-substituted arcs legs sets l x plain numbers.0 h) (λ x h. plain-substituted arcs legs sets r x plain numbers.1 h) e
plain-substituted arcs legs sets (and_not l r) root plain numbers e =
    both_sides and_not _ _ root (λ l r h k. record { no_set = plain_sides l r h k; numbers = (h.numbers, k.numbers) })
    (λ x h. plain-substituted arcs legs sets l x plain numbers.0 h) (λ x h. plain-substituted arcs legs sets r x plain numbers.1 h) e

-- ---- the whole

tests_pass : {A : Type 0} (a b c : Bool) (x y z : ExpandFault) (p q : A)
    → cond a (Err x) (cond b (Err y) (cond c (Err z) (Ok p))) ≡ Ok q → (a ≡ false) × (b ≡ false) × (c ≡ false) × (p ≡ q)
tests_pass true b c x y z p q h = absurd cc
tests_pass false true c x y z p q h = absurd cc
tests_pass false false true x y z p q h = absurd cc
tests_pass false false false x y z p q h = (refl, refl, refl, cc)

askable-bounded : (arcs : List ℕ) (root : Tree) (given : RpnQuery) → IsPlainTree root → bounded arcs root ≡ Ok given → IsAskableQuery given
askable-bounded arcs root given h e =
    let t = tests_pass (nat_lt most_query_nodes (tree_size root)) (nat_lt most_query_depth (tree_depth root)) (nat_lt most_query_cost (tree_cost root))
    _ _ _ (record { attr_set = arcs; root = root }) given e in
    subst IsAskableQuery t.3 (record {
      plain = h;
      small = ltb-false most_query_nodes (tree_size root) t.0;
      shallow = ltb-false most_query_depth (tree_depth root) t.1;
      cheap = ltb-false most_query_cost (tree_cost root) t.2;
    })

askable-then_bounded : (arcs : List ℕ) (tree : Result Tree ExpandFault) (given : RpnQuery) → ((root : Tree) → tree ≡ Ok root → IsPlainTree root)
    → then_bounded arcs tree ≡ Ok given → IsAskableQuery given
askable-then_bounded arcs (Err fault) given h e = absurd cc
askable-then_bounded arcs (Ok root) given h e = askable-bounded arcs root given (h root refl) e

-- targets may be asked for an expansion among sets of plain queries
pub askable-expansion : (query : RpnQuery) (legs : List ℕ) (sets : List KnownSet) (answer : Result RpnQuery ExpandFault)
    → IsExpansion query legs sets answer → HasAskableExpansion query sets answer
askable-expansion query legs sets (Err fault) h = λ numbers plain. tt
askable-expansion query legs sets (Ok given) h = λ numbers plain.
    askable-then_bounded query.attr_set (substituted query.attr_set legs (map stored sets) query.root) given
    (λ root e. plain-substituted query.attr_set legs sets query.root root (recursion_from_All HasPlainQuery sets plain) numbers e) (sym h)
