-- For proofs alone: the parts of queries, and their trees, are tested and copied exactly
-- (this project's own).
use Rattle.std.specs.Prelude.{◌≡◌, ℕ, refl, Bool, true, false, ◌&&◌, List, Option}
use Rattle.std.specs.Cmp.{IsEquivalence, IsPartialEquivalence, partial_equiv_from_equiv}
use Rattle.std.specs.Cmp.Lexicographic.{lists_equiv, options_equiv}
use Rattle.std.proofs.Common.{ap}
use Rattle.std.proofs.lemmas.Cmp.{nat_list_eq_equiv}
use Rattle.z_types.specs.Exact.{EqIsExact}
use Rattle.z_types.specs.equality.Tests.{both_true, exact_equiv, itself_cloned}
use Rattle.z_types.specs.equality.Parts.{Exactness, part, ◌⊗◌, ◌⊠◌, made_of, shown, text, list, option}
use Rattle.cql_parse.specs.declared.tree.Modifier.{Modifier}
use Rattle.cql_parse.specs.declared.tree.Head.{Head}
use Rattle.cql_parse.specs.declared.tree.SortKey.{SortKey}
use Rattle.cql_parse.specs.contracts.tree.ModifierEq.TheImpl.Laws as modifier_law
use Rattle.cql_parse.specs.contracts.tree.HeadEq.TheImpl.Laws as head_law
use Rattle.cql_parse.specs.contracts.tree.SortKeyEq.TheImpl.Laws as key_law
use Rattle.cql_parse.specs.Tree.{Tree, clause, joined, assigned, sorted}

abbrev pub modifier : Exactness Modifier
modifier = made_of
    (part (λ (m : Modifier). m.name) text
    ⊗ part (λ m. m.value) (option (text ⊠ text)))
    (λ (name, value). record { name = name; value = value })
    (λ _. refl)

abbrev pub modifiers : Exactness (List Modifier)
modifiers = list modifier

abbrev pub head : Exactness Head
head = made_of
    (part (λ (h : Head). h.index) text
    ⊗ part (λ h. h.relation) text
    ⊗ part (λ h. h.modifiers) modifiers)
    (λ (index, (relation, modifiers)).
    record { index = index; relation = relation; modifiers = modifiers })
    (λ _. refl)

abbrev pub key : Exactness SortKey
key = made_of
    (part (λ (k : SortKey). k.index) text
    ⊗ part (λ k. k.modifiers) modifiers)
    (λ (index, modifiers). record { index = index; modifiers = modifiers })
    (λ _. refl)

-- what stands in a node beside the queries under it
abbrev pub clause_parts : Exactness (Option Head × List ℕ)
clause_parts = option head ⊠ text

abbrev pub boolean_parts : Exactness (List ℕ × List Modifier)
boolean_parts = text ⊠ modifiers

abbrev pub prefix_parts : Exactness (Option (List ℕ) × List ℕ)
prefix_parts = option text ⊠ text

abbrev pub keys : Exactness (List SortKey)
keys = list key

-- the nodes are alike, and so are their parts
abbrev pub tree_eq : Tree → Tree → Bool
tree_eq (clause head term) (clause other word) = clause_parts.eq (head, term) (other, word)
tree_eq (joined boolean modifiers l r) (joined word others m s) =
    boolean_parts.eq (boolean, modifiers) (word, others) && (tree_eq l m && tree_eq r s)
tree_eq (assigned name uri q) (assigned other word r) =
    prefix_parts.eq (name, uri) (other, word) && tree_eq q r
tree_eq (sorted q these) (sorted r others) = tree_eq q r && keys.eq these others
tree_eq a b = false

pub tree_exact : EqIsExact tree_eq
tree_exact (clause head term) (clause other word) h =
    let p = clause_parts.eq_is_exact (head, term) (other, word) h in
    ap (λ (x : Option Head × List ℕ). clause x.0 x.1) p
tree_exact (joined boolean modifiers l r) (joined word others m s) h =
    let p = both_true (boolean_parts.eq (boolean, modifiers) (word, others))
    (tree_eq l m && tree_eq r s) h in
    let q = both_true (tree_eq l m) (tree_eq r s) p.1 in
    let b = boolean_parts.eq_is_exact (boolean, modifiers) (word, others) p.0 in
    let word_is = ap (λ (x : List ℕ × List Modifier). x.0) b in
    let modifiers_are = ap (λ (x : List ℕ × List Modifier). x.1) b in
    let t = tree_exact l m q.0 in
    let u = tree_exact r s q.1 in cc
tree_exact (assigned name uri q) (assigned other word r) h =
    let p = both_true (prefix_parts.eq (name, uri) (other, word)) (tree_eq q r) h in
    let b = prefix_parts.eq_is_exact (name, uri) (other, word) p.0 in
    let name_is = ap (λ (x : Option (List ℕ) × List ℕ). x.0) b in
    let uri_is = ap (λ (x : Option (List ℕ) × List ℕ). x.1) b in
    let t = tree_exact q r p.1 in cc
tree_exact (sorted q these) (sorted r others) h =
    let p = both_true (tree_eq q r) (keys.eq these others) h in
    let k = keys.eq_is_exact these others p.1 in
    let t = tree_exact q r p.0 in cc
tree_exact a b h = cc

tree_itself : (a : Tree) → tree_eq a a ≡ true
tree_itself (clause head term) =
    let h = (options_equiv head_law.laws-law).refl head in
    let t = nat_list_eq_equiv.refl term in rw (h, t)
tree_itself (joined boolean modifiers l r) =
    let b = nat_list_eq_equiv.refl boolean in
    let m = (lists_equiv modifier_law.laws-law).refl modifiers in
    rw (b, m, tree_itself l, tree_itself r)
tree_itself (assigned name uri q) =
    let n = (options_equiv nat_list_eq_equiv).refl name in
    let u = nat_list_eq_equiv.refl uri in rw (n, u, tree_itself q)
tree_itself (sorted q these) =
    let k = (lists_equiv key_law.laws-law).refl these in rw (tree_itself q, k)

pub tree_equiv : IsEquivalence tree_eq
tree_equiv = exact_equiv tree_exact tree_itself

pub tree_per : IsPartialEquivalence tree_eq
tree_per = partial_equiv_from_equiv tree_equiv

abbrev pub tree : Exactness Tree
tree = shown tree_exact itself_cloned
