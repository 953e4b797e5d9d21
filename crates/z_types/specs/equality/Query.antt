-- For proofs alone: the parts of queries, and their structures, are tested and copied exactly
-- (this project's own)
use Rattle.std.specs.Prelude.{◌≡◌, refl, Bool, true, false, ◌&&◌}
use Rattle.std.specs.Cmp.{IsEquivalence, IsPartialEquivalence, partial_equiv_from_equiv}
use Rattle.std.proofs.Common.{ap}
use lib.Pointwise.{pointwise}
use Rattle.z_types.specs.Same.{is_same}
use Rattle.z_types.specs.Exact.{EqIsExact, CloneIsExact}
use Rattle.z_types.specs.equality.Tests.{both_true, exact_equiv, itself_cloned, lists_exact, text_exact, ints_exact}
use Rattle.z_types.specs.equality.Parts.{Exactness, part, ◌⊗◌, made_of, shown, number, text, option}
use Rattle.z_types.specs.Tree.{Tree, leaf, operand, and, or, and_not}
use Rattle.z_types.specs.declared.query.Attr.{Attr}
use Rattle.z_types.specs.declared.query.Term.{Term}
use Rattle.z_types.specs.declared.query.Term.TheVariants.{General, Number, Words}
use Rattle.z_types.specs.contracts.query.TermPartialEq.TheImpl as term_test
use Rattle.z_types.specs.contracts.query.AttrPartialEq.TheImpl as attr_test
use Rattle.z_types.specs.contracts.query.TermClone.TheImpl as term_copy
use Rattle.z_types.specs.contracts.query.AttrEq.TheImpl.Laws as attr_law
use Rattle.z_types.specs.contracts.query.TermEq.TheImpl.Laws as term_law
use Rattle.std.proofs.lemmas.Cmp.{lists_equiv, nat_list_eq_equiv}

abbrev pub attr_eq : Attr → Attr → Bool
attr_eq = (attr_test.ghosts).eq

abbrev pub attr : Exactness Attr
attr = made_of
    (part (λ (a : Attr). a.set) (option text)
    ⊗ part (λ a. a.kind) number
    ⊗ part (λ a. a.value) number)
    (λ (set, (kind, value)). record { set = set; kind = kind; value = value })
    (λ _. refl)

abbrev pub term_eq : Term → Term → Bool
term_eq = (term_test.ghosts).eq

pub term_exact : EqIsExact term_eq
term_exact (General a) (General b) h = ap General (text_exact a b h)
term_exact (Number a) (Number b) h = ap Number (ints_exact a b h)
term_exact (Words a) (Words b) h = ap Words (text_exact a b h)
term_exact a b h = cc

pub term_cloned : CloneIsExact (term_copy.ghosts).is_clone
term_cloned (General a) (General b) h = ap General h
term_cloned (Number a) (Number b) h = ap Number h
term_cloned (Words a) (Words b) h = ap Words h
term_cloned a b h = absurd h

abbrev pub term : Exactness Term
term = shown term_exact term_cloned

-- the nodes are alike, and so are their parts
abbrev pub tree_eq : Tree → Tree → Bool
tree_eq (leaf attrs term) (leaf others other) = pointwise attr_eq attrs others && term_eq term other
tree_eq (operand name) (operand other) = is_same name other
tree_eq (and l r) (and m s) = tree_eq l m && tree_eq r s
tree_eq (or l r) (or m s) = tree_eq l m && tree_eq r s
tree_eq (and_not l r) (and_not m s) = tree_eq l m && tree_eq r s
tree_eq a b = false

pub tree_exact : EqIsExact tree_eq
tree_exact (leaf attrs term) (leaf others other) h =
    let p = both_true (pointwise attr_eq attrs others) (term_eq term other) h in
    let a = lists_exact {eq = attr_eq} attr.eq_is_exact attrs others p.0 in
    let t = term_exact term other p.1 in cc
tree_exact (operand name) (operand other) h = ap operand (text_exact name other h)
tree_exact (and l r) (and m s) h =
    let p = both_true (tree_eq l m) (tree_eq r s) h in
    let a = tree_exact l m p.0 in
    let b = tree_exact r s p.1 in cc
tree_exact (or l r) (or m s) h =
    let p = both_true (tree_eq l m) (tree_eq r s) h in
    let a = tree_exact l m p.0 in
    let b = tree_exact r s p.1 in cc
tree_exact (and_not l r) (and_not m s) h =
    let p = both_true (tree_eq l m) (tree_eq r s) h in
    let a = tree_exact l m p.0 in
    let b = tree_exact r s p.1 in cc
tree_exact a b h = cc

tree_itself : (a : Tree) → tree_eq a a ≡ true
tree_itself (leaf attrs term) =
    let a = (lists_equiv attr_law.laws-law).refl attrs in
    let t = term_law.laws-law.refl term in rw (a, t)
tree_itself (operand name) = nat_list_eq_equiv.refl name
tree_itself (and l r) = rw (tree_itself l, tree_itself r)
tree_itself (or l r) = rw (tree_itself l, tree_itself r)
tree_itself (and_not l r) = rw (tree_itself l, tree_itself r)

pub tree_equiv : IsEquivalence tree_eq
tree_equiv = exact_equiv tree_exact tree_itself

pub tree_per : IsPartialEquivalence tree_eq
tree_per = partial_equiv_from_equiv tree_equiv

abbrev pub tree : Exactness Tree
tree = shown tree_exact itself_cloned
