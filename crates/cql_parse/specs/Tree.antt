-- A CQL query as plain data (CQL 1.2): clauses, booleans, prefix assignments and sorts.
use Rattle.std.specs.Prelude.{◌≡◌, ℕ, suc, ◌+◌, max, List, Option, refl}
use Rattle.std.specs.Coded.{Coded, coded_ℕ, coded_list, coded_option, coded×, code_by}
use Rattle.std.proofs.Common.{ap}
use base.Stored.{Gv, gnum, gcons, gnil}
use Rattle.cql_parse.specs.declared.tree.Modifier.{Modifier}
use Rattle.cql_parse.specs.declared.tree.Head.{Head}
use Rattle.cql_parse.specs.declared.tree.SortKey.{SortKey}

-- a term with its head; two queries under a boolean with its modifiers; a query under a prefix
-- assignment; a query with its sort keys
pub data Tree : Type 0 where
  clause : Option Head → List ℕ → Tree
  joined : List ℕ → List Modifier → Tree → Tree → Tree
  assigned : Option (List ℕ) → List ℕ → Tree → Tree
  sorted : Tree → List SortKey → Tree

-- how many nodes a query has
abbrev pub tree_size : Tree → ℕ
tree_size (clause head term) = 1
tree_size (joined boolean modifiers l r) = tree_size l + tree_size r + 1
tree_size (assigned name uri q) = tree_size q + 1
tree_size (sorted q keys) = tree_size q + 1

-- how many levels a query has: each node is one
abbrev pub depth : Tree → ℕ
depth (clause head term) = 1
depth (joined boolean modifiers l r) = suc (max (depth l) (depth r))
depth (assigned name uri q) = suc (depth q)
depth (sorted q keys) = suc (depth q)

-- how the data is stored: each part as numbers and lists of them
abbrev text_code : Coded (List ℕ)
text_code = coded_list coded_ℕ

abbrev modifier_code : Coded Modifier
modifier_code =
    code_by (List ℕ × Option (List ℕ × List ℕ))
    (coded× text_code (coded_option (coded× text_code text_code)))
    (λ m. (m.name, m.value))
    (λ p. record { name = p.0; value = p.1 }) (λ _. refl)

abbrev head_code : Coded Head
head_code =
    code_by (List ℕ × (List ℕ × List Modifier))
    (coded× text_code (coded× text_code (coded_list modifier_code)))
    (λ h. (h.index, (h.relation, h.modifiers)))
    (λ p. record { index = p.0; relation = p.1.0; modifiers = p.1.1 }) (λ _. refl)

abbrev key_code : Coded SortKey
key_code =
    code_by (List ℕ × List Modifier) (coded× text_code (coded_list modifier_code))
    (λ k. (k.index, k.modifiers))
    (λ p. record { index = p.0; modifiers = p.1 }) (λ _. refl)

abbrev clause_code : Coded (Option Head × List ℕ)
clause_code = coded× (coded_option head_code) text_code

abbrev boolean_code : Coded (List ℕ × List Modifier)
boolean_code = coded× text_code (coded_list modifier_code)

abbrev prefix_code : Coded (Option (List ℕ) × List ℕ)
prefix_code = coded× (coded_option text_code) text_code

abbrev keys_code : Coded (List SortKey)
keys_code = coded_list key_code

abbrev code_of : Tree → Gv
code_of (clause head term) = gcons (gnum 0) (clause_code.code (head, term))
code_of (joined boolean modifiers l r) =
    gcons (gnum 1) (gcons (boolean_code.code (boolean, modifiers)) (gcons (code_of l) (code_of r)))
code_of (assigned name uri q) = gcons (gnum 2) (gcons (prefix_code.code (name, uri)) (code_of q))
code_of (sorted q keys) = gcons (gnum 3) (gcons (keys_code.code keys) (code_of q))

abbrev behind : Gv → Gv
behind gnil = gnil
behind (gnum n) = gnil
behind (gcons a b) = b

abbrev front : Gv → Gv
front gnil = gnil
front (gnum n) = gnil
front (gcons a b) = a

pub code_one : (a b : Tree) → code_of a ≡ code_of b → a ≡ b
code_one (clause head term) (clause other word) p =
    let q = clause_code.inj (head, term) (other, word) (ap behind p) in
    ap (λ (x : Option Head × List ℕ). clause x.0 x.1) q
code_one (joined boolean modifiers l r) (joined word others m s) p =
    let b = boolean_code.inj (boolean, modifiers) (word, others) (ap (λ g. front (behind g)) p) in
    let word_is = ap (λ (x : List ℕ × List Modifier). x.0) b in
    let modifiers_are = ap (λ (x : List ℕ × List Modifier). x.1) b in
    let q = code_one l m (ap (λ g. front (behind (behind g))) p) in
    let t = code_one r s (ap (λ g. behind (behind (behind g))) p) in cc
code_one (assigned name uri q) (assigned other word r) p =
    let b = prefix_code.inj (name, uri) (other, word) (ap (λ g. front (behind g)) p) in
    let name_is = ap (λ (x : Option (List ℕ) × List ℕ). x.0) b in
    let uri_is = ap (λ (x : Option (List ℕ) × List ℕ). x.1) b in
    let t = code_one q r (ap (λ g. behind (behind g)) p) in cc
code_one (sorted q keys) (sorted r others) p =
    let b = keys_code.inj keys others (ap (λ g. front (behind g)) p) in
    let t = code_one q r (ap (λ g. behind (behind g)) p) in cc
code_one (clause head term) (joined word others m s) p = cc
code_one (clause head term) (assigned other word r) p = cc
code_one (clause head term) (sorted r others) p = cc
code_one (joined boolean modifiers l r) (clause other word) p = cc
code_one (joined boolean modifiers l r) (assigned other word q) p = cc
code_one (joined boolean modifiers l r) (sorted q others) p = cc
code_one (assigned name uri q) (clause other word) p = cc
code_one (assigned name uri q) (joined word others m s) p = cc
code_one (assigned name uri q) (sorted r others) p = cc
code_one (sorted q keys) (clause other word) p = cc
code_one (sorted q keys) (joined word others m s) p = cc
code_one (sorted q keys) (assigned other word r) p = cc

abbrev pub tree_code : Coded Tree
tree_code = record { code = code_of; inj = code_one }
