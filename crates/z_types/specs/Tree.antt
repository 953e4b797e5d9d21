-- The structure of a query as plain data (ANSI/NISO Z39.50-2003, RPNStructure)
use Rattle.std.specs.Prelude.{◌≡◌, ℕ, ◌+◌, List, refl, Option, ℤ, ◌⊎◌}
use Rattle.std.specs.Coded.{Coded, coded_ℕ, coded_ℤ, coded_list, coded_option, coded×, coded⊎, code_by}
use Rattle.std.proofs.Common.{ap, inl, inr}
use base.Stored.{Gv, gnum, gcons, gnil}
use Rattle.z_types.specs.declared.query.Attr.{Attr}
use Rattle.z_types.specs.declared.query.Term.{Term}
use Rattle.z_types.specs.declared.query.Term.TheVariants.{General, Number, Words}

-- an operand of attributes and a term, the result set of a name, or two structures joined
pub data Tree : Type 0 where
  leaf : List Attr → Term → Tree
  operand : List ℕ → Tree
  and : Tree → Tree → Tree
  or : Tree → Tree → Tree
  and_not : Tree → Tree → Tree

-- how many nodes a structure has
abbrev pub tree_size : Tree → ℕ
tree_size (leaf attrs term) = 1
tree_size (operand name) = 1
tree_size (and l r) = tree_size l + tree_size r + 1
tree_size (or l r) = tree_size l + tree_size r + 1
tree_size (and_not l r) = tree_size l + tree_size r + 1

abbrev text_code : Coded (List ℕ)
text_code = coded_list coded_ℕ

-- an attribute is stored as its set and its two numbers
abbrev pub attr_code : Coded Attr
attr_code =
    code_by (Option (List ℕ) × (ℕ × ℕ)) (coded× (coded_option text_code) (coded× coded_ℕ coded_ℕ))
    (λ a. (a.set, (a.kind, a.value)))
    (λ (set, (kind, value)). record { set = set; kind = kind; value = value })
    (λ _. refl)

abbrev term_parts : Term → List ℕ ⊎ (ℤ ⊎ List ℕ)
term_parts (General text) = inl text
term_parts (Number n) = inr (inl n)
term_parts (Words text) = inr (inr text)

abbrev term_made : List ℕ ⊎ (ℤ ⊎ List ℕ) → Term
term_made (inl text) = General text
term_made (inr (inl n)) = Number n
term_made (inr (inr text)) = Words text

pub term_again : (t : Term) → term_made (term_parts t) ≡ t
term_again (General text) = refl
term_again (Number n) = refl
term_again (Words text) = refl

-- a term is stored as which it is, and its octets or number
abbrev pub term_code : Coded Term
term_code =
    code_by (List ℕ ⊎ (ℤ ⊎ List ℕ))
    (coded⊎ text_code (coded⊎ coded_ℤ text_code)) term_parts term_made term_again

abbrev leaf_code : Coded (List Attr × Term)
leaf_code = coded× (coded_list attr_code) term_code

abbrev code_of : Tree → Gv
code_of (leaf attrs term) = gcons (gnum 0) (leaf_code.code (attrs, term))
code_of (operand name) = gcons (gnum 1) (text_code.code name)
code_of (and l r) = gcons (gnum 2) (gcons (code_of l) (code_of r))
code_of (or l r) = gcons (gnum 3) (gcons (code_of l) (code_of r))
code_of (and_not l r) = gcons (gnum 4) (gcons (code_of l) (code_of r))

abbrev body : Gv → Gv
body gnil = gnil
body (gnum n) = gnil
body (gcons a b) = b

abbrev front : Gv → Gv
front gnil = gnil
front (gnum n) = gnil
front (gcons a b) = a

pub code_one : (a b : Tree) → code_of a ≡ code_of b → a ≡ b
code_one (leaf attrs term) (leaf others other) p =
    let q = leaf_code.inj (attrs, term) (others, other) (ap body p) in
    ap (λ (x : List Attr × Term). leaf x.0 x.1) q
code_one (operand name) (operand other) p = ap operand (text_code.inj name other (ap body p))
code_one (and l r) (and m s) p =
    let q = code_one l m (ap (λ g. front (body g)) p) in
    let t = code_one r s (ap (λ g. body (body g)) p) in cc
code_one (or l r) (or m s) p =
    let q = code_one l m (ap (λ g. front (body g)) p) in
    let t = code_one r s (ap (λ g. body (body g)) p) in cc
code_one (and_not l r) (and_not m s) p =
    let q = code_one l m (ap (λ g. front (body g)) p) in
    let t = code_one r s (ap (λ g. body (body g)) p) in cc
code_one a b p = cc

-- a structure is stored as which node it is, and its parts
abbrev pub tree_code : Coded Tree
tree_code = record { code = code_of; inj = code_one }
