-- A number for each key of a class and a login, by which its sets are found (this project's own)
use Rattle.std.specs.Prelude.{ℕ, ◌+◌, ◌*◌, ◌^◌, ◌%◌, List, Option, None, Some, fold, unsigned_abs}
use Rattle.z_types.specs.declared.key.SetKey.{SetKey}
use Rattle.z_types.specs.declared.query.Attr.{Attr}
use Rattle.z_types.specs.declared.query.Term.{Term}
use Rattle.z_types.specs.declared.query.Term.TheVariants.{General, Number, Words}
use Rattle.z_types.specs.Tree.{Tree, leaf, operand, and, or, and_not}

-- who may share a session: a class and a login, or none
abbrev pub Sharers : Type 0
Sharers = ℕ × Option (List ℕ)

-- a number of 64 bits, changed by another
abbrev pub mixed : ℕ → ℕ → ℕ
mixed digest part = (digest * 1099511628211 + part) % 2 ^ 64

-- changed by a login, by a 9 and its octets; none changes nothing
abbrev pub login_mixed : ℕ → Option (List ℕ) → ℕ
login_mixed digest None = digest
login_mixed digest (Some login) = fold mixed (mixed digest 9) login

-- changed by names, each by a 1 and its octets
abbrev pub names_mixed : ℕ → List (List ℕ) → ℕ
names_mixed digest names = fold (λ d name. fold mixed (mixed d 1) name) digest names

-- changed by attributes, each by its kind and its value
abbrev pub attributes_mixed : ℕ → List Attr → ℕ
attributes_mixed digest attributes = fold (λ d a. mixed (mixed d a.kind) a.value) digest attributes

-- changed by a term: by which it is, and its octets or its number without the sign
abbrev pub term_mixed : ℕ → Term → ℕ
term_mixed digest (General text) = fold mixed (mixed digest 2) text
term_mixed digest (Number number) = mixed (mixed digest 3) (unsigned_abs number)
term_mixed digest (Words text) = fold mixed (mixed digest 4) text

-- changed by a structure: by an operand's parts, or by which operator it is and both sides
abbrev pub tree_mixed : Tree → ℕ → ℕ
tree_mixed (leaf attributes term) digest = term_mixed (attributes_mixed digest attributes) term
tree_mixed (operand name) digest = fold mixed (mixed digest 5) name
tree_mixed (and l r) digest = tree_mixed r (tree_mixed l (mixed digest 6))
tree_mixed (or l r) digest = tree_mixed r (tree_mixed l (mixed digest 7))
tree_mixed (and_not l r) digest = tree_mixed r (tree_mixed l (mixed digest 8))

-- the number of a class and a login, or none
abbrev pub own_digest : Sharers → ℕ
own_digest (class, login) = login_mixed (mixed 0 class) login

-- the number of a key: that of who shares it, changed by the key's databases and its query
abbrev pub key_digest : ℕ → SetKey → ℕ
key_digest own key = tree_mixed key.query.root (names_mixed own key.dbs)
