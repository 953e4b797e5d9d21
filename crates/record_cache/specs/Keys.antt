-- For contracts alone: what a hasher is fed of the key of a record (this project's own)
use Rattle.std.specs.Prelude.{ℕ, ◌%◌, nat_lt, List, [], ◌∷◌, ◌++◌, length, drop, Option, None, Some, if◌then◌else◌}
use Rattle.std.specs.Hash as fed
use Rattle.z_types.specs.declared.address.Address.{Address}
use Rattle.z_types.specs.declared.address.Address.TheVariants.{Test, Tcp, Login}
use Rattle.z_types.specs.declared.address.Site.{Site}
use Rattle.z_types.specs.declared.address.Site.TheVariants as site
use Rattle.z_types.specs.declared.key.SetKey.{SetKey}
use Rattle.z_types.specs.declared.query.Attr.{Attr}
use Rattle.z_types.specs.declared.query.Term.{Term}
use Rattle.z_types.specs.declared.query.Term.TheVariants.{General, Number, Words}
use Rattle.z_types.specs.Tree.{Tree, leaf, operand, and, or, and_not}
use Rattle.record_cache.specs.declared.keys.RecordKey.{RecordKey}

-- a word of zeros
abbrev pub zeros : List ℕ
zeros = 0 ∷ 0 ∷ 0 ∷ 0 ∷ 0 ∷ 0 ∷ 0 ∷ 0 ∷ []

-- what fills up the last word of so many octets, where it is not whole
abbrev pub filling : ℕ → List (List ℕ)
filling octets = if nat_lt 0 (octets % 8) then (drop (octets % 8) zeros ∷ []) else []

-- a text: its length, its octets, and what fills up the last word
abbrev pub text_input : List ℕ → List (List ℕ)
text_input text = fed.usize (length text) ++ (text ∷ filling (length text))

-- what may be there: whether it is
abbrev pub element_input : Option (List ℕ) → List (List ℕ)
element_input None = fed.u64 0
element_input (Some text) = fed.u64 1 ++ text_input text

-- an object identifier: how many numbers it has, and each
abbrev pub arcs_input : Option (List ℕ) → List (List ℕ)
arcs_input None = fed.u64 0
arcs_input (Some arcs) = fed.u64 1 ++ fed.slice fed.u64 arcs

-- the place of a target: which it is, and its number, or the host and the port
abbrev pub site_input : Site → List (List ℕ)
site_input (site.Test number) = fed.u64 0 ++ fed.u64 number
site_input (site.Tcp host port) = fed.u64 1 ++ (text_input host ++ fed.u64 port)

-- an address, with its login
abbrev pub address_input : Address → List (List ℕ)
address_input (Test number) = fed.u64 0 ++ fed.u64 number
address_input (Tcp host port) = fed.u64 1 ++ (text_input host ++ fed.u64 port)
address_input (Login place login) = fed.u64 2 ++ (site_input place ++ text_input login)

-- an attribute: its set, its kind and its value
abbrev pub attribute_input : Attr → List (List ℕ)
attribute_input a = arcs_input a.set ++ (fed.u64 a.kind ++ fed.u64 a.value)

-- a term: which it is, and its octets or its number
abbrev pub term_input : Term → List (List ℕ)
term_input (General text) = fed.u64 0 ++ text_input text
term_input (Number number) = fed.u64 1 ++ fed.i64 number
term_input (Words text) = fed.u64 2 ++ text_input text

-- a structure: which it is, and its parts
abbrev pub tree_input : Tree → List (List ℕ)
tree_input (leaf attributes term) =
    fed.u64 0 ++ (fed.slice attribute_input attributes ++ term_input term)
tree_input (operand name) = fed.u64 1 ++ text_input name
tree_input (and l r) = fed.u64 2 ++ (tree_input l ++ tree_input r)
tree_input (or l r) = fed.u64 3 ++ (tree_input l ++ tree_input r)
tree_input (and_not l r) = fed.u64 4 ++ (tree_input l ++ tree_input r)

-- the databases and the query of a result set
abbrev pub set_input : SetKey → List (List ℕ)
set_input key =
    fed.slice text_input key.dbs
    ++ (fed.slice fed.u64 key.query.attr_set ++ tree_input key.query.root)

-- all parts of a key but its position
abbrev pub parts_input : RecordKey → List (List ℕ)
parts_input key =
    address_input key.address
    ++ (set_input key.key ++ (arcs_input key.syntax ++ element_input key.element))
