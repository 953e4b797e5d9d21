-- What the table of keys is made of (this project's own): a row has a key, whether it is needed,
-- and the kind and range of its value.
use Rattle.std.specs.Prelude.{ℕ, List, [], ◌∷◌}
use Rattle.toml.specs.Data.{Data}
use Rattle.route_text.specs.declared.rule.TextRule.{TextRule}

-- a key has to be there, or else it has a default
pub data Need : Type 0 where
  required : Need
  default : Data → Need

mutual
  -- what a value has to be
  pub data Kind : Type 0 where
    -- a text that keeps a rule
    Text : TextRule → Kind
    -- a text that writes an address
    Address : Kind
    -- an integer, from the first to the second
    Number : ℕ → ℕ → Kind
    -- a boolean
    Flag : Kind
    -- an array whose number of items is from the first to the second, each of a kind
    Array : ℕ → ℕ → Kind → Kind
    -- a table with these keys
    Table : Keys → Kind

  pub data Keys : Type 0 where
    no_keys : Keys
    key : List ℕ → Need → Kind → Keys → Keys

-- the rows of a table, in order
abbrev pub keys : List (List ℕ × Need × Kind) → Keys
keys [] = no_keys
keys (row ∷ rows) = key row.0 row.1 row.2 (keys rows)

-- the names of the keys
abbrev pub key_names : Keys → List (List ℕ)
key_names no_keys = []
key_names (key name need kind rest) = name ∷ key_names rest
