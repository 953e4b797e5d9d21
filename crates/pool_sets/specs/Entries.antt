-- For contracts alone: the sets of a table one by one (this project's own)
use Rattle.std.specs.Prelude.{◌≢◌, ℕ, ◌<◌, nat_eq, ◌==◌, List, map, find, All, Option, option_map, length}
use Rattle.std.specs.Borrow.{Bor}
use Rattle.std.specs.List.{AllByRecursion, IsDistinct}
use Rattle.z_types.specs.declared.key.SetKey.{SetKey}
use Rattle.pool_sets.specs.Table.{Entry, Table, to_front}

-- what is lent of a set: its key, and the moment of its last use
abbrev pub key_and_use : Bor SetKey × ℕ → SetKey × ℕ
key_and_use p = (p.0.now, p.1)

-- what a search for a key finds: its slot and hits
abbrev pub slot_and_hits : Option Entry → Option (ℕ × ℕ)
slot_and_hits e = option_map (λ e. (e.slot, e.hits)) e

-- the set of a slot
abbrev pub set_at : ℕ → Table → Option Entry
set_at slot t = find (λ e. slot == e.slot) t.entries

-- the table after a use of the set of a slot, at the greatest moment that was given
abbrev pub after_use : ℕ → Table → Table
after_use slot t = record {
  entries = to_front t.latest (set_at slot t) t.entries;
  most = t.most;
  latest = t.latest;
}

-- the slots of some sets
abbrev pub slots_of : List Entry → List ℕ
slots_of es = map (λ e. e.slot) es

-- there may be at least one set, no two have one slot, and each slot is below the number that there
-- may be
pub record HasSlots (t : Table) : Type 0 where
  pub some : 0 < t.most
  pub below : AllByRecursion (λ slot. slot < t.most) (slots_of t.entries)
  pub distinct : IsDistinct nat_eq (slots_of t.entries)

-- the slot may take a set
pub record IsRoom (t : Table) (slot : ℕ) : Type 0 where
  pub within : slot < t.most
  pub free : All (λ e. e.slot ≢ slot) t.entries
  pub fewer : length t.entries < t.most
