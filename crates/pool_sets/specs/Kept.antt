-- What a session with its sets keeps (this project's own)
use Rattle.std.specs.Prelude.{◌≡◌, ◌<◌, ◌≤◌, ◌^◌, ℕ, List, Some, Ok, All, decimal}
use Rattle.std.specs.List.{IsDistinct}
use Rattle.z_types.specs.Bounds.{most_number}
use Rattle.z_types.specs.declared.world.World as world
use Rattle.z_types.specs.declared.sitting.Sitting as sitting
use Rattle.pool_sets.specs.declared.pooled.Parts.{Parts}
use Rattle.pool_sets.specs.Table.{Entry, same_key, keys_in}

-- the name of a slot at the target is its decimal text
abbrev pub slot_name : ℕ → List ℕ
slot_name slot = decimal slot

module _ {W S : Type 0} (w : world.Ghosts W) (t : sitting.Ghosts S W) where
  -- a set stands in what the session made, its hits are a count, and they are the world's where the
  -- address is told
  pub record IsKept (session : S) (e : Entry) : Type 0 where
    pub small : e.slot < 2 ^ 32
    pub count : e.hits ≤ most_number
    pub stands : t.made session (slot_name e.slot) ≡ Some (e.key, e.hits)
    pub right : w.told (t.address session) → w.search (t.address session) e.key ≡ Ok e.hits

  -- the address is the session's, each set is kept, and no two have one key
  pub record TableKept (p : Parts S) : Type 0 where
    pub same_address : t.address p.session ≡ p.address
    pub each : All (IsKept p.session) p.table.entries
    pub once : IsDistinct same_key (keys_in p.table.entries)
