-- For contracts alone: the sets of a table as its cache has them (this project's own)
use Rattle.std.specs.Prelude.{ℕ, ◌^◌, ◌<◌, ◌≤◌, ◌-◌, nat_le, nat_eq, Bool, false, Option, None, Some, List, [], ◌∷◌, map, take, length}
use Rattle.std.specs.List.{AllByRecursion}
use Rattle.std.specs.Map.{keys_of, remove_entry}
use Rattle.lru.specs.LruCache.{LruCache, lru_cache}
use Rattle.pool_sets.specs.declared.table.HeldSet.{HeldSet}
use Rattle.pool_sets.specs.Table.{Entry, Table}

-- a set of the cache
abbrev pub entry_of : ℕ × HeldSet → Entry
entry_of p = record { slot = p.0; key = p.1.key; hits = p.1.hits; used = p.1.used }

abbrev pub table_of : LruCache ℕ HeldSet → ℕ → Table
table_of c latest = record { entries = map entry_of c.entries; most = c.cap; latest = latest }

-- the cache without the least recently used set
abbrev pub without_last : LruCache ℕ HeldSet → LruCache ℕ HeldSet
without_last c = lru_cache (take (length c.entries - 1) c.entries) c.cap

-- without the set of a slot
abbrev pub without_slot : ℕ → LruCache ℕ HeldSet → LruCache ℕ HeldSet
without_slot slot c = lru_cache (remove_entry (nat_eq slot) c.entries) c.cap

-- with a set in front, and no more of them than it may have
abbrev pub with_first : ℕ → HeldSet → LruCache ℕ HeldSet → LruCache ℕ HeldSet
with_first slot set c = lru_cache ((slot, set) ∷ take (c.cap - 1) c.entries) c.cap

-- the slot of the set that is there
abbrev pub slot_or_0 : Option (ℕ × HeldSet) → ℕ
slot_or_0 None = 0
slot_or_0 (Some p) = p.0

-- the moments of the last uses fall, from m at most
abbrev pub Falls : ℕ → List (ℕ × HeldSet) → Type 0
Falls m [] = Unit {0}
Falls m (p ∷ ps) = (p.1.used ≤ m) × Falls p.1.used ps

-- the set that is there was unused for ttl seconds or more
abbrev pub has_stale : ℕ → ℕ → Option (ℕ × HeldSet) → Bool
has_stale moment ttl None = false
has_stale moment ttl (Some p) = nat_le ttl (moment - p.1.used)

-- there may be at least one set, each slot is below their number, and they stand in order of last
-- use
pub record IsTable (c : LruCache ℕ HeldSet) (latest : ℕ) : Type 0 where
  pub some : 0 < c.cap
  pub few : c.cap < 2 ^ 32
  pub slots : AllByRecursion (λ slot. slot < c.cap) (keys_of c.entries)
  pub order : Falls latest c.entries
