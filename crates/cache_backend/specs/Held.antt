-- What a store has for a Present (this project's own)
use Rattle.std.specs.Prelude.{◌≡◌, ℕ, ◌≤◌, List, [], length, Option}
use Rattle.z_types.specs.declared.records.Item.{Item}
use Rattle.z_types.specs.declared.world.World as world
use Rattle.record_cache.specs.declared.keys.RecordKey.{RecordKey}
use Rattle.record_cache.specs.Entries.{Cache}
use Rattle.record_cache.specs.Runs.{AreWorldsRun, Runs}
use Rattle.cache_backend.specs.declared.presents.Held.{Held}
use Rattle.cache_backend.specs.declared.presents.Held.TheVariants as held

-- a run of the world's items, at least one and no more than are asked for
pub record HasItems {W : Type 0} (w : world.Ghosts W) (old new : Option Cache) (key : RecordKey)
    (count : ℕ) (items : List Item) : Type 0 where
  pub some : 1 ≤ length items
  pub few : length items ≤ count
  pub worlds : AreWorldsRun w key items
  pub run : Runs old new key count items

-- a run from a key on, or where that is empty the key
abbrev pub IsHeld : {W : Type 0} → world.Ghosts W → Option Cache → Option Cache → RecordKey → ℕ
    → Held → Type 0
IsHeld w old new key count (held.Items items) = HasItems w old new key count items
IsHeld w old new key count (held.Nothing own) = (own ≡ key) × Runs old new key count []
