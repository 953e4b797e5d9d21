-- What a store of records gives and takes (this project's own)
use Rattle.std.specs.Prelude.{◌≡◌, true, Option, None, Some, Ok, IsSome}
use Rattle.z_types.specs.Counts.{one_more}
use Rattle.z_types.specs.declared.records.Item.{Item}
use Rattle.z_types.specs.declared.world.World as world
use Rattle.record_cache.specs.declared.keys.RecordKey.{RecordKey}
use Rattle.record_cache.specs.declared.stores.Found.{Found}
use Rattle.record_cache.specs.declared.stores.Found.TheVariants as found
use Rattle.record_cache.specs.declared.stores.Kept.{Kept}
use Rattle.record_cache.specs.declared.stores.Kept.TheVariants as kept
use Rattle.record_cache.specs.Entries.{Cache, item_of, after_found, after_keep}

-- an item is the record that a target has under a key, where its address is told
abbrev pub IsWorldsRecord : {W : Type 0} → world.Ghosts W → RecordKey → Item → Type 0
IsWorldsRecord w key item =
    w.told key.address → w.record_ key.address key.key key.position key.syntax key.element ≡ Ok item

-- what is found is
abbrev pub FindsWorlds : {W : Type 0} → world.Ghosts W → RecordKey → Found → Type 0
FindsWorlds w key (found.Item item) = IsWorldsRecord w key item
FindsWorlds w key found.None = Unit {0}
FindsWorlds w key found.Memory = Unit {0}

-- the item of a key is found, and comes to the front; there is none where the key has none; and
-- where no memory is had for a copy of what it has, nothing changes but that this is counted
abbrev pub FindsIn : Cache → Cache → RecordKey → Found → Type 0
FindsIn old new key (found.Item item) =
    (item_of key old ≡ Some item) × (new ≡ after_found key item old)
FindsIn old new key found.None = (item_of key old ≡ None) × (new ≡ old)
FindsIn old new key found.Memory =
    IsSome (item_of key old) × (new ≡ record old { wants = one_more true old.wants })

-- so it is in a store that tells its entries, and tells them on
abbrev pub Finds : Option Cache → Option Cache → RecordKey → Found → Type 0
Finds None new key answer = new ≡ None
Finds (Some old) None key answer = ⊥
Finds (Some old) (Some new) key answer = FindsIn old new key answer

-- an item is kept under its key, or nothing changes
abbrev pub KeepsIn : Cache → Cache → RecordKey → Item → Kept → Type 0
KeepsIn old new key item kept.Kept = new ≡ after_keep key item old
KeepsIn old new key item kept.Memory = new ≡ old

abbrev pub Keeps : Option Cache → Option Cache → RecordKey → Item → Kept → Type 0
Keeps None new key item answer = new ≡ None
Keeps (Some old) None key item answer = ⊥
Keeps (Some old) (Some new) key item answer = KeepsIn old new key item answer
