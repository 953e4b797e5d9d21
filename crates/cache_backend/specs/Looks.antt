-- A cached look (this project's own): which Presents a store answers, and what it keeps of those
-- that the backend beneath answers
use Rattle.std.specs.Prelude.{◌≡◌, ℕ, ◌+◌, ◌^◌, ◌<◌, Bool, true, List, [], ◌∷◌, length, Option, None, Some}
use Rattle.z_types.specs.Counts.{one_more}
use Rattle.z_types.specs.declared.ask.Ask.{Ask}
use Rattle.z_types.specs.declared.ask.Ask.TheVariants.{Present}
use Rattle.z_types.specs.declared.key.SetKey.{SetKey}
use Rattle.z_types.specs.declared.records.Item.{Item}
use Rattle.gw_outside.specs.declared.backends.Began.{Began}
use Rattle.gw_outside.specs.declared.backends.Began.TheVariants as began
use Rattle.gw_outside.specs.declared.backends.Heard.{Heard}
use Rattle.gw_outside.specs.declared.backends.Heard.TheVariants as heard
use Rattle.record_cache.specs.declared.keys.RecordKey.{RecordKey}
use Rattle.record_cache.specs.Entries.{Cache}
use Rattle.z_types.specs.declared.world.World as world
use Rattle.record_cache.specs.declared.stores.Store as store
use Rattle.record_cache.specs.Runs.{AreWorldsRun, KeepsRun, Runs}
use Rattle.cache_backend.specs.declared.sessions.Awaited.{Awaited}
use Rattle.cache_backend.specs.declared.sessions.Awaited.TheVariants.{Beneath, Records, Run, Broken}
use Rattle.cache_backend.specs.declared.sessions.CachedParts.{CachedParts}
use Rattle.cache_backend.specs.Known.{known_under}

-- what a cached backend consists of: the one beneath, the entries of its store, and how many
-- Presents the store answered
pub record Cached (B : Type 0) : Type 0 where
  pub inner : B
  pub entries : Option Cache
  pub served : ℕ

abbrev pub cached_of : {W B T : Type 0} → store.Ghosts T W → B → T → ℕ → Cached B
cached_of s inner records served =
    record { inner = inner; entries = s.entries records; served = served }

-- records that the backend beneath is asked for are to be kept from a key on
abbrev pub awaited_from : RecordKey → Began → Awaited
awaited_from key began.Started = Records key
awaited_from key answer = Beneath

abbrev pub IsFetched : {S : Type 0} → RecordKey → CachedParts S → Began → Type 0
IsFetched key new answer = new.awaited ≡ awaited_from key answer

module _ {B S : Type 0} where
  -- where the store has items they answer the Present, and the backend beneath is not asked; else
  -- it alone is
  abbrev pub IsServedBy : RecordKey → List Item → Ask → CachedParts S → CachedParts S → Cached B
      → Cached B → Began → Type 0
  IsServedBy key [] ask old new before after answer =
      (after.served ≡ before.served) × IsFetched key new answer
  IsServedBy key (item ∷ items) ask old new before after answer =
      (answer ≡ began.Started) × (after.inner ≡ before.inner)
      × (after.served ≡ one_more true before.served)
      × (new ≡ record old { awaited = Run ask (item ∷ items) })

  -- a run of items answers a Present, where memory sufficed for a copy of it
  abbrev pub IsGiven : List Item → Ask → CachedParts S → CachedParts S → Cached B → Cached B → Began
      → Type 0
  IsGiven items ask old new before after began.Started =
      (after.inner ≡ before.inner) × (after.served ≡ one_more true before.served)
      × (new ≡ record old { awaited = Run ask items })
  IsGiven items ask old new before after began.Failed = ⊥
  IsGiven items ask old new before after began.Memory = after.served ≡ before.served

  -- the longest run that the store has from a key on
  pub record IsServed (key : RecordKey) (count : ℕ) (ask : Ask) (old new : CachedParts S)
      (before after : Cached B) (answer : Began) : Type 0 where
    pub items : List Item
    pub run : Runs before.entries after.entries key count items
    pub served : IsServedBy key items ask old new before after answer

  -- so a Present is served from the key of its first record on; where memory was wanting to begin,
  -- it is said only that nothing was served
  abbrev pub IsServedFrom : RecordKey → ℕ → Ask → CachedParts S → CachedParts S → Cached B
      → Cached B → Began → Type 0
  IsServedFrom key count ask old new before after began.Memory = after.served ≡ before.served
  IsServedFrom key count ask old new before after answer =
      IsServed key count ask old new before after answer

  -- of a set whose key is known, as that of each set that was made is
  abbrev pub IsServedIf : Option SetKey → (SetKey → RecordKey) → ℕ → Ask → CachedParts S
      → CachedParts S → Cached B → Cached B → Began → Type 0
  IsServedIf None key count ask old new before after answer = Unit {0}
  IsServedIf (Some set) key count ask old new before after answer =
      IsServedFrom (key set) count ask old new before after answer

  -- a Present is answered from the store where that has its first record; nothing else is, and
  -- changes the store
  abbrev pub IsCachedStart : Ask → CachedParts S → CachedParts S → Cached B → Cached B → Began
      → Type 0
  IsCachedStart (Present name first count syntax element) old new before after answer =
      IsServedIf (known_under old.searched.items name)
      (λ set. record {
        address = old.address;
        key = set;
        position = first;
        syntax = syntax;
        element = element;
      })
      count (Present name first count syntax element) old new before after answer
  IsCachedStart ask old new before after answer =
      (after.entries ≡ before.entries) × (after.served ≡ before.served)

-- items that the backend beneath gives are put into the store in order, or the first of them where
-- memory was wanting
abbrev pub KeepsItems : (most_octets : ℕ) → RecordKey → Heard → Option Cache → Option Cache → Type 0
KeepsItems most_octets key (heard.Items items) before after =
    (all : Bool) × KeepsRun most_octets before after key items all
KeepsItems most_octets key answer before after = after ≡ before

-- they are the world's, and their positions are numbers
abbrev pub MayKeep : {W : Type 0} → world.Ghosts W → RecordKey → Heard → Type 0
MayKeep w key (heard.Items items) =
    AreWorldsRun w key items × (key.position + length items < 2 ^ 32)
MayKeep w key answer = Unit {0}

-- what is awaited behind a look for records
abbrev pub awaited_then : RecordKey → Heard → Awaited
awaited_then key heard.NotYet = Records key
awaited_then key answer = Beneath

-- a session awaits this now, and no Present more was answered from the store
pub record GoesOn {B : Type 0} (awaited new : Awaited) (before after : Cached B) : Type 0 where
  pub awaits : new ≡ awaited
  pub served : after.served ≡ before.served

module _ {B : Type 0} where
  -- a look gives the items of a run, and asks nobody; what the backend beneath gives is kept where
  -- it is records that were asked for
  abbrev pub IsCachedLook : (most_octets : ℕ) → Awaited → Awaited → Cached B → Cached B → Heard
      → Type 0
  IsCachedLook most_octets Beneath new before after answer =
      GoesOn Beneath new before after × (after.entries ≡ before.entries)
  IsCachedLook most_octets (Records key) new before after answer =
      GoesOn (awaited_then key answer) new before after
      × KeepsItems most_octets key answer before.entries after.entries
  IsCachedLook most_octets (Run ask items) new before after answer =
      GoesOn Beneath new before after × (answer ≡ heard.Items items)
      × (after.inner ≡ before.inner) × (after.entries ≡ before.entries)
  IsCachedLook most_octets Broken new before after answer = ⊥
