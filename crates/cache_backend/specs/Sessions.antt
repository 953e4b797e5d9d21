-- Sessions whose Presents may be answered from a store (this project's own)
use Rattle.std.specs.Prelude.{◌≡◌, ℕ, ◌+◌, ◌^◌, ◌<◌, ◌≤◌, false, true, List, ◌∷◌, length, Option, Some, IfSome}
use Rattle.z_types.specs.Links.{LinkView}
use Rattle.z_types.specs.Pending.{Pending, resting, asked, broken}
use Rattle.z_types.specs.Same.{is_same}
use Rattle.z_types.specs.declared.ask.Ask.{Ask}
use Rattle.z_types.specs.declared.ask.Ask.TheVariants.{Search, Present, Scan}
use Rattle.z_types.specs.declared.key.SetKey.{SetKey}
use Rattle.z_types.specs.declared.records.Item.{Item}
use Rattle.z_types.specs.declared.sitting.Sitting as sitting
use Rattle.z_types.specs.declared.world.World as world
use Rattle.gw_outside.specs.Sessions.{Made}
use Rattle.record_cache.specs.declared.keys.RecordKey.{RecordKey}
use Rattle.cache_backend.specs.declared.sessions.Awaited.{Awaited}
use Rattle.cache_backend.specs.declared.sessions.Awaited.TheVariants.{Beneath, Records, Run, Broken}
use Rattle.cache_backend.specs.declared.sessions.CachedParts.{CachedParts}
use Rattle.cache_backend.specs.Known.{known_under}
use Rattle.record_cache.specs.Runs.{AreWorldsRun}

-- ---- how a session stands

module _ {W S : Type 0} (t : sitting.Ghosts S W) where
  -- what it waits for
  abbrev pub pending_by : Awaited → S → Pending
  pending_by Beneath inner = t.pending inner
  pending_by (Records key) inner = t.pending inner
  pending_by (Run ask items) inner = asked ask
  pending_by Broken inner = broken

  abbrev pub pending_of : CachedParts S → Pending
  pending_of parts = pending_by parts.awaited parts.inner

  -- its link; the answer that a run is comes at the first look, and says of no set that it is gone
  abbrev pub link_by : Awaited → S → LinkView
  link_by (Run ask items) inner =
      record (t.link inner) { delays = 0 ∷ (t.link inner).delays; gone = false }
  link_by awaited inner = t.link inner

  abbrev pub link_of : CachedParts S → LinkView
  link_of parts = link_by parts.awaited parts.inner

-- sessions that keep records, over those beneath, as proofs see them
abbrev pub keeping : {W S : Type 0} → sitting.Ghosts S W → sitting.Ghosts (CachedParts S) W
keeping t = record {
  address = λ session. t.address session.inner;
  made = λ session. t.made session.inner;
  pending = λ session. pending_of t session;
  link = λ session. link_of t session;
  keeps = true;
}

-- ---- what it keeps to

-- under each name stands the key of the set that was made under it
abbrev pub KnowsAll : Made → (List ℕ → Option SetKey) → Type 0
KnowsAll made known = (name : List ℕ) → IfSome (made name) (λ set. known name ≡ Some set.0)

-- under the name of a search that is awaited stands its own key; of a session that is broken
-- nothing is kept
abbrev pub KnowsBy : Pending → Made → (List ℕ → Option SetKey) → Type 0
KnowsBy (asked (Search own key)) made known =
    (known own ≡ Some key)
    × ((name : List ℕ) → is_same own name ≡ false
    → IfSome (made name) (λ set. known name ≡ Some set.0))
KnowsBy broken made known = Unit {0}
KnowsBy waits made known = KnowsAll made known

abbrev pub IsScan : Ask → Type 0
IsScan (Scan dbs ask) = Unit {0}
IsScan ask = ⊥

-- how many records it is for
abbrev pub count_of : Ask → ℕ
count_of (Present name first count syntax element) = count
count_of ask = 0

module _ {W S : Type 0} (t : sitting.Ghosts S W) where
  -- the session beneath waits for records, from this key on, of a set that it made
  pub record AwaitsRecords (key : RecordKey) (inner : S) : Type 0 where
    pub name : List ℕ
    pub count : ℕ
    pub hits : ℕ
    pub waits : t.pending inner ≡ asked (Present name key.position count key.syntax key.element)
    pub made : t.made inner name ≡ Some (key.key, hits)
    pub address : key.address ≡ t.address inner
    pub within : key.position + count < 2 ^ 32

  -- such an ask, before it is begun
  pub record AsksFrom (key : RecordKey) (ask : Ask) (inner : S) : Type 0 where
    pub name : List ℕ
    pub count : ℕ
    pub hits : ℕ
    pub asks : ask ≡ Present name key.position count key.syntax key.element
    pub made : t.made inner name ≡ Some (key.key, hits)
    pub address : key.address ≡ t.address inner
    pub within : key.position + count < 2 ^ 32

module _ {W S : Type 0} (w : world.Ghosts W) (t : sitting.Ghosts S W) where
  -- a session that rests has these items for a Present of a set that it made, at least one and no
  -- more than are asked for
  pub record HasRun (ask : Ask) (items : List Item) (inner : S) : Type 0 where
    pub name : List ℕ
    pub count : ℕ
    pub hits : ℕ
    pub key : RecordKey
    pub asks : ask ≡ Present name key.position count key.syntax key.element
    pub rests : t.pending inner ≡ resting
    pub made : t.made inner name ≡ Some (key.key, hits)
    pub address : key.address ≡ t.address inner
    pub some : 1 ≤ length items
    pub few : length items ≤ count
    pub worlds : AreWorldsRun w key items

  -- by what it waits for
  abbrev pub StandsBy : Awaited → S → (List ℕ → Option SetKey) → Type 0
  StandsBy Beneath inner known = KnowsBy (t.pending inner) (t.made inner) known
  StandsBy (Records key) inner known = KnowsAll (t.made inner) known × AwaitsRecords t key inner
  StandsBy (Run ask items) inner known = KnowsAll (t.made inner) known × HasRun ask items inner
  StandsBy Broken inner known = Unit {0}

  -- its address is that of the session beneath, and it knows the keys of the sets that were made
  pub record IsCachedSession (parts : CachedParts S) : Type 0 where
    pub address : parts.address ≡ t.address parts.inner
    pub stands : StandsBy parts.awaited parts.inner (known_under parts.searched.items)
