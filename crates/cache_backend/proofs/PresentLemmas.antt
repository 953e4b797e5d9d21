-- What a Present asks for of a session that rests (this project's own)
use Rattle.std.proofs.Common.{◌≡◌, ◌∙◌, ℕ, ◌+◌, ◌^◌, ◌<◌, ◌≤◌, List, length, Option, Some, IfSome, IsSome, sym, ap, subst}
use Rattle.z_types.specs.Pending.{resting}
use Rattle.z_types.specs.declared.ask.Ask.{Ask}
use Rattle.z_types.specs.declared.ask.Ask.TheVariants.{Present}
use Rattle.z_types.specs.declared.key.SetKey.{SetKey}
use Rattle.z_types.specs.declared.records.Item.{Item}
use Rattle.z_types.specs.declared.sitting.Sitting as sitting
use Rattle.z_types.specs.declared.world.World as world
use Rattle.gw_outside.specs.Asks.{MayAsk, MayPresent}
use Rattle.record_cache.specs.declared.keys.RecordKey.{RecordKey}
use Rattle.record_cache.specs.Entries.{Cache}
use Rattle.cache_backend.specs.declared.sessions.Awaited.{Awaited}
use Rattle.cache_backend.specs.declared.sessions.Awaited.TheVariants.{Beneath, Run}
use Rattle.cache_backend.specs.declared.sessions.CachedParts.{CachedParts}
use Rattle.cache_backend.specs.Held.{HasItems}
use Rattle.cache_backend.specs.Known.{known_under}
use Rattle.cache_backend.specs.Sessions.{AsksFrom, HasRun, IsCachedSession, KnowsAll, StandsBy, count_of}
use Rattle.cache_backend.proofs.CachedLemmas.{asks_from, is_known, known_made, made_key, present_may, within}
use Rattle.cache_backend.proofs.StandLemmas.{knows_all}

module _ {W S : Type 0} (w : world.Ghosts W) (t : sitting.Ghosts S W) (parts : CachedParts S) (ask : Ask) (name : List ℕ) (first count : ℕ) (syntax element : Option (List ℕ))
    (asks : ask ≡ Present name first count syntax element) (may : MayAsk (t.made parts.inner) ask)
    (beneath : parts.awaited ≡ Beneath) (rests : t.pending parts.inner ≡ resting) (kept : IsCachedSession w t parts) where
  -- the set that it is of
  pub its_set : MayPresent (t.made parts.inner) name first count element
  its_set = present_may (t.made parts.inner) ask name first count syntax element asks may

  knows : KnowsAll (t.made parts.inner) (known_under parts.searched.items)
  knows = knows_all w t parts.awaited parts.inner (known_under parts.searched.items) kept.stands beneath rests

  -- whose key is known
  pub its_key : known_under parts.searched.items name ≡ Some its_set.key
  its_key = known_made (t.made parts.inner) (known_under parts.searched.items) name its_set.key its_set.hits knows its_set.is_made

  pub has_key : IsSome (known_under parts.searched.items name)
  has_key = is_known (known_under parts.searched.items name) its_set.key its_key

  -- the key of its first record
  abbrev pub first_key : SetKey → RecordKey
  first_key set = record { address = parts.address; key = set; position = first; syntax = syntax; element = element }

  module _ (key : RecordKey) (its : IfSome (known_under parts.searched.items name) (λ set. key ≡ record { address = parts.address; key = set; position = first; syntax = syntax; element = element })) where
    pub key_is : key ≡ first_key its_set.key
    key_is = made_key (known_under parts.searched.items name) its_set.key key first_key its_key its

    -- from which it asks
    pub asks_key : AsksFrom t key ask parts.inner
    asks_key =
        asks_from w t parts ask name first count its_set.hits syntax element its_set.key key asks its_set.is_made kept.address (within (t.made parts.inner) name first count element its_set) key_is

module _ {W S : Type 0} (w : world.Ghosts W) (t : sitting.Ghosts S W) (parts : CachedParts S) (key : RecordKey) (count : ℕ) (ask : Ask)
    (asks : AsksFrom t key ask parts.inner) (counts : count_of ask ≡ count) where
  -- so many it asks for
  count_is : asks.count ≡ count
  count_is = sym (ap count_of asks.asks) ∙ counts

  pub positions : key.position + count < 2 ^ 32
  positions = subst (λ (n : ℕ). key.position + n < 2 ^ 32) count_is asks.within

  -- where the store has items for it they are a run
  pub has_run : (old new : Option Cache) (items : List Item) → t.pending parts.inner ≡ resting → HasItems w old new key count items
      → HasRun w t ask items parts.inner
  has_run old new items rests has = record {
    name = asks.name;
    count = asks.count;
    hits = asks.hits;
    key = key;
    asks = asks.asks;
    rests = rests;
    made = asks.made;
    address = asks.address;
    some = has.some;
    few = subst (λ (n : ℕ). length items ≤ n) (sym count_is) has.few;
    worlds = has.worlds;
  }

module _ {W S : Type 0} (w : world.Ghosts W) (t : sitting.Ghosts S W) (parts : CachedParts S) (ask : Ask) (items : List Item) where
  -- which the session has
  pub run_stands : (a : Awaited) → HasRun w t ask items parts.inner → parts.awaited ≡ Beneath → IsCachedSession w t parts → a ≡ Run ask items
      → StandsBy w t a parts.inner (known_under parts.searched.items)
  run_stands a run beneath kept is = subst (λ x. StandsBy w t x parts.inner (known_under parts.searched.items)) (sym is) (
    knows_all w t parts.awaited parts.inner (known_under parts.searched.items) kept.stands beneath run.rests,
    run,
  )
