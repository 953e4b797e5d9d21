-- What a store answers and keeps, by what is asked (this project's own)
use Rattle.std.proofs.Common.{◌≡◌, ◌∙◌, ℕ, ◌+◌, ◌^◌, ◌<◌, ◌≤◌, List, [], ◌∷◌, length, Option, None, Some, IfSome, IsSome, refl, sym, ap, subst, arith}
use Rattle.z_types.specs.declared.ask.Ask.{Ask}
use Rattle.z_types.specs.declared.ask.Ask.TheVariants.{Search, Present, Scan}
use Rattle.z_types.specs.declared.key.SetKey.{SetKey}
use Rattle.z_types.specs.declared.records.Item.{Item}
use Rattle.z_types.specs.declared.sitting.Sitting as sitting
use Rattle.z_types.specs.declared.world.World as world
use Rattle.gw_outside.specs.Asks.{MayAsk, MayPresent}
use Rattle.gw_outside.specs.Sessions.{Made}
use Rattle.gw_outside.specs.declared.backends.Began.{Began}
use Rattle.gw_outside.specs.declared.backends.Began.TheVariants as began
use Rattle.record_cache.specs.declared.keys.RecordKey.{RecordKey}
use Rattle.record_cache.specs.Runs.{Runs}
use Rattle.cache_backend.specs.declared.sessions.CachedParts.{CachedParts}
use Rattle.cache_backend.specs.Known.{known_under}
use Rattle.cache_backend.specs.Looks.{Cached, IsCachedStart, IsFetched, IsGiven, IsServed, IsServedBy, IsServedFrom, IsServedIf}
use Rattle.cache_backend.specs.Sessions.{AsksFrom, IsScan, KnowsAll}

module _ {B S : Type 0} (old new : CachedParts S) (before after : Cached B) where
  -- a search leaves the store
  pub search_cached : (ask : Ask) (name : List ℕ) (key : SetKey) (answer : Began) → ask ≡ Search name key
      → after.entries ≡ before.entries → after.served ≡ before.served → IsCachedStart ask old new before after answer
  search_cached ask name key answer e x y = subst (λ a. IsCachedStart a old new before after answer) (sym e) (x, y)

  -- so does a scan
  pub scan_cached : (ask : Ask) (answer : Began) → IsScan ask
      → after.entries ≡ before.entries → after.served ≡ before.served → IsCachedStart ask old new before after answer
  scan_cached (Scan dbs scan) answer is x y = (x, y)
  scan_cached (Search name key) answer is x y = absurd is
  scan_cached (Present name first count syntax element) answer is x y = absurd is

  -- where memory was wanting the store has answered nothing
  none_more : (key : RecordKey) (items : List Item) (ask : Ask) → IsServedBy key items ask old new before after began.Memory
      → after.served ≡ before.served
  none_more key [] ask s = s.0
  none_more key (item ∷ items) ask s = let started = s.0 in cc

  -- a Present is served from a key
  served_from : (key : RecordKey) (count : ℕ) (ask : Ask) (answer : Began) → IsServed key count ask old new before after answer
      → IsServedFrom key count ask old new before after answer
  served_from key count ask began.Started s = s
  served_from key count ask began.Failed s = s
  served_from key count ask began.Memory s = none_more key s.items ask s.served

  -- which is that of the first record that is asked for
  pub present_cached : (ask : Ask) (name : List ℕ) (first count : ℕ) (syntax element : Option (List ℕ)) (set : SetKey) (key : RecordKey) (answer : Began)
      → ask ≡ Present name first count syntax element → known_under old.searched.items name ≡ Some set
      → key ≡ record { address = old.address; key = set; position = first; syntax = syntax; element = element }
      → IsServedFrom key count ask old new before after answer → IsCachedStart ask old new before after answer
  present_cached ask name first count syntax element set key answer asks known is s =
      subst (λ a. IsCachedStart a old new before after answer) (sym asks)
      (subst (λ o. IsServedIf o (λ k. record { address = old.address; key = k; position = first; syntax = syntax; element = element }) count (Present name first count syntax element) old new before after answer) (sym known)
      (subst (λ a. IsServedFrom (record { address = old.address; key = set; position = first; syntax = syntax; element = element }) count a old new before after answer) asks
      (subst (λ k. IsServedFrom k count ask old new before after answer) is s)))

  lacks_if : (o : Option SetKey) (key : SetKey → RecordKey) (count : ℕ) (ask : Ask) → after.served ≡ before.served
      → IsServedIf o key count ask old new before after began.Memory
  lacks_if None key count ask same = tt
  lacks_if (Some set) key count ask same = same

  -- where no memory could be had nothing was served
  pub present_lacks : (ask : Ask) (name : List ℕ) (first count : ℕ) (syntax element : Option (List ℕ))
      → ask ≡ Present name first count syntax element → after.served ≡ before.served → IsCachedStart ask old new before after began.Memory
  present_lacks ask name first count syntax element asks same =
      subst (λ a. IsCachedStart a old new before after began.Memory) (sym asks)
      (lacks_if (known_under old.searched.items name) (λ k. record { address = old.address; key = k; position = first; syntax = syntax; element = element }) count (Present name first count syntax element) same)

  -- a Present whose first record the store does not have
  pub none_served : (key own : RecordKey) (count : ℕ) (ask : Ask) (answer : Began) → own ≡ key
      → Runs before.entries after.entries key count [] → after.served ≡ before.served → IsFetched own new answer
      → IsServedFrom key count ask old new before after answer
  none_served key own count ask answer is run same fetched = served_from key count ask answer (record {
    items = [];
    run = run;
    served = (same, subst (λ k. IsFetched k new answer) is fetched);
  })

  some_by : (key : RecordKey) (ask : Ask) (items : List Item) → 1 ≤ length items → IsGiven items ask old new before after began.Started
      → IsServedBy key items ask old new before after began.Started
  some_by key ask [] some given = absurd (omega arith)
  some_by key ask (item ∷ items) some given = (refl, given.0, given.1, given.2)

  -- one that a run answers
  pub some_served : (key : RecordKey) (count : ℕ) (ask : Ask) (items : List Item) (answer : Began) → 1 ≤ length items
      → Runs before.entries after.entries key count items → IsGiven items ask old new before after answer
      → IsServedFrom key count ask old new before after answer
  some_served key count ask items began.Started some run given =
      record { items = items; run = run; served = some_by key ask items some given }
  some_served key count ask items began.Failed some run given = absurd given
  some_served key count ask items began.Memory some run given = given

-- ---- what a Present asks for

-- the set of a Present was made
pub present_may : (made : Made) (ask : Ask) (name : List ℕ) (first count : ℕ) (syntax element : Option (List ℕ))
    → ask ≡ Present name first count syntax element → MayAsk made ask → MayPresent made name first count element
present_may made ask name first count syntax element asks may = subst (MayAsk made) asks may

-- its key is known
pub known_made : (made : Made) (known : List ℕ → Option SetKey) (name : List ℕ) (key : SetKey) (hits : ℕ)
    → KnowsAll made known → made name ≡ Some (key, hits) → known name ≡ Some key
known_made made known name key hits all is = subst (λ o. IfSome o (λ set. known name ≡ Some set.0)) is (all name)

pub is_known : (o : Option SetKey) (key : SetKey) → o ≡ Some key → IsSome o
is_known o key e = subst IsSome (sym e) refl

-- the positions that are asked for are numbers
pub within : (made : Made) (name : List ℕ) (first count : ℕ) (element : Option (List ℕ)) → MayPresent made name first count element
    → first + count < 2 ^ 32
within made name first count element may = let f = may.first_number in let c = may.count_number in omega (arith, f, c)

if_known : (o : Option SetKey) (set : SetKey) (key : RecordKey) (make : SetKey → RecordKey) → o ≡ Some set → IfSome o (λ k. key ≡ make k) → key ≡ make set
if_known o set key make e h = subst (λ x. IfSome x (λ k. key ≡ make k)) e h

pub made_key : (o : Option SetKey) (set : SetKey) (key : RecordKey) (make : SetKey → RecordKey) → o ≡ Some set → IfSome o (λ k. key ≡ make k) → key ≡ make set
made_key o set key make e h = if_known o set key make e h

module _ {W S : Type 0} (w : world.Ghosts W) (t : sitting.Ghosts S W) where
  -- from the key of its first record
  pub asks_from : (parts : CachedParts S) (ask : Ask) (name : List ℕ) (first count hits : ℕ) (syntax element : Option (List ℕ)) (set : SetKey) (key : RecordKey)
      → ask ≡ Present name first count syntax element → t.made parts.inner name ≡ Some (set, hits) → parts.address ≡ t.address parts.inner
      → first + count < 2 ^ 32
      → key ≡ record { address = parts.address; key = set; position = first; syntax = syntax; element = element }
      → AsksFrom t key ask parts.inner
  asks_from parts ask name first count hits syntax element set key asks made at small is = record {
    name = name;
    count = count;
    hits = hits;
    asks = asks ∙ sym (ap (λ (k : RecordKey). Present name k.position count k.syntax k.element) is);
    made = made ∙ sym (ap (λ (k : RecordKey). Some (k.key, hits)) is);
    address = ap (λ (k : RecordKey). k.address) is ∙ at;
    within = subst (λ n. n + count < 2 ^ 32) (sym (ap (λ (k : RecordKey). k.position) is)) small;
  }
