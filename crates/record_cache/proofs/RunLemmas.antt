-- Runs in a store, item by item (this project's own)
use Rattle.std.proofs.Common.{◌≡◌, ◌∙◌, ◌⊎◌, ℕ, zero, suc, ◌+◌, ◌-◌, ◌^◌, ◌≤◌, min, Bool, true, false, List, [], ◌∷◌, ◌++◌, length, take, Option, None, Some, Ok, Err, IfOk, Result, inl, inr, refl, sym, ap, subst, arith}
use Rattle.z_types.specs.Counts.{one_more}
use Rattle.z_types.specs.declared.diagnostic.Diag.{Diag}
use Rattle.z_types.specs.declared.records.Item.{Item}
use Rattle.z_types.specs.declared.world.World as world
use Rattle.gw_outside.specs.Peers.{AreRecords}
use Rattle.record_cache.specs.declared.keys.RecordKey.{RecordKey}
use Rattle.record_cache.specs.declared.stores.Found.{Found}
use Rattle.record_cache.specs.declared.stores.Run.{Run}
use Rattle.z_types.specs.declared.memory.Memory.{Memory}
use Rattle.record_cache.specs.declared.stores.Found.TheVariants as found
use Rattle.record_cache.specs.Entries.{Cache, item_of, after_found, after_keep}
use Rattle.record_cache.specs.Stores.{IsWorldsRecord, FindsWorlds, Finds, FindsIn}
use Rattle.record_cache.specs.Runs.{AreHeld, AreWorldsRun, HasFound, IsRun, KeepsIf, KeepsOne, KeepsRun, Runs, after_keeps, after_run, found_item, key_on, may_keep}
use Rattle.record_cache.specs.Views.{AreWorlds}
use Rattle.record_cache.proofs.EntryLemmas.{found_worlds, front_worlds, items_stay}

-- ---- positions

pub at_place : (key : RecordKey) (a b : ℕ) → a ≡ b → key_on a key ≡ key_on b key
at_place key a b e = ap (λ n. key_on n key) e

on_twice : (key : RecordKey) (a b c : ℕ) → a + b ≡ c → key_on b (key_on a key) ≡ key_on c key
on_twice key a b c e =
    let sum : (key.position + a) + b ≡ key.position + c = omega (arith, e) in
    ap (λ p. record key { position = p }) sum

pub on_none : (key : RecordKey) → key_on 0 key ≡ key
on_none key =
    let none : key.position + 0 ≡ key.position = omega arith in
    ap (λ p. record key { position = p }) none

-- one more
pub on_more : (key now_ : RecordKey) (n : ℕ) → now_ ≡ key_on n key → record now_ { position = now_.position + 1 } ≡ key_on (n + 1) key
on_more key now_ n e = ap (λ k. key_on 1 k) e ∙ on_twice key n 1 (n + 1) refl

-- ---- lengths

pub length_more : (items : List Item) (item : Item) → length (items ++ item ∷ []) ≡ length items + 1
length_more [] item = refl
length_more (first ∷ items) item = let more = length_more items item in omega (arith, more)

pub length_first : (n : ℕ) (items : List Item) → n ≤ length items → length (take n items) ≡ n
length_first zero items h = refl
length_first (suc n) [] h = omega (arith, h)
length_first (suc n) (item ∷ items) h = let first = length_first n items (omega (arith, h)) in omega (arith, first)

-- ---- what is found

held_same : (c d : Cache) → ((other : RecordKey) → item_of other d ≡ item_of other c) → (key : RecordKey) (items : List Item)
    → AreHeld c key items → AreHeld d key items
held_same c d same key [] h = tt
held_same c d same key (item ∷ items) h = (same key ∙ h.0, held_same c d same (key_on 1 key) items h.1)

run_items : (key : RecordKey) (items : List Item) (c : Cache) → AreHeld c key items → (other : RecordKey)
    → item_of other (after_run key items c) ≡ item_of other c
run_items key [] c h other = refl
run_items key (item ∷ items) c h other =
    run_items (key_on 1 key) items (after_found key item c)
    (held_same c (after_found key item c) (λ o. items_stay key o item c h.0) (key_on 1 key) items h.1) other
    ∙ items_stay key other item c h.0

run_wants : (key : RecordKey) (items : List Item) (c : Cache) → (after_run key items c).wants ≡ c.wants
run_wants key [] c = refl
run_wants key (item ∷ items) c = run_wants (key_on 1 key) items (after_found key item c)

next_place : (key : RecordKey) (item : Item) (items : List Item) → key_on (length items) (key_on 1 key) ≡ key_on (length (item ∷ items)) key
next_place key item items = on_twice key 1 (length items) (length (item ∷ items)) (omega arith)

more_held : (c : Cache) (key : RecordKey) (items : List Item) (item : Item) → AreHeld c key items
    → item_of (key_on (length items) key) c ≡ Some item → AreHeld c key (items ++ item ∷ [])
more_held c key [] item h e = (subst (λ k. item_of k c ≡ Some item) (on_none key) e, tt)
more_held c key (first ∷ items) item h e =
    (h.0, more_held c (key_on 1 key) items item h.1 (subst (λ k. item_of k c ≡ Some item) (sym (next_place key first items)) e))

more_run : (key : RecordKey) (items : List Item) (item : Item) (c : Cache)
    → after_run key (items ++ item ∷ []) c ≡ after_found (key_on (length items) key) item (after_run key items c)
more_run key [] item c = ap (λ k. after_found k item c) (sym (on_none key))
more_run key (first ∷ items) item c =
    more_run (key_on 1 key) items item (after_found key first c)
    ∙ ap (λ k. after_found k item (after_run key (first ∷ items) c)) (next_place key first items)

-- the next item of a run is found, or there is none, or no memory
abbrev pub FindsNext : Option Cache → Option Cache → RecordKey → Option Item → Type 0
FindsNext old new key (Some item) = Finds old new key (found.Item item)
FindsNext old new key None = Finds old new key found.None ⊎ Finds old new key found.Memory

pub finds_next : (old new : Option Cache) (key : RecordKey) (f : Found) → Finds old new key f → FindsNext old new key (found_item f)
finds_next old new key (found.Item item) h = h
finds_next old new key found.None h = inl h
finds_next old new key found.Memory h = inr h

-- the store so far
abbrev pub HasRun : Option Cache → Option Cache → RecordKey → List Item → Type 0
HasRun None new key items = new ≡ None
HasRun (Some old) None key items = ⊥
HasRun (Some old) (Some new) key items = AreHeld old key items × (new ≡ after_run key items old)

runs_at : (o m n : Option Cache) (key : RecordKey) (items : List Item) (item : Item)
    → HasRun o m key items → FindsNext m n (key_on (length items) key) (Some item) → HasRun o n key (items ++ item ∷ [])
runs_at None m n key items item s f = subst (λ x. Finds x n (key_on (length items) key) (found.Item item)) s f
runs_at (Some old) None n key items item s f = absurd s
runs_at (Some old) (Some mid) None key items item s f = absurd f
runs_at (Some old) (Some mid) (Some new) key items item s f =
    let k = key_on (length items) key in
    let at : item_of k old ≡ Some item = sym (run_items key items old s.0 k) ∙ ap (item_of k) (sym s.1) ∙ f.0 in
    (more_held old key items item s.0 at, f.1 ∙ ap (after_found k item) s.1 ∙ sym (more_run key items item old))

-- an item more is found
pub runs_on : (o m n : Option Cache) (key now_ : RecordKey) (items then_ : List Item) (item : Item)
    → now_ ≡ key_on (length items) key → then_ ≡ items ++ item ∷ []
    → HasRun o m key items → FindsNext m n now_ (Some item) → HasRun o n key then_
runs_on o m n key now_ items then_ item at more s f =
    subst (HasRun o n key) (sym more) (runs_at o m n key items item s (subst (λ k. FindsNext m n k (Some item)) at f))

-- the store of a run keeps its count of wants
with_wants : (c d : Cache) → d ≡ c → d ≡ record c { wants = d.wants }
with_wants c d e = e ∙ ap (λ n. record c { wants = n }) (sym (ap (λ x. x.wants) e))

ends_none : (old mid new : Cache) (key : RecordKey) (count : ℕ) (items : List Item) → AreHeld old key items → mid ≡ after_run key items old
    → FindsIn mid new (key_on (length items) key) found.None → IsRun old new key count items
ends_none old mid new key count items h s f = record {
  held = h;
  ends = inr (inl (sym (run_items key items old h (key_on (length items) key)) ∙ ap (item_of (key_on (length items) key)) (sym s) ∙ f.0));
  store = with_wants (after_run key items old) new (f.1 ∙ s);
}

ends_wanting : (old mid new : Cache) (key : RecordKey) (count : ℕ) (items : List Item) → AreHeld old key items → mid ≡ after_run key items old
    → new ≡ record mid { wants = one_more true mid.wants } → IsRun old new key count items
ends_wanting old mid new key count items h s f =
    let more : new.wants ≡ min (old.wants + 1) (2 ^ 64 - 1) =
    ap (λ (c : Cache). c.wants) f ∙ ap (one_more true) (ap (λ (c : Cache). c.wants) s ∙ run_wants key items old) in
    record {
      held = h;
      ends = inr (inr (omega (arith, more)));
      store = f ∙ ap (λ (c : Cache). record c { wants = one_more true mid.wants }) s ∙ ap (λ (n : ℕ). record (after_run key items old) { wants = n }) (sym (ap (λ (c : Cache). c.wants) f));
    }

ends_at : (o m n : Option Cache) (key : RecordKey) (count : ℕ) (items : List Item)
    → HasRun o m key items → FindsNext m n (key_on (length items) key) None → Runs o n key count items
ends_at None None n key count items s (inl f) = f
ends_at None None n key count items s (inr f) = f
ends_at None (Some mid) n key count items s f = cc
ends_at (Some old) None n key count items s f = absurd s
ends_at (Some old) (Some mid) None key count items s (inl f) = absurd f
ends_at (Some old) (Some mid) None key count items s (inr f) = absurd f
ends_at (Some old) (Some mid) (Some new) key count items s (inl f) = ends_none old mid new key count items s.0 s.1 f
ends_at (Some old) (Some mid) (Some new) key count items s (inr f) = ends_wanting old mid new key count items s.0 s.1 f.1

-- it ends where no more is found
pub runs_end : (o m n : Option Cache) (key now_ : RecordKey) (count : ℕ) (items : List Item)
    → now_ ≡ key_on (length items) key → HasRun o m key items → FindsNext m n now_ None → Runs o n key count items
runs_end o m n key now_ count items at s f = ends_at o m n key count items s (subst (λ k. FindsNext m n k None) at f)

-- what has come of it at each moment
pub run_found : (old new : Cache) (key : RecordKey) (items : List Item) → HasRun (Some old) (Some new) key items → HasFound old new key items
run_found old new key items s = (s.0, with_wants (after_run key items old) new s.1)

-- ---- the world's records

more_records : (r : ℕ → Result Item Diag) (first : ℕ) (items : List Item) (item : Item) → AreRecords r first items
    → r (first + length items) ≡ Ok item → AreRecords r first (items ++ item ∷ [])
more_records r first [] item h e =
    let none : first + 0 ≡ first = omega arith in
    (subst (λ n. r n ≡ Ok item) none e, tt)
more_records r first (one ∷ items) item h e =
    let same : first + length (one ∷ items) ≡ (first + 1) + length items = omega arith in
    (h.0, more_records r (first + 1) items item h.1 (subst (λ n. r n ≡ Ok item) same e))

module _ {W : Type 0} (w : world.Ghosts W) where
  -- a run with one more is the world's
  pub more_worlds : (key now_ : RecordKey) (items then_ : List Item) (item : Item)
      → now_ ≡ key_on (length items) key → then_ ≡ items ++ item ∷ []
      → AreWorldsRun w key items → IsWorldsRecord w now_ item → AreWorldsRun w key then_
  more_worlds key now_ items then_ item at more a r = λ told.
      subst (AreRecords (λ position. w.record_ key.address key.key position key.syntax key.element) key.position) (sym more)
      (more_records (λ position. w.record_ key.address key.key position key.syntax key.element) key.position items item (a told)
      (subst (λ k. IsWorldsRecord w k item) at r told))

  -- entries behind a run are
  pub run_entries : (key : RecordKey) (items : List Item) (c : Cache) → AreHeld c key items → AreWorlds w c.entries
      → AreWorlds w (after_run key items c).entries
  run_entries key [] c h a = a
  run_entries key (item ∷ items) c h a =
      run_entries (key_on 1 key) items (after_found key item c)
      (held_same c (after_found key item c) (λ o. items_stay key o item c h.0) (key_on 1 key) items h.1)
      (front_worlds w key item c.entries a (found_worlds w key c.entries item a h.0))

  pub found_entries : (old new : Cache) (key : RecordKey) (items : List Item) → HasFound old new key items → AreWorlds w old.entries → AreWorlds w new.entries
  found_entries old new key items h a = subst (λ (c : Cache). AreWorlds w c.entries) (sym h.1) (run_entries key items old h.0 a)

  -- and what is held is
  pub held_worlds : (key : RecordKey) (items : List Item) (c : Cache) → AreHeld c key items → AreWorlds w c.entries → AreWorldsRun w key items
  held_worlds key [] c h a = λ told. tt
  held_worlds key (item ∷ items) c h a = λ told. (found_worlds w key c.entries item a h.0 told, held_worlds (key_on 1 key) items c h.1 a told)

  pub run_worlds : (old new : Cache) (key : RecordKey) (count : ℕ) (answer : Result Run Memory) → IfOk answer (λ (run : Run). IsRun old new key count run.items)
      → AreWorlds w old.entries → IfOk answer (λ (run : Run). AreWorldsRun w key run.items)
  run_worlds old new key count (Ok run) h a = held_worlds key run.items old h.held a
  run_worlds old new key count (Err memory) h a = tt

  -- what was found is the world's
  pub item_worlds : (key : RecordKey) (f : Found) (item : Item) → found_item f ≡ Some item → FindsWorlds w key f → IsWorldsRecord w key item
  item_worlds key (found.Item other) item e h = let same : other ≡ item = cc in subst (λ i. IsWorldsRecord w key i) same h
  item_worlds key found.None item e h = cc
  item_worlds key found.Memory item e h = cc

  -- the first of those that are left is, and the others
  pub first_worlds : (key : RecordKey) (item : Item) (items all : List Item) → all ≡ item ∷ items → AreWorldsRun w key all → IsWorldsRecord w key item
  first_worlds key item items all e a = λ told.
      (subst (AreRecords (λ position. w.record_ key.address key.key position key.syntax key.element) key.position) e (a told)).0

  pub other_worlds : (key now_ : RecordKey) (item : Item) (items all : List Item) → all ≡ item ∷ items
      → now_ ≡ record key { position = key.position + 1 } → AreWorldsRun w key all → AreWorldsRun w now_ items
  other_worlds key now_ item items all e at a =
      subst (λ k. AreWorldsRun w k items) (sym at) (λ told.
      (subst (AreRecords (λ position. w.record_ key.address key.key position key.syntax key.element) key.position) e (a told)).1)

-- ---- what is kept

abbrev keeps_if : Bool → RecordKey → Item → Cache → Cache
keeps_if true key item c = after_keep key item c
keeps_if false key item c = c

more_keeps : (most : ℕ) (key : RecordKey) (items : List Item) (item : Item) (c : Cache)
    → after_keeps most key (items ++ item ∷ []) c ≡ keeps_if (may_keep most item) (key_on (length items) key) item (after_keeps most key items c)
more_keeps most key [] item c = (elim (may_keep most item) as (λ b. may_keep most item ≡ b → after_keeps most key (item ∷ []) c ≡ keeps_if (may_keep most item) (key_on 0 key) item c) [
  | true ↦ λ t. rw t (ap (λ k. after_keep k item c) (sym (on_none key)))
  | false ↦ λ t. rw t refl
]) refl
more_keeps most key (first ∷ items) item c =
    let d = after_keeps most key (first ∷ []) c in
    more_keeps most (key_on 1 key) items item d
    ∙ ap (λ k. keeps_if (may_keep most item) k item (after_keeps most (key_on 1 key) items d)) (next_place key first items)

-- the store so far
abbrev pub HasKept : (most : ℕ) → Option Cache → Option Cache → RecordKey → List Item → Type 0
HasKept most None new key items = new ≡ None
HasKept most (Some old) None key items = ⊥
HasKept most (Some old) (Some new) key items = new ≡ after_keeps most key items old

pub none_kept : (most : ℕ) (o : Option Cache) (key : RecordKey) → HasKept most o o key []
none_kept most None key = refl
none_kept most (Some c) key = refl

kept_if : (b : Bool) (m n : Cache) (key : RecordKey) (item : Item) → KeepsIf b (Some m) (Some n) key item → n ≡ keeps_if b key item m
kept_if true m n key item f = f
kept_if false m n key item f = cc

none_if : (b : Bool) (n : Option Cache) (key : RecordKey) (item : Item) → KeepsIf b None n key item → n ≡ None
none_if true n key item f = f
none_if false n key item f = f

some_if : (b : Bool) (m : Cache) (key : RecordKey) (item : Item) → KeepsIf b (Some m) None key item → ⊥
some_if true m key item f = f
some_if false m key item f = cc

keeps_at : (most : ℕ) (o m n : Option Cache) (key : RecordKey) (items : List Item) (item : Item)
    → HasKept most o m key items → KeepsOne most m n (key_on (length items) key) item → HasKept most o n key (items ++ item ∷ [])
keeps_at most None None n key items item s f = none_if (may_keep most item) n (key_on (length items) key) item f
keeps_at most None (Some mid) n key items item s f = cc
keeps_at most (Some old) None n key items item s f = absurd s
keeps_at most (Some old) (Some mid) None key items item s f = absurd (some_if (may_keep most item) mid (key_on (length items) key) item f)
keeps_at most (Some old) (Some mid) (Some new) key items item s f =
    kept_if (may_keep most item) mid new (key_on (length items) key) item f
    ∙ ap (keeps_if (may_keep most item) (key_on (length items) key) item) s ∙ sym (more_keeps most key items item old)

-- an item more was kept, or left out
pub keeps_on : (most : ℕ) (o m n : Option Cache) (key now_ : RecordKey) (items then_ : List Item) (item : Item)
    → now_ ≡ key_on (length items) key → then_ ≡ items ++ item ∷ []
    → HasKept most o m key items → KeepsOne most m n now_ item → HasKept most o n key then_
keeps_on most o m n key now_ items then_ item at more s f =
    subst (HasKept most o n key) (sym more) (keeps_at most o m n key items item s (subst (λ k. KeepsOne most m n k item) at f))

-- the first of them are kept
pub keeps_first : (most : ℕ) (o m n : Option Cache) (key : RecordKey) (first others all : List Item) (whole : Bool)
    → all ≡ first ++ others → n ≡ m → (whole ≡ true → others ≡ []) → HasKept most o m key first → KeepsRun most o n key all whole
keeps_first most None m n key first others all whole are same end s = same ∙ s
keeps_first most (Some old) None n key first others all whole are same end s = absurd s
keeps_first most (Some old) (Some mid) None key first others all whole are same end s = cc
keeps_first most (Some old) (Some mid) (Some new) key first others all whole are same end s = record {
  first = first;
  others = others;
  are = are;
  store = let e : new ≡ mid = cc in e ∙ s;
  whole = end;
}
