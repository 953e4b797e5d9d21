-- What is known of a session once it was looked at
use Rattle.std.proofs.Common.{◌≡◌, ◌≢◌, ◌≤◌, ◌<◌, ◌+◌, ◌-◌, ◌^◌, ℕ, Bool, false, List, length, Option, None, Some, Result, Ok, Err, refl, sym, ◌∙◌, ap, subst, arith, if◌then◌else◌}
use Rattle.std.proofs.lemmas.Cmp.{nat_list_eq_equiv}
use Rattle.std.proofs.lemmas.Fmt.{decimal_injective}
use Rattle.std.proofs.lemmas.Bool.{false_from_ne_true}
use Rattle.z_types.specs.Pending.{asked, opening}
use Rattle.z_types.specs.declared.address.Address.{Address}
use Rattle.z_types.specs.declared.ask.Ask.TheVariants as ask
use Rattle.z_types.specs.declared.key.SetKey.{SetKey}
use Rattle.z_types.specs.declared.records.Item.{Item}
use Rattle.z_types.specs.declared.sitting.Sitting as sitting
use Rattle.z_types.specs.declared.world.World as world
use Rattle.z_types.specs.equality.Tests.{text_exact}
use Rattle.z_types.specs.Same.{is_same}
use Rattle.gw_outside.specs.Sessions.{Made, Fits, IsWorlds, RecordsOf, made_after, pending_after}
use Rattle.gw_outside.specs.declared.backends.Heard.{Heard}
use Rattle.gw_outside.specs.declared.backends.Heard.TheVariants as look
use Rattle.pool_sets.specs.declared.pooled.Parts.{Parts}
use Rattle.pool_sets.specs.Kept.{slot_name, IsKept, TableKept}
use Rattle.pool_sets.specs.Entries.{IsRoom}
use Rattle.pool_sets.specs.Table.{Entry}
use Rattle.leg.specs.declared.phases.Held.{Held}
use Rattle.leg.specs.declared.tasks.Task.{Task}
use Rattle.leg.specs.declared.tasks.Task.TheVariants.{Hits, Records, Scan}
use Rattle.leg.specs.Kept.{IsHeld, IsBefore, IsSearching, IsFetching, ItemsKept, HasOwnSet}
use Rattle.leg.specs.Phases.{with_session}
use Rattle.leg.specs.steps.Replies.{InitHeard, SearchHeard, PresentHeard}
use Rattle.leg.specs.Rules.{next_ask}
use Rattle.leg.proofs.Own.{own_made}

-- the names of two slots are two texts
other_name : (a b : ℕ) → a < 2 ^ 32 → b < 2 ^ 32 → b ≢ a → is_same (slot_name a) (slot_name b) ≡ false
other_name a b p q h =
    false_from_ne_true (is_same (slot_name a) (slot_name b)) (λ e.
    h (sym (decimal_injective a b (omega arith) (omega arith) (text_exact (slot_name a) (slot_name b) e))))

module _ {W S : Type 0} (w : world.Ghosts W) (t : sitting.Ghosts S W) where
  moved : (s u : S) (key : SetKey) (hits : ℕ) → t.address u ≡ t.address s → (w.told (t.address s) → w.search (t.address s) key ≡ Ok hits)
      → w.told (t.address u) → w.search (t.address u) key ≡ Ok hits
  moved s u key hits a h = subst (λ (x : Address). w.told x → w.search x key ≡ Ok hits) (sym a) h

  -- nothing was made
  still_kept : (s u : S) (e : Entry) → t.address u ≡ t.address s → ((n : List ℕ) → t.made u n ≡ t.made s n) → IsKept w t s e → IsKept w t u e
  still_kept s u e a m k = record {
    small = k.small;
    count = k.count;
    stands = m (slot_name e.slot) ∙ k.stands;
    right = moved s u e.key e.hits a k.right;
  }

  -- something was made under another slot's name
  kept_elsewhere : (s u : S) (slot : ℕ) (x : Made) (e : Entry) → slot < 2 ^ 32 → e.slot ≢ slot → t.address u ≡ t.address s
      → ((n : List ℕ) → t.made u n ≡ (if is_same (slot_name slot) n then x n else t.made s n)) → IsKept w t s e → IsKept w t u e
  kept_elsewhere s u slot x e p h a m k = record {
    small = k.small;
    count = k.count;
    stands = m (slot_name e.slot) ∙ ap (λ (b : Bool). if b then x (slot_name e.slot) else t.made s (slot_name e.slot)) (other_name slot e.slot p k.small h) ∙ k.stands;
    right = moved s u e.key e.hits a k.right;
  }

  -- the table of a session that went on and made nothing
  pub table_along : (u : S) (p : Parts S) → t.address u ≡ t.address p.session → ((n : List ℕ) → t.made u n ≡ t.made p.session n) → TableKept w t p
      → TableKept w t (record { session = u; table = p.table; address = p.address })
  table_along u p a m k = record {
    same_address = a ∙ k.same_address;
    each = λ i d h. still_kept p.session u _ a m (k.each i d h);
    once = k.once;
  }

  -- of one that made something under the name of a slot that no set has
  table_stays : (u : S) (p : Parts S) (slot : ℕ) (x : Made) → slot < 2 ^ 32 → IsRoom p.table slot → t.address u ≡ t.address p.session
      → ((n : List ℕ) → t.made u n ≡ (if is_same (slot_name slot) n then x n else t.made p.session n)) → TableKept w t p
      → TableKept w t (record { session = u; table = p.table; address = p.address })
  table_stays u p slot x small room a m k = record {
    same_address = a ∙ k.same_address;
    each = λ i d h. kept_elsewhere p.session u slot x _ small (room.free i d h) a m (k.each i d h);
    once = k.once;
  }

  own_name : (slot : ℕ) (x y : Option (SetKey × ℕ)) → (if is_same (slot_name slot) (slot_name slot) then x else y) ≡ x
  own_name slot x y = ap (λ (b : Bool). if b then x else y) (nat_list_eq_equiv.refl (slot_name slot))

  to_address : (p : Parts S) (key : SetKey) (r : Result ℕ _) → TableKept w t p → (w.told (t.address p.session) → w.search (t.address p.session) key ≡ r)
      → w.told p.address → w.search p.address key ≡ r
  to_address p key r k h = subst (λ (x : Address). w.told x → w.search x key ≡ r) k.same_address h

  pub search_heard : (task : Task) (held : Held S) (slot : ℕ) (u : S) (reply : Heard) (k : IsSearching w t task held slot) → slot < 2 ^ 32
      → Fits (asked (ask.Search (slot_name slot) k.key)) reply
      → (w.told (t.address held.parts.session) → IsWorlds w (t.address held.parts.session) (t.made held.parts.session) (asked (ask.Search (slot_name slot) k.key)) reply)
      → t.pending u ≡ pending_after (asked (ask.Search (slot_name slot) k.key)) reply
      → ((n : List ℕ) → t.made u n ≡ made_after (asked (ask.Search (slot_name slot) k.key)) reply (t.made held.parts.session) n)
      → t.address u ≡ t.address held.parts.session
      → SearchHeard w t task (with_session u held) slot reply
  search_heard task held slot u (look.Hits hits) k small f r p m a = record {
    key = k.key;
    wants = k.wants;
    rests = record { waits = p; kept = table_stays u held.parts slot (λ n. Some (k.key, hits)) small k.room a m k.asks.kept };
    room = k.room;
    small = small;
    count = f;
    lacks = k.lacks;
    made = m (slot_name slot) ∙ own_name slot (Some (k.key, hits)) (t.made held.parts.session (slot_name slot));
    right = to_address held.parts k.key (Ok hits) k.asks.kept r;
  }
  search_heard task held slot u (look.Refused diag) k small f r p m a = record {
    key = k.key;
    wants = k.wants;
    rests = record { waits = p; kept = table_stays u held.parts slot (λ n. None) small k.room a m k.asks.kept };
    right = to_address held.parts k.key (Err diag) k.asks.kept r;
  }
  search_heard task held slot u look.NotYet k small f r p m a = record {
    key = k.key;
    wants = k.wants;
    asks = record { waits = p; kept = table_stays u held.parts slot (t.made held.parts.session) small k.room a m k.asks.kept };
    room = k.room;
    lacks = k.lacks;
  }
  search_heard task held slot u look.Failed k small f r p m a = tt
  search_heard task held slot u look.Memory k small f r p m a = tt
  search_heard task held slot u look.Opened k small f r p m a = f
  search_heard task held slot u (look.Items items) k small f r p m a = f
  search_heard task held slot u look.Gone k small f r p m a = f
  search_heard task held slot u (look.Scanned entries) k small f r p m a = f

  at_address : (p : Parts S) (key : SetKey) (hits : ℕ) (syntax element : Option (List ℕ)) (first : ℕ) (reply : Heard) → TableKept w t p
      → RecordsOf w (t.address p.session) (Some (key, hits)) syntax element first reply
      → RecordsOf w p.address (Some (key, hits)) syntax element first reply
  at_address p key hits syntax element first reply k h =
      subst (λ (x : Address). RecordsOf w x (Some (key, hits)) syntax element first reply) k.same_address h

  told_there : (p : Parts S) → TableKept w t p → w.told p.address → w.told (t.address p.session)
  told_there p k told = subst (λ (x : Address). w.told x) (sym k.same_address) told

  -- the records of the own set
  of_own : (p : Parts S) (slot : ℕ) (key : SetKey) (hits : ℕ) (syntax element : Option (List ℕ)) (first count : ℕ) (reply : Heard) → TableKept w t p
      → HasOwnSet w t (Records key first count syntax element) (record { seat = record { class = 0; number = 0 }; parts = p; given = false }) slot hits
      → (next : ℕ)
      → (w.told (t.address p.session) → RecordsOf w (t.address p.session) (t.made p.session (slot_name slot)) syntax element next reply)
      → w.told p.address → RecordsOf w p.address (Some (key, hits)) syntax element next reply
  of_own p slot key hits syntax element first count reply k o next r told =
      let made = own_made w t p slot key hits k o.0 in
      at_address p key hits syntax element next reply k (rw made at (r (told_there p k told)))

  left_within : (items others count : ℕ) → items < count → others ≤ count - items → items + others ≤ count
  left_within items others count h k = omega arith

  records_heard : (key : SetKey) (first count : ℕ) (syntax element : Option (List ℕ)) (held : Held S) (items : List Item) (slot hits : ℕ) (u : S) (reply : Heard)
      → IsHeld w t (asked (ask.Present (slot_name slot) (first + length items) (count - length items) syntax element)) held
      → length items < count → HasOwnSet w t (Records key first count syntax element) held slot hits
      → Fits (asked (ask.Present (slot_name slot) (first + length items) (count - length items) syntax element)) reply
      → (w.told (t.address held.parts.session) → RecordsOf w (t.address held.parts.session) (t.made held.parts.session (slot_name slot)) syntax element (first + length items) reply)
      → t.pending u ≡ pending_after (asked (ask.Present (slot_name slot) (first + length items) (count - length items) syntax element)) reply
      → ((n : List ℕ) → t.made u n ≡ t.made held.parts.session n)
      → t.address u ≡ t.address held.parts.session
      → PresentHeard w t (Records key first count syntax element) (with_session u held) items slot reply
  records_heard key first count syntax element held items slot hits u (look.Items others) k left o f r p m a = (
    record { waits = p; kept = table_along u held.parts a m k.kept },
    (
      f.0,
      left_within (length items) (length others) count left f.1,
      of_own held.parts slot key hits syntax element first count (look.Items others) k.kept o (first + length items) r,
    ),
  )
  records_heard key first count syntax element held items slot hits u (look.Refused diag) k left o f r p m a = (
    record { waits = p; kept = table_along u held.parts a m k.kept },
    of_own held.parts slot key hits syntax element first count (look.Refused diag) k.kept o (first + length items) r,
  )
  records_heard key first count syntax element held items slot hits u look.Gone k left o f r p m a =
      record { waits = p; kept = table_along u held.parts a m k.kept }
  records_heard key first count syntax element held items slot hits u look.NotYet k left o f r p m a =
      record { waits = p; kept = table_along u held.parts a m k.kept }
  records_heard key first count syntax element held items slot hits u look.Failed k left o f r p m a = tt
  records_heard key first count syntax element held items slot hits u look.Memory k left o f r p m a = tt
  records_heard key first count syntax element held items slot hits u look.Opened k left o f r p m a = f
  records_heard key first count syntax element held items slot hits u (look.Hits found) k left o f r p m a = f
  records_heard key first count syntax element held items slot hits u (look.Scanned entries) k left o f r p m a = f

  pub present_heard : (task : Task) (held : Held S) (items : List Item) (slot hits : ℕ) (u : S) (reply : Heard)
      → IsFetching w t (next_ask task items slot) held → ItemsKept w t task held items → HasOwnSet w t task held slot hits
      → Fits (t.pending held.parts.session) reply
      → (w.told (t.address held.parts.session) → IsWorlds w (t.address held.parts.session) (t.made held.parts.session) (t.pending held.parts.session) reply)
      → t.pending u ≡ pending_after (t.pending held.parts.session) reply
      → ((n : List ℕ) → t.made u n ≡ made_after (t.pending held.parts.session) reply (t.made held.parts.session) n)
      → t.address u ≡ t.address held.parts.session
      → PresentHeard w t task (with_session u held) items slot reply
  present_heard (Records key first count syntax element) held items slot hits u reply k i o f r p m a =
      records_heard key first count syntax element held items slot hits u reply k i.0 o (rw k.waits at f) (rw k.waits at r) (rw k.waits at p) (rw k.waits at m) a
  present_heard (Hits key) held items slot hits u reply k i o f r p m a = absurd k
  present_heard (Scan scan) held items slot hits u reply k i o f r p m a = absurd k

  init_reply : (task : Task) (held : Held S) (u : S) (reply : Heard) → IsBefore w t opening task held → Fits opening reply
      → t.pending u ≡ pending_after opening reply → ((n : List ℕ) → t.made u n ≡ made_after opening reply (t.made held.parts.session) n)
      → t.address u ≡ t.address held.parts.session → InitHeard w t task (with_session u held) reply
  init_reply task held u look.Opened k f p m a = record { is_held = record { waits = p; kept = table_along u held.parts a m k.is_held.kept }; lacks = k.lacks }
  init_reply task held u look.NotYet k f p m a = record { is_held = record { waits = p; kept = table_along u held.parts a m k.is_held.kept }; lacks = k.lacks }
  init_reply task held u look.Failed k f p m a = tt
  init_reply task held u look.Memory k f p m a = tt
  init_reply task held u (look.Hits hits) k f p m a = f
  init_reply task held u (look.Refused diag) k f p m a = f
  init_reply task held u (look.Items items) k f p m a = f
  init_reply task held u look.Gone k f p m a = f
  init_reply task held u (look.Scanned entries) k f p m a = f

  -- the reply to the Init
  pub init_heard : (task : Task) (held : Held S) (u : S) (reply : Heard) → IsBefore w t opening task held
      → Fits (t.pending held.parts.session) reply
      → t.pending u ≡ pending_after (t.pending held.parts.session) reply
      → ((n : List ℕ) → t.made u n ≡ made_after (t.pending held.parts.session) reply (t.made held.parts.session) n)
      → t.address u ≡ t.address held.parts.session
      → InitHeard w t task (with_session u held) reply
  init_heard task held u reply k f p m a =
      init_reply task held u reply k (rw k.is_held.waits at f) (rw k.is_held.waits at p) (rw k.is_held.waits at m) a
