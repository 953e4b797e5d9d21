-- How a leg asks
use Rattle.std.proofs.Common.{◌≡◌, ◌≤◌, ◌<◌, ◌+◌, ◌-◌, ◌^◌, ℕ, true, false, List, [], length, Option, None, Some, is_some, refl, sym, ap, subst, arith}
use Rattle.std.proofs.lemmas.Fmt.{length-decimal-le}
use Rattle.z_types.specs.Bounds.{most_number}
use Rattle.z_types.specs.Pending.{resting}
use Rattle.z_types.specs.declared.ask.Ask.{Ask}
use Rattle.z_types.specs.declared.ask.Ask.TheVariants as ask
use Rattle.z_types.specs.declared.key.SetKey.{SetKey}
use Rattle.z_types.specs.declared.records.Item.{Item}
use Rattle.z_types.specs.declared.scan.ScanAsk.{ScanAsk}
use Rattle.z_types.specs.declared.sitting.Sitting as sitting
use Rattle.z_types.specs.declared.world.World as world
use Rattle.gw_outside.specs.Asks.{IsShort, MaySearch, MayScan, MayAsk, AreFewShort}
use Rattle.gw_outside.specs.Sessions.{is_search}
use Rattle.gw_outside.specs.declared.backends.Began.TheVariants as start
use Rattle.pool_sets.specs.declared.pooled.Parts.{Parts}
use Rattle.pool_sets.specs.Kept.{slot_name, TableKept}
use Rattle.pool_sets.specs.Doors.{LacksWanted}
use Rattle.pool_sets.specs.Table.{Table, room, after_room, set_of}
use Rattle.leg.specs.declared.phases.Held.{Held}
use Rattle.leg.specs.declared.phases.Phase.TheVariants.{Searching}
use Rattle.leg.specs.declared.tasks.Task.{Task}
use Rattle.leg.specs.declared.tasks.Task.TheVariants.{Hits, Records, Scan}
use Rattle.leg.specs.Kept.{IsHeld, ItemsKept, HasOwnSet}
use Rattle.leg.specs.Phases.{with_session, with_sets}
use Rattle.leg.specs.Rules.{after_first, first_ask, next_ask}
use Rattle.leg.specs.Tasks.{want_of, MayDo}
use Rattle.pool_sets.proofs.KeptLemmas as kept_lemmas
use Rattle.leg.proofs.Heards.{table_along}
use Rattle.leg.proofs.Own.{own_made}

-- the name of a slot is short
name_is_short : (slot : ℕ) → slot < 2 ^ 32 → IsShort (slot_name slot)
name_is_short slot h = let k : length (slot_name slot) ≤ 10 = length-decimal-le 10 slot (omega arith) (omega arith) (omega arith) in omega arith

pub may_search_under : (slot : ℕ) (key : SetKey) → slot < 2 ^ 32 → MaySearch [] key → MaySearch (slot_name slot) key
may_search_under slot key h m = record {
  short = name_is_short slot h;
  databases = m.databases;
  no_set = m.no_set;
  small = m.small;
  shallow = m.shallow;
  cheap = m.cheap;
}

pub may_want : (task : Task) (key : SetKey) → want_of task ≡ Some key → MayDo task → MaySearch [] key
may_want (Hits own) key e m = let h : own ≡ key = cc in rw h at m
may_want (Records own first count syntax element) key e m = let h : own ≡ key = cc in rw h at m.0
may_want (Scan scan) key e m = cc

pub may_scan_of : (dbs : List (List ℕ)) (scan : ScanAsk) → AreFewShort dbs → MayScan [] scan → MayScan dbs scan
may_scan_of dbs scan few m = record {
  databases = few;
  attrs = m.attrs;
  cheap = m.cheap;
  number = m.number;
  step = m.step;
  position = m.position;
}

-- a set is wanted
pub is_wanted : (want : Option SetKey) (key : SetKey) → want ≡ Some key → is_some want ≡ true
is_wanted None key e = cc
is_wanted (Some own) key e = refl

-- it is lacked
pub lacks_own : (want : Option SetKey) (key : SetKey) (table : Table) → want ≡ Some key → LacksWanted want table → set_of key table ≡ None
lacks_own None key table e h = cc
lacks_own (Some own) key table e h = let same : own ≡ key = cc in rw same at h

-- the first ask of a leg that wants a set
pub first_ask_is : {S : Type 0} (dbs : List (List ℕ)) (task : Task) (held : Held S) (key : SetKey) → want_of task ≡ Some key
    → first_ask dbs task held ≡ ask.Search (slot_name (room held.parts.table)) key
first_ask_is dbs (Hits own) held key e = let h : own ≡ key = cc in ap (λ (k : SetKey). ask.Search (slot_name (room held.parts.table)) k) h
first_ask_is dbs (Records own first count syntax element) held key e = let h : own ≡ key = cc in ap (λ (k : SetKey). ask.Search (slot_name (room held.parts.table)) k) h
first_ask_is dbs (Scan scan) held key e = cc

-- a present is no search
pub next_is_no_search : (task : Task) (items : List Item) (slot : ℕ) (due : Ask) → next_ask task items slot ≡ Some due → is_search due ≡ false
next_is_no_search (Records key first count syntax element) items slot due e =
    let h : ask.Present (slot_name slot) (first + length items) (count - length items) syntax element ≡ due = cc in rw (sym h) refl
next_is_no_search (Hits key) items slot due e = cc
next_is_no_search (Scan scan) items slot due e = cc

module _ {S : Type 0} where
  -- a search was sent
  pub first_started : (task : Task) (held : Held S) (items : List Item) (session : S) (key : SetKey) → want_of task ≡ Some key
      → after_first task held items start.Started session ≡ Searching (with_sets (after_room held.parts.table) (with_session session held)) items (room held.parts.table) 0
  first_started (Hits own) held items session key e = refl
  first_started (Records own first count syntax element) held items session key e = refl
  first_started (Scan scan) held items session key e = cc

module _ {W S : Type 0} (w : world.Ghosts W) (t : sitting.Ghosts S W) where
  -- the sets that are kept after room was made, and once the session went on
  pub room_kept : (u : S) (p : Parts S) (table : Table) → table ≡ after_room p.table → t.address u ≡ t.address p.session
      → ((n : List ℕ) → t.made u n ≡ t.made p.session n) → TableKept w t p → TableKept w t (record { session = u; table = table; address = p.address })
  room_kept u p table e a m k =
      subst (λ (x : Table). TableKept w t (record { session = u; table = x; address = p.address })) (sym e)
      (kept_lemmas.room_kept w t (record { session = u; table = p.table; address = p.address }) (table_along w t u p a m k))

  -- the records that came are kept while the address stays
  pub items_moved : (task : Task) (held : Held S) (items : List Item) (u : S) (table : Table) → ItemsKept w t task held items
      → ItemsKept w t task (record { seat = held.seat; parts = record { session = u; table = table; address = held.parts.address }; given = held.given }) items
  items_moved (Records key first count syntax element) held items u table h = h
  items_moved (Hits key) held items u table h = h
  items_moved (Scan scan) held items u table h = h

  pub own_moved : (task : Task) (held : Held S) (slot hits : ℕ) (u : S) → HasOwnSet w t task held slot hits
      → HasOwnSet w t task (with_session u held) slot hits
  own_moved (Records key first count syntax element) held slot hits u h = h
  own_moved (Hits key) held slot hits u h = h
  own_moved (Scan scan) held slot hits u h = h

  pub may_present : (task : Task) (held : Held S) (items : List Item) (slot hits : ℕ) (due : Ask) → slot < 2 ^ 32 → MayDo task → IsHeld w t resting held
      → ItemsKept w t task held items → HasOwnSet w t task held slot hits → next_ask task items slot ≡ Some due → MayAsk (t.made held.parts.session) due
  may_present (Records key first count syntax element) held items slot hits due small m k i o e =
      let h : ask.Present (slot_name slot) (first + length items) (count - length items) syntax element ≡ due = cc in
      let few : length items < count = i.0 in
      let within : first + count ≤ hits + 1 = o.1 in
      let numbers : first + count ≤ most_number + 1 = m.1.within in
      rw (sym h) (record {
        key = key;
        hits = hits;
        is_made = own_made w t held.parts slot key hits k.kept o.0;
        short = name_is_short slot small;
        from_one = (let one : 1 ≤ first = m.1.from_one in omega arith);
        some = omega arith;
        within = omega arith;
        first_number = omega arith;
        count_number = (let one : 1 ≤ first = m.1.from_one in omega arith);
        short_element = m.1.short;
      })
  may_present (Hits key) held items slot hits due small m k i o e = absurd o
  may_present (Scan scan) held items slot hits due small m k i o e = absurd o
