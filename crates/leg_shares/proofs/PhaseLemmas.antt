-- Where a leg goes behind its use
use Rattle.std.proofs.Common.{◌≡◌, ◌∙◌, ℕ, ◌+◌, ◌-◌, Bool, true, false, cond, List, ◌∷◌, length, Contains, None, Some, Result, Ok, Err, is_some, refl, sym, ap, subst, nat_lt}
use Rattle.std.specs.Prelude.{is_err}
use Rattle.z_types.specs.Pending.{Pending, asked}
use Rattle.z_types.specs.Logins.{inner, inside}
use Rattle.z_types.specs.declared.address.Address.{Address}
use Rattle.z_types.specs.declared.ask.Ask.{Ask}
use Rattle.z_types.specs.declared.ask.Ask.TheVariants as ask
use Rattle.z_types.specs.declared.diagnostic.Diag.{Diag}
use Rattle.z_types.specs.declared.key.SetKey.{SetKey}
use Rattle.z_types.specs.declared.records.Item.{Item}
use Rattle.z_types.specs.declared.sitting.Sitting as sitting
use Rattle.z_types.specs.declared.world.World as world
use Rattle.route_config.specs.declared.route.Route.{Route}
use Rattle.gw_outside.specs.Sessions.{IsWorlds}
use Rattle.gw_outside.specs.declared.backends.Began.TheVariants as start
use Rattle.gw_outside.specs.declared.backends.Heard.TheVariants as look
use Rattle.pool_sets.specs.Kept.{slot_name}
use Rattle.pool_sets.specs.Plain.{Pool}
use Rattle.pool_sets.specs.Sessions.{Session}
use Rattle.pool_sets.specs.Table.{Table, after_record, after_room, is_free, room, set_of}
use Rattle.pool_sets.specs.declared.doors.Seat.{Seat}
use Rattle.pool_sets.specs.declared.pooled.Parts.{Parts}
use Rattle.leg.specs.Kept.{one_if}
use Rattle.leg.specs.Phases.{with_session, with_sets}
use Rattle.leg.specs.Rules.{out_of_range, with_items, with_set}
use Rattle.leg.specs.Tasks.{want_of}
use Rattle.leg.specs.Terms.{members_of}
use Rattle.leg.specs.Turns.{IsAsked, IsLook}
use Rattle.leg.specs.declared.answers.LegAnswer.{LegAnswer}
use Rattle.leg.specs.declared.answers.LegAnswer.TheVariants as answer
use Rattle.leg.specs.declared.phases.Held.{Held}
use Rattle.leg.specs.declared.phases.Phase.{Phase}
use Rattle.leg.specs.declared.phases.Phase.TheVariants.{Presenting, Returning}
use Rattle.leg.specs.declared.tasks.Task.{Task}
use Rattle.leg.specs.declared.tasks.Task.TheVariants.{Hits, Records, Scan}
use Rattle.sharing_rules.specs.Needed.{is_refused}
use Rattle.sharing_rules.specs.Sharers.{Sharers}
use Rattle.sharing_rules.specs.Uses.{Use}
use Rattle.sharing_rules.specs.steps.Shared.{HoldsUsed, IsOutWith, dial_due, search_due, use_now}
use Rattle.sharing_rules.proofs.RoomUses.{fewer_held, no_set_goes, room_is_free}
use Rattle.sharing_rules.proofs.SearchUses.{room_is_there}
use Rattle.sharing_rules.proofs.TableUses.{recorded, refused_again, scanned}
use Rattle.leg_shares.specs.steps.Pools.{MayUse}
use Rattle.leg_shares.specs.steps.Sharing.{IsBeforeUse, IsInSearch, IsOutBehind, IsOwnPresent, IsOwnSearch, IsUsed, StandsBy, dials_by, searches_by}
use Rattle.leg_shares.proofs.MemberLemmas.{contains-among, own-place}

-- ---- a session that is out

module _ {W S : Type 0} (w : world.Ghosts W) (route : Route) (who : Sharers) (now : ℕ) where
  -- it went on, and its table is another
  pub out-with : (old new : List Use) (seat : Seat) (parts : Parts S) (session : S) (table : Table) (os : List (Session S))
      → IsOutWith w route who (members_of route who.class) now old seat parts os → HoldsUsed w route who now new table
      → IsOutWith w route who (members_of route who.class) now new seat (record { session = session; table = table; address = parts.address }) os
  out-with old new seat parts session table os out holds = record { own = out.own; out = out.out; among = out.among; inside_ = out.inside_; holds = holds }

-- ---- behind the use

module _ {W S : Type 0} (w : world.Ghosts W) (t : sitting.Ghosts S W) (route : Route) (who : Sharers) (now : ℕ) (before : List Use) where
  -- a leg that has had what its use needs
  pub record IsBehindUse (task : Task) (phase : Phase S) (pool : Pool S) : Type 0 where
    pub stands : StandsBy w t route who now before task phase pool
    pub dials : dials_by route who now before phase ≡ one_if (dial_due route who now before)
    pub searches : searches_by w route who now before (want_of task) phase ≡ one_if (search_due w route who now before (want_of task))

  -- with an answer
  pub returns-behind : (task : Task) (held : Held S) (reply : LegAnswer) (pool : Pool S) → IsUsed w t route who now before task held pool
      → IsBehindUse task (Returning held reply) pool
  returns-behind task held reply pool used = record { stands = used; dials = refl; searches = refl }

  presents-behind : (task : Task) (held : Held S) (items : List Item) (slot hits : ℕ) (pool : Pool S)
      → IsUsed w t route who now before task held pool → IsBehindUse task (Presenting held items slot hits) pool
  presents-behind task held items slot hits pool used = record { stands = used; dials = refl; searches = refl }

  -- with the set
  pub set-behind : (task : Task) (held : Held S) (items : List Item) (slot hits : ℕ) (pool : Pool S) → is_some (want_of task) ≡ true
      → IsUsed w t route who now before task held pool → IsBehindUse task (with_set task held items slot hits) pool
  set-behind (Hits key) held items slot hits pool wants used = returns-behind (Hits key) held (answer.Hits hits) pool used
  set-behind (Scan scan) held items slot hits pool wants used = absurd cc
  set-behind (Records key first count syntax element) held items slot hits pool wants used =
      (elim (nat_lt hits (first + (count - 1))) as (λ (b : Bool). IsBehindUse (Records key first count syntax element) (cond b (Returning held (answer.Broken items out_of_range)) (Presenting held items slot hits)) pool) [
        | true ↦ returns-behind (Records key first count syntax element) held (answer.Broken items out_of_range) pool used
        | false ↦ presents-behind (Records key first count syntax element) held items slot hits pool used
      ])

  -- with records
  pub items-behind : (task : Task) (held : Held S) (items : List Item) (slot hits : ℕ) (asks : Ask) (pool : Pool S) → IsOwnPresent task asks
      → IsUsed w t route who now before task held pool → IsBehindUse task (with_items task held items slot hits) pool
  items-behind (Hits key) held items slot hits asks pool own used = absurd own
  items-behind (Scan scan) held items slot hits asks pool own used = absurd own
  items-behind (Records key first count syntax element) held items slot hits asks pool own used =
      (elim (nat_lt (length items) count) as (λ (b : Bool). IsBehindUse (Records key first count syntax element) (cond b (Presenting held items slot hits) (Returning held (answer.Items items))) pool) [
        | true ↦ presents-behind (Records key first count syntax element) held items slot hits pool used
        | false ↦ returns-behind (Records key first count syntax element) held (answer.Items items) pool used
      ])

  -- ---- the search

  module _ (key : SetKey) (may : MayUse w route who now before (Some key)) (held : Held S) (pool : Pool S) where
    abbrev table : Table
    table = held.parts.table

    -- it is sent under a slot that is free
    pub is-sent : (asks : Ask) (session : S) → IsBeforeUse w t route who now before (Some key) held pool
        → IsAsked w t (ask.Search (slot_name (room table)) key) asks held.parts.session session start.Started
        → IsInSearch w t route who now before (Some key) (with_sets (after_room table) (with_session session held)) (room table) pool
    is-sent asks session is sent =
        let stays : after_room table ≡ table = room_is_there w route who now before table key is.out.holds is.lacks may.few in
        record {
          session = record {
            out = out-with w route who now before before held.seat held.parts session (after_room table) pool.sessions is.out
                (subst (λ (x : Table). HoldsUsed w route who now before x) (sym stays) is.out.holds);
            address = sent.address ∙ is.address;
            lacks = ap (λ (x : Table). set_of key x) stays ∙ is.lacks;
            search = is.search;
          };
          free = ap (λ (x : Table). is_free x.entries (room table)) stays
              ∙ room_is_free table (no_set_goes table (fewer_held w route who now before table key is.out.holds is.lacks may.few));
          awaits = record {
            asks = asks;
            waits = sent.waits;
            is_so = subst (λ (a : Ask). IsOwnSearch (Some key) a) (sym sent.asks) refl;
          };
        }

    module _ (slot : ℕ) (is : IsInSearch w t route who now before (Some key) held slot pool) where
      abbrev its_address : Address
      its_address = t.address held.parts.session

      abbrev its_member : Address
      its_member = inner held.parts.address

      is-member : Contains (members_of route who.class) its_member
      is-member = contains-among (members_of route who.class) its_member is.session.out.among

      -- it is that of a member, inside the login
      its-place : inside who.login its_member ≡ its_address
      its-place = own-place who.login held.parts.address is.session.out.inside_ ∙ sym is.session.address

      is-told : w.told its_address
      is-told = subst (λ (a : Address). w.told a) its-place (may.one.told its_member is-member)

      -- the class refuses the search where the address does
      refuses-as : (said : Result ℕ Diag) → w.search its_address key ≡ said → is_refused w route who key ≡ is_err said
      refuses-as said e =
          sym (may.one.refuse its_member key is-member) ∙ ap (λ (a : Address). is_err (w.search a key)) its-place ∙ ap is_err e

      hits-said : (asks : Ask) (hits : ℕ) → IsOwnSearch (Some key) asks
          → IsWorlds w its_address (t.made held.parts.session) (asked asks) (look.Hits hits) → w.search its_address key ≡ Ok hits
      hits-said (ask.Search name own) hits so worlds = ap (λ (k : SetKey). w.search its_address k) (sym so) ∙ worlds
      hits-said (ask.Present name first count syntax element) hits so worlds = absurd so
      hits-said (ask.Scan dbs scan) hits so worlds = absurd so

      refusal-said : (asks : Ask) (diag : Diag) → IsOwnSearch (Some key) asks
          → IsWorlds w its_address (t.made held.parts.session) (asked asks) (look.Refused diag) → w.search its_address key ≡ Err diag
      refusal-said (ask.Search name own) diag so worlds = ap (λ (k : SetKey). w.search its_address k) (sym so) ∙ worlds
      refusal-said (ask.Present name first count syntax element) diag so worlds = absurd so
      refusal-said (ask.Scan dbs scan) diag so worlds = absurd so

      -- hits are recorded
      pub found-out : (hits : ℕ) (session : S) → IsLook w t held.parts.session session (look.Hits hits)
          → IsOutWith w route who (members_of route who.class) now (use_now who now (Some key) ∷ before) held.seat
          (record { session = session; table = after_record slot key hits now table; address = held.parts.address }) pool.sessions
      found-out hits session l =
          let worlds = subst (λ (x : Pending). IsWorlds w its_address (t.made held.parts.session) x (look.Hits hits)) is.awaits.waits
          (l.worlds is-told) in
          let good : is_refused w route who key ≡ false = refuses-as (Ok hits) (hits-said is.awaits.asks hits is.awaits.is_so worlds) in
          out-with w route who now before _ held.seat held.parts session (after_record slot key hits now table) pool.sessions is.session.out
          (recorded w route who now before table slot hits key is.session.out.holds is.session.lacks good is.free)

      -- and a refusal is not
      pub refused-out : (diag : Diag) (session : S) → IsLook w t held.parts.session session (look.Refused diag)
          → IsOutWith w route who (members_of route who.class) now (use_now who now (Some key) ∷ before) held.seat
          (record { session = session; table = table; address = held.parts.address }) pool.sessions
      refused-out diag session l =
          let worlds = subst (λ (x : Pending). IsWorlds w its_address (t.made held.parts.session) x (look.Refused diag)) is.awaits.waits
          (l.worlds is-told) in
          let bad : is_refused w route who key ≡ true = refuses-as (Err diag) (refusal-said is.awaits.asks diag is.awaits.is_so worlds) in
          out-with w route who now before _ held.seat held.parts session table pool.sessions is.session.out
          (refused_again w route who now before table key is.session.out.holds bad)

  -- ---- the scan

  pub scanned-out : (held : Held S) (session : S) (pool : Pool S) → IsOutBehind w route who now before held pool
      → IsOutWith w route who (members_of route who.class) now (use_now who now None ∷ before) held.seat
      (record { session = session; table = held.parts.table; address = held.parts.address }) pool.sessions
  scanned-out held session pool out =
      out-with w route who now before _ held.seat held.parts session held.parts.table pool.sessions out
      (scanned w route who now before held.parts.table out.holds)
