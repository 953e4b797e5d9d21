-- One deed of a leg that shares the session of its class, where nothing goes wrong
use Rattle.std.proofs.Common.{◌≡◌, ◌∙◌, ℕ, ◌++◌, true, inl, List, [], Option, None, Some, is_some, refl, sym, ap, subst}
use Rattle.z_types.specs.Pending.{Pending, asked}
use Rattle.z_types.specs.Pending as pending
use Rattle.z_types.specs.declared.ask.Ask.{Ask}
use Rattle.z_types.specs.declared.ask.Ask.TheVariants as ask
use Rattle.z_types.specs.declared.diagnostic.Diag.{Diag}
use Rattle.z_types.specs.declared.key.SetKey.{SetKey}
use Rattle.z_types.specs.declared.records.Item.{Item}
use Rattle.z_types.specs.declared.scan.ScanAnswer.{ScanAnswer}
use Rattle.z_types.specs.declared.sitting.Sitting as sitting
use Rattle.z_types.specs.declared.world.World as world
use Rattle.route_config.specs.Sound.{IsSound}
use Rattle.route_config.specs.declared.route.Route.{Route}
use Rattle.gw_outside.specs.Sessions.{Fits, is_search}
use Rattle.gw_outside.specs.declared.backends.Began.{Began}
use Rattle.gw_outside.specs.declared.backends.Began.TheVariants as start
use Rattle.gw_outside.specs.declared.backends.Heard.{Heard}
use Rattle.gw_outside.specs.declared.backends.Heard.TheVariants as look
use Rattle.gw_outside.specs.declared.backends.Opening.{Opening}
use Rattle.gw_outside.specs.declared.backends.Opening.TheVariants as opening
use Rattle.pool_sets.specs.Doors.{HasWanted, LacksWanted, TakenFits, Takes}
use Rattle.pool_sets.specs.Plain.{Pool, put}
use Rattle.pool_sets.specs.Table.{Entry, after_record, empty_table}
use Rattle.pool_sets.specs.declared.doors.Seat.{Seat}
use Rattle.pool_sets.specs.declared.doors.Taken.{Taken}
use Rattle.pool_sets.specs.declared.doors.Taken.TheVariants as taken
use Rattle.leg.specs.Accounts.{more}
use Rattle.leg.specs.Deeds.{Deed, took, opened, began, heard, put_back, gave_up, redialled, no_memory, nothing, rises_of}
use Rattle.leg.specs.Kept.{one_if}
use Rattle.leg.specs.Phases.{hold, replied, with_session, with_sets}
use Rattle.leg.specs.Rules.{after_first, after_next, after_open, after_opened, after_present, after_scan, after_search, after_take, first_ask, next, next_ask, stopped}
use Rattle.leg.specs.Tasks.{want_of}
use Rattle.leg.specs.Terms.{Terms, members_of}
use Rattle.leg.specs.Turns.{IsAsked, IsAskedIf, IsDue, IsLook, PoolMoves}
use Rattle.leg.specs.declared.answers.LegAnswer.{LegAnswer}
use Rattle.leg.specs.declared.answers.LegAnswer.TheVariants as answer
use Rattle.leg.specs.declared.phases.Held.{Held}
use Rattle.leg.specs.declared.phases.Phase.{Phase}
use Rattle.leg.specs.declared.phases.Phase.TheVariants.{Begin, Dialling, Dialled, Ready, Searching, Presenting, Fetching, Scanning, Returning, Losing, Redialling, Spoiled, Done, Ended}
use Rattle.leg.specs.declared.tasks.Task.{Task}
use Rattle.leg.specs.declared.tasks.Task.TheVariants.{Hits, Records, Scan}
use Rattle.sharing_rules.specs.Sharers.{Sharers}
use Rattle.sharing_rules.specs.Uses.{Use}
use Rattle.sharing_rules.specs.steps.Shared.{dial_due, search_due}
use Rattle.leg_shares.specs.steps.Pools.{IsPoolOf, LeavesRest, MayUse}
use Rattle.leg_shares.specs.steps.Sharing.{AreOthersKept, IsBeforeUse, IsInSearch, IsKeptBehind, IsOwnPresent, IsOwnSearch, IsScan, IsToDial, IsUsed, StandsBy, dials_by, searches_by, with_use}
use Rattle.leg_shares.proofs.MemberLemmas.{opened-among, opened-inside}
use Rattle.leg_shares.proofs.PhaseLemmas.{IsBehindUse, found-out, is-sent, items-behind, out-with, refused-out, returns-behind, scanned-out, set-behind}
use Rattle.leg_shares.proofs.PoolLemmas.{given-so, put-kept, put-leaves, put-of}

-- a deed that had memory, and of which no call failed, no look was in vain and no set was gone
abbrev pub IsFine : {S : Type 0} → Deed S → Type 0
IsFine (took taken.Memory) = ⊥
IsFine (opened (opening.Failed linked)) = ⊥
IsFine (opened opening.Memory) = ⊥
IsFine (began asks start.Failed session) = ⊥
IsFine (began asks start.Memory session) = ⊥
IsFine (heard look.NotYet session) = ⊥
IsFine (heard look.Gone session) = ⊥
IsFine (heard look.Failed session) = ⊥
IsFine (heard look.Memory session) = ⊥
IsFine no_memory = ⊥
IsFine deed = Unit {0}

-- ---- what is heard then

module _ {S : Type 0} (P : Heard → Type 0) (session : S) where
  reply-to-init : P look.Opened → (reply : Heard) → IsFine (heard reply session) → Fits pending.opening reply → P reply
  reply-to-init p look.Opened fine fits = p
  reply-to-init p (look.Hits hits) fine fits = absurd fits
  reply-to-init p (look.Refused diag) fine fits = absurd fits
  reply-to-init p (look.Items items) fine fits = absurd fits
  reply-to-init p look.Gone fine fits = absurd fine
  reply-to-init p (look.Scanned entries) fine fits = absurd fits
  reply-to-init p look.NotYet fine fits = absurd fine
  reply-to-init p look.Failed fine fits = absurd fine
  reply-to-init p look.Memory fine fits = absurd fine

  module _ (refused : (diag : Diag) → P (look.Refused diag)) where
    reply-to-search : ((hits : ℕ) → P (look.Hits hits)) → (key : SetKey) (asks : Ask) (reply : Heard) → IsOwnSearch (Some key) asks
        → IsFine (heard reply session) → Fits (asked asks) reply → P reply
    reply-to-search found key (ask.Search name own) look.Opened so fine fits = absurd fits
    reply-to-search found key (ask.Search name own) (look.Hits hits) so fine fits = found hits
    reply-to-search found key (ask.Search name own) (look.Refused diag) so fine fits = refused diag
    reply-to-search found key (ask.Search name own) (look.Items items) so fine fits = absurd fits
    reply-to-search found key (ask.Search name own) look.Gone so fine fits = absurd fine
    reply-to-search found key (ask.Search name own) (look.Scanned entries) so fine fits = absurd fits
    reply-to-search found key (ask.Search name own) look.NotYet so fine fits = absurd fine
    reply-to-search found key (ask.Search name own) look.Failed so fine fits = absurd fine
    reply-to-search found key (ask.Search name own) look.Memory so fine fits = absurd fine
    reply-to-search found key (ask.Present name first count syntax element) reply so fine fits = absurd so
    reply-to-search found key (ask.Scan dbs scan) reply so fine fits = absurd so

    reply-to-present : ((items : List Item) → P (look.Items items)) → (task : Task) (asks : Ask) (reply : Heard) → IsOwnPresent task asks
        → IsFine (heard reply session) → Fits (asked asks) reply → P reply
    reply-to-present given (Hits key) asks reply so fine fits = absurd so
    reply-to-present given (Scan scan) asks reply so fine fits = absurd so
    reply-to-present given (Records key first count syntax element) (ask.Search name own) reply so fine fits = absurd so
    reply-to-present given (Records key first count syntax element) (ask.Scan dbs scan) reply so fine fits = absurd so
    reply-to-present given (Records key first count syntax element) (ask.Present name from most form set) look.Opened so fine fits = absurd fits
    reply-to-present given (Records key first count syntax element) (ask.Present name from most form set) (look.Hits hits) so fine fits = absurd fits
    reply-to-present given (Records key first count syntax element) (ask.Present name from most form set) (look.Refused diag) so fine fits = refused diag
    reply-to-present given (Records key first count syntax element) (ask.Present name from most form set) (look.Items items) so fine fits = given items
    reply-to-present given (Records key first count syntax element) (ask.Present name from most form set) look.Gone so fine fits = absurd fine
    reply-to-present given (Records key first count syntax element) (ask.Present name from most form set) (look.Scanned entries) so fine fits = absurd fits
    reply-to-present given (Records key first count syntax element) (ask.Present name from most form set) look.NotYet so fine fits = absurd fine
    reply-to-present given (Records key first count syntax element) (ask.Present name from most form set) look.Failed so fine fits = absurd fine
    reply-to-present given (Records key first count syntax element) (ask.Present name from most form set) look.Memory so fine fits = absurd fine

    reply-to-scan : ((entries : ScanAnswer) → P (look.Scanned entries)) → (asks : Ask) (reply : Heard) → IsScan asks
        → IsFine (heard reply session) → Fits (asked asks) reply → P reply
    reply-to-scan given (ask.Search name own) reply so fine fits = absurd so
    reply-to-scan given (ask.Present name first count syntax element) reply so fine fits = absurd so
    reply-to-scan given (ask.Scan dbs scan) look.Opened so fine fits = absurd fits
    reply-to-scan given (ask.Scan dbs scan) (look.Hits hits) so fine fits = absurd fits
    reply-to-scan given (ask.Scan dbs scan) (look.Refused diag) so fine fits = refused diag
    reply-to-scan given (ask.Scan dbs scan) (look.Items items) so fine fits = absurd fits
    reply-to-scan given (ask.Scan dbs scan) look.Gone so fine fits = absurd fine
    reply-to-scan given (ask.Scan dbs scan) (look.Scanned entries) so fine fits = given entries
    reply-to-scan given (ask.Scan dbs scan) look.NotYet so fine fits = absurd fine
    reply-to-scan given (ask.Scan dbs scan) look.Failed so fine fits = absurd fine
    reply-to-scan given (ask.Scan dbs scan) look.Memory so fine fits = absurd fine

-- ---- what is wanted

is-wanted : (want : Option SetKey) (entries : List Entry) (slot hits : ℕ) → HasWanted want entries slot hits → is_some want ≡ true
is-wanted None entries slot hits has = absurd has
is-wanted (Some key) entries slot hits has = refl

empty-lacks : (want : Option SetKey) (most : ℕ) → LacksWanted want (empty_table most)
empty-lacks None most = tt
empty-lacks (Some key) most = refl

-- ---- one deed

module _ {W S : Type 0} (w : world.Ghosts W) (t : sitting.Ghosts S W) (route : Route) (who : Sharers) (now : ℕ) (before : List Use)
    (dbs : List (List ℕ)) (most gones : ℕ) where
  abbrev terms : Terms
  terms = record { class = who.class; login = who.login; at = members_of route who.class; dbs = dbs; pool = route.pool }

  module _ (task : Task) (p : Pool S) (behind : Option (Pool S)) where
    -- it leads on, and its account rises by what the use needs
    pub record GoesSo (deed : Deed S) (old new : Phase S) : Type 0 where
      pub pool : Pool S
      pub told : behind ≡ Some pool
      pub of : IsPoolOf route pool
      pub stands : StandsBy w t route who now before task new pool
      pub dials : more (rises_of (want_of task) deed).dials (dials_by route who now before old) ≡ dials_by route who now before new
      pub searches : more (rises_of (want_of task) deed).searches (searches_by w route who now before (want_of task) old)
          ≡ searches_by w route who now before (want_of task) new
      pub others : LeavesRest route who now p pool

    -- the door is not called
    abbrev dials_so : Deed S → (old new : Phase S) → Type 0
    dials_so deed old new =
        more (rises_of (want_of task) deed).dials (dials_by route who now before old) ≡ dials_by route who now before new

    abbrev searches_so : Deed S → (old new : Phase S) → Type 0
    searches_so deed old new =
        more (rises_of (want_of task) deed).searches (searches_by w route who now before (want_of task) old)
        ≡ searches_by w route who now before (want_of task) new

    stays : (deed : Deed S) (old new : Phase S) → IsPoolOf route p → behind ≡ Some p → StandsBy w t route who now before task new p
        → dials_so deed old new → searches_so deed old new → GoesSo deed old new
    stays deed old new of k stands dials searches = record {
      pool = p;
      told = k;
      of = of;
      stands = stands;
      dials = dials;
      searches = searches;
      others = λ other apart. inl refl;
    }

    -- behind the use nothing more is dialled or searched for
    stays-used : (deed : Deed S) (old new : Phase S) → IsPoolOf route p → behind ≡ Some p → IsBehindUse w t route who now before task new p
        → more (rises_of (want_of task) deed).dials (dials_by route who now before old) ≡ one_if (dial_due route who now before)
        → more (rises_of (want_of task) deed).searches (searches_by w route who now before (want_of task) old)
        ≡ one_if (search_due w route who now before (want_of task))
        → GoesSo deed old new
    stays-used deed old new of k used dials searches =
        stays deed old new of k used.stands (dials ∙ sym used.dials) (searches ∙ sym used.searches)

  -- ---- a session is taken

  take-goes : (task : Task) → MayUse w route who now before (want_of task) → (p : Pool S) → IsPoolOf route p → (behind : Option (Pool S))
      → IsKeptBehind w route who now before p → AreOthersKept w route who now before p → (gives : Taken S)
      → TakenFits w t who.class (members_of route who.class) who.login (want_of task) most gives
      → IsFine (took gives) → Takes (Some p) behind who.class (members_of route who.class) who.login (want_of task) now gives
      → GoesSo task p behind (took gives) Begin (after_take task gives)
  take-goes task may p of behind kept rest (taken.Reuse seat parts slot hits) fits fine k =
      let g = given-so w route who now before (want_of task) may p of kept rest (taken.Reuse seat parts slot hits) behind tt k in
      let used = set-behind w t route who now before task (hold seat parts true) [] slot hits g.pool
      (is-wanted (want_of task) parts.table.entries slot hits fits.1) g.so.0 in
      record {
        pool = g.pool;
        told = g.told;
        of = g.of_route;
        stands = used.stands;
        dials = sym (used.dials ∙ ap one_if g.so.2);
        searches = sym (used.searches ∙ ap one_if g.so.1);
        others = g.others;
      }
  take-goes task may p of behind kept rest (taken.Fresh seat parts) fits fine k =
      let g = given-so w route who now before (want_of task) may p of kept rest (taken.Fresh seat parts) behind tt k in
      record {
        pool = g.pool;
        told = g.told;
        of = g.of_route;
        stands = record { out = g.so.0; address = fits.0.kept.same_address; lacks = fits.1; search = g.so.1 };
        dials = sym (ap one_if g.so.2);
        searches = refl;
        others = g.others;
      }
  take-goes task may p of behind kept rest (taken.Dial seat member) fits fine k =
      let g = given-so w route who now before (want_of task) may p of kept rest (taken.Dial seat member) behind tt k in
      record {
        pool = g.pool;
        told = g.told;
        of = g.of_route;
        stands = record { own = g.so.0; out = g.so.1; place = fits.1; holds = g.so.2; dial = g.so.4; search = g.so.3 };
        dials = refl;
        searches = refl;
        others = g.others;
      }
  take-goes task may p of behind kept rest (taken.Full open_) fits fine k =
      absurd (given-so w route who now before (want_of task) may p of kept rest (taken.Full open_) behind tt k).so
  take-goes task may p of behind kept rest taken.Memory fits fine k = absurd fine

  -- ---- it is opened

  open-goes : (task : Task) → IsSound route → (p : Pool S) → IsPoolOf route p → (behind : Option (Pool S)) (seat : Seat) (member : ℕ)
      → IsToDial w route who now before (want_of task) seat member p → (made : Opening S)
      → IsDue w t terms most task (Dialling seat member) (opened made) → IsFine (opened made) → behind ≡ Some p
      → GoesSo task p behind (opened made) (Dialling seat member) (after_open terms seat member made)
  open-goes task sound p of behind seat member is (opening.Session session) d fine k =
      stays task p behind (opened (opening.Session session)) (Dialling seat member) (after_open terms seat member (opening.Session session)) of k (
        record {
          out = record {
            own = is.own;
            out = is.out;
            among = opened-among route who member sound is.place;
            inside_ = opened-inside route who member sound is.place;
            holds = is.holds;
          };
          address = d.same_address;
          lacks = empty-lacks (want_of task) route.pool.sets_max;
          search = is.search;
        },
        d.pending,
      )
      (sym (ap one_if is.dial)) refl
  open-goes task sound p of behind seat member is (opening.Failed linked) d fine k = absurd fine
  open-goes task sound p of behind seat member is opening.Memory d fine k = absurd fine

  opened-goes : (task : Task) (p : Pool S) → IsPoolOf route p → (behind : Option (Pool S)) (held : Held S) (looks : ℕ)
      → StandsBy w t route who now before task (Dialled held looks) p → (reply : Heard) (session : S)
      → IsLook w t held.parts.session session reply → IsFine (heard reply session) → behind ≡ Some p
      → GoesSo task p behind (heard reply session) (Dialled held looks) (after_opened route.pool.patience held looks reply session)
  opened-goes task p of behind held looks is reply session l fine k =
      reply-to-init
      (λ (r : Heard). GoesSo task p behind (heard r session) (Dialled held looks) (after_opened route.pool.patience held looks r session)) session
      (stays task p behind (heard look.Opened session) (Dialled held looks) (Ready (replied session held) []) of k
      (record {
        out = out-with w route who now before before held.seat held.parts session held.parts.table p.sessions is.0.out is.0.out.holds;
        address = l.address ∙ is.0.address;
        lacks = is.0.lacks;
        search = is.0.search;
      }) refl refl)
      reply fine (subst (λ (x : Pending). Fits x reply) is.1 l.fits)

  -- ---- it is asked

  first-goes : (task : Task) → MayUse w route who now before (want_of task) → (p : Pool S) → IsPoolOf route p → (behind : Option (Pool S))
      (held : Held S) (items : List Item) → IsBeforeUse w t route who now before (want_of task) held p → (asks : Ask) (reply : Began) (session : S)
      → IsAsked w t (first_ask dbs task held) asks held.parts.session session reply → IsFine (began asks reply session) → behind ≡ Some p
      → GoesSo task p behind (began asks reply session) (Ready held items) (after_first task held items reply session)
  first-goes (Hits key) may p of behind held items is asks start.Started session d fine k =
      stays (Hits key) p behind (began asks start.Started session) (Ready held items) (after_first (Hits key) held items start.Started session) of k
      (is-sent w t route who now before key may held p asks session is d) refl
      (ap (λ (a : Ask). more (is_search a) 0) d.asks ∙ sym (ap one_if is.search))
  first-goes (Records key first count syntax element) may p of behind held items is asks start.Started session d fine k =
      stays (Records key first count syntax element) p behind (began asks start.Started session) (Ready held items)
      (after_first (Records key first count syntax element) held items start.Started session) of k
      (is-sent w t route who now before key may held p asks session is d) refl
      (ap (λ (a : Ask). more (is_search a) 0) d.asks ∙ sym (ap one_if is.search))
  first-goes (Scan scan) may p of behind held items is asks start.Started session d fine k =
      stays (Scan scan) p behind (began asks start.Started session) (Ready held items) (Scanning (with_session session held) 0) of k (
        scanned-out w t route who now before held session p is.out,
        record { asks = asks; waits = d.waits; is_so = subst (λ (a : Ask). IsScan a) (sym d.asks) tt },
      ) refl (ap (λ (a : Ask). more (is_search a) 0) d.asks)
  first-goes task may p of behind held items is asks start.Failed session d fine k = absurd fine
  first-goes task may p of behind held items is asks start.Memory session d fine k = absurd fine

  -- the set is heard of
  search-goes : (task : Task) → MayUse w route who now before (want_of task) → (p : Pool S) → IsPoolOf route p → (behind : Option (Pool S))
      (held : Held S) (items : List Item) (slot looks : ℕ) → IsInSearch w t route who now before (want_of task) held slot p
      → (reply : Heard) (session : S) → IsLook w t held.parts.session session reply → IsFine (heard reply session) → behind ≡ Some p
      → GoesSo task p behind (heard reply session) (Searching held items slot looks) (after_search terms task now held items slot looks reply session)
  search-goes (Hits key) may p of behind held items slot looks is reply session l fine k =
      reply-to-search
      (λ (r : Heard). IsLook w t held.parts.session session r → GoesSo (Hits key) p behind (heard r session) (Searching held items slot looks) (after_search terms (Hits key) now held items slot looks r session))
      session
      (λ diag seen.
      stays-used (Hits key) p behind (heard (look.Refused diag) session) (Searching held items slot looks) (Returning (replied session held) (answer.Refused diag)) of k
      (returns-behind w t route who now before (Hits key) (replied session held) (answer.Refused diag) p
      (refused-out w t route who now before key may held p slot is diag session seen)) refl refl)
      (λ hits seen.
      stays-used (Hits key) p behind (heard (look.Hits hits) session) (Searching held items slot looks)
      (after_search terms (Hits key) now held items slot looks (look.Hits hits) session) of k
      (set-behind w t route who now before (Hits key) (with_sets (after_record slot key hits now held.parts.table) (replied session held)) items slot hits p refl
      (found-out w t route who now before key may held p slot is hits session seen)) refl refl)
      key is.awaits.asks reply is.awaits.is_so fine (subst (λ (x : Pending). Fits x reply) is.awaits.waits l.fits) l
  search-goes (Records key first count syntax element) may p of behind held items slot looks is reply session l fine k =
      let task = Records key first count syntax element in
      reply-to-search
      (λ (r : Heard). IsLook w t held.parts.session session r → GoesSo task p behind (heard r session) (Searching held items slot looks) (after_search terms task now held items slot looks r session))
      session
      (λ diag seen.
      stays-used task p behind (heard (look.Refused diag) session) (Searching held items slot looks) (Returning (replied session held) (answer.Refused diag)) of k
      (returns-behind w t route who now before task (replied session held) (answer.Refused diag) p
      (refused-out w t route who now before key may held p slot is diag session seen)) refl refl)
      (λ hits seen.
      stays-used task p behind (heard (look.Hits hits) session) (Searching held items slot looks)
      (after_search terms task now held items slot looks (look.Hits hits) session) of k
      (set-behind w t route who now before task (with_sets (after_record slot key hits now held.parts.table) (replied session held)) items slot hits p refl
      (found-out w t route who now before key may held p slot is hits session seen)) refl refl)
      key is.awaits.asks reply is.awaits.is_so fine (subst (λ (x : Pending). Fits x reply) is.awaits.waits l.fits) l
  search-goes (Scan scan) may p of behind held items slot looks is reply session l fine k = absurd is.awaits.is_so

  -- records are asked for
  next-goes : (task : Task) (p : Pool S) → IsPoolOf route p → (behind : Option (Pool S)) (held : Held S) (items : List Item) (slot hits : ℕ)
      → IsUsed w t route who now before task held p → (asks : Ask) (reply : Began) (session : S)
      → IsAskedIf w t (next_ask task items slot) asks held.parts.session session reply → IsFine (began asks reply session) → behind ≡ Some p
      → GoesSo task p behind (began asks reply session) (Presenting held items slot hits) (after_next held items slot hits reply session)
  next-goes (Hits key) p of behind held items slot hits is asks reply session d fine k = absurd d
  next-goes (Scan scan) p of behind held items slot hits is asks reply session d fine k = absurd d
  next-goes (Records key first count syntax element) p of behind held items slot hits is asks start.Started session d fine k =
      let task = Records key first count syntax element in
      stays task p behind (began asks start.Started session) (Presenting held items slot hits) (Fetching (with_session session held) items slot hits 0) of k (
        out-with w route who now (with_use who now before task) (with_use who now before task) held.seat held.parts session held.parts.table p.sessions is is.holds,
        record { asks = asks; waits = d.waits; is_so = subst (λ (a : Ask). IsOwnPresent task a) (sym d.asks) tt },
      )
      refl (ap (λ (a : Ask). more (is_search a) (one_if (search_due w route who now before (Some key)))) d.asks)
  next-goes task p of behind held items slot hits is asks start.Failed session d fine k = absurd fine
  next-goes task p of behind held items slot hits is asks start.Memory session d fine k = absurd fine

  -- a session that is used goes on
  used-still : (task : Task) (p : Pool S) (held : Held S) (session : S) → IsUsed w t route who now before task held p
      → IsUsed w t route who now before task (replied session held) p
  used-still task p held session is =
      out-with w route who now (with_use who now before task) (with_use who now before task) held.seat held.parts session held.parts.table p.sessions
      is is.holds

  fetch-goes : (task : Task) (p : Pool S) → IsPoolOf route p → (behind : Option (Pool S)) (held : Held S) (items : List Item) (slot hits looks : ℕ)
      → StandsBy w t route who now before task (Fetching held items slot hits looks) p → (reply : Heard) (session : S)
      → IsLook w t held.parts.session session reply → IsFine (heard reply session) → behind ≡ Some p
      → GoesSo task p behind (heard reply session) (Fetching held items slot hits looks)
      (after_present terms task gones held items slot hits looks reply session)
  fetch-goes task p of behind held items slot hits looks is reply session l fine k =
      reply-to-present
      (λ (r : Heard). GoesSo task p behind (heard r session) (Fetching held items slot hits looks) (after_present terms task gones held items slot hits looks r session))
      session
      (λ diag.
      stays-used task p behind (heard (look.Refused diag) session) (Fetching held items slot hits looks) (Returning (replied session held) (stopped items diag)) of k
      (returns-behind w t route who now before task (replied session held) (stopped items diag) p (used-still task p held session is.0)) refl refl)
      (λ others.
      stays-used task p behind (heard (look.Items others) session) (Fetching held items slot hits looks)
      (after_present terms task gones held items slot hits looks (look.Items others) session) of k
      (items-behind w t route who now before task (replied session held) (items ++ others) slot hits is.1.asks p is.1.is_so (used-still task p held session is.0))
      refl refl)
      task is.1.asks reply is.1.is_so fine (subst (λ (x : Pending). Fits x reply) is.1.waits l.fits)

  scan-goes : (task : Task) (p : Pool S) → IsPoolOf route p → (behind : Option (Pool S)) (held : Held S) (looks : ℕ)
      → StandsBy w t route who now before task (Scanning held looks) p → (reply : Heard) (session : S)
      → IsLook w t held.parts.session session reply → IsFine (heard reply session) → behind ≡ Some p
      → GoesSo task p behind (heard reply session) (Scanning held looks) (after_scan route.pool.patience held looks reply session)
  scan-goes task p of behind held looks is reply session l fine k =
      reply-to-scan
      (λ (r : Heard). GoesSo task p behind (heard r session) (Scanning held looks) (after_scan route.pool.patience held looks r session))
      session
      (λ diag.
      stays-used task p behind (heard (look.Refused diag) session) (Scanning held looks) (Returning (replied session held) (answer.Refused diag)) of k
      (returns-behind w t route who now before task (replied session held) (answer.Refused diag) p (used-still task p held session is.0)) refl refl)
      (λ entries.
      stays-used task p behind (heard (look.Scanned entries) session) (Scanning held looks) (Returning (replied session held) (answer.Scanned entries)) of k
      (returns-behind w t route who now before task (replied session held) (answer.Scanned entries) p (used-still task p held session is.0)) refl refl)
      is.1.asks reply is.1.is_so fine (subst (λ (x : Pending). Fits x reply) is.1.waits l.fits)

  -- ---- it is put back

  put-goes : (task : Task) (p : Pool S) → IsPoolOf route p → (behind : Option (Pool S)) (held : Held S) (own : LegAnswer)
      → IsUsed w t route who now before task held p → behind ≡ Some (put held.seat held.parts now p)
      → GoesSo task p behind put_back (Returning held own) (Done own)
  put-goes task p of behind held own is k = record {
    pool = put held.seat held.parts now p;
    told = k;
    of = put-of route now held.seat held.parts p of;
    stands = put-kept route now held.seat held.parts w who before (want_of task) p of is;
    dials = refl;
    searches = refl;
    others = put-leaves route now held.seat held.parts w who before (want_of task) p of is;
  }

  -- ---- each phase

  pub deed-goes : (task : Task) → MayUse w route who now before (want_of task) → (p : Pool S) → AreOthersKept w route who now before p → IsPoolOf route p → (behind : Option (Pool S))
      (old : Phase S) (deed : Deed S) → IsDue w t terms most task old deed → IsFine deed → StandsBy w t route who now before task old p
      → PoolMoves terms task now old deed (Some p) behind → GoesSo task p behind deed old (next terms task now gones old deed)
  deed-goes task may p rest of behind Begin (took gives) d fine is k = take-goes task may p of behind is rest gives d fine k
  deed-goes task may p rest of behind Begin (opened made) d fine is k = absurd d
  deed-goes task may p rest of behind Begin (began asks reply session) d fine is k = absurd d
  deed-goes task may p rest of behind Begin (heard reply session) d fine is k = absurd d
  deed-goes task may p rest of behind Begin put_back d fine is k = absurd d
  deed-goes task may p rest of behind Begin gave_up d fine is k = absurd d
  deed-goes task may p rest of behind Begin (redialled member_) d fine is k = absurd d
  deed-goes task may p rest of behind Begin no_memory d fine is k = absurd d
  deed-goes task may p rest of behind Begin nothing d fine is k = absurd d
  deed-goes task may p rest of behind (Dialling seat member) (took gives) d fine is k = absurd d
  deed-goes task may p rest of behind (Dialling seat member) (opened made) d fine is k = open-goes task may.sound p of behind seat member is made d fine k
  deed-goes task may p rest of behind (Dialling seat member) (began asks reply session) d fine is k = absurd d
  deed-goes task may p rest of behind (Dialling seat member) (heard reply session) d fine is k = absurd d
  deed-goes task may p rest of behind (Dialling seat member) put_back d fine is k = absurd d
  deed-goes task may p rest of behind (Dialling seat member) gave_up d fine is k = absurd d
  deed-goes task may p rest of behind (Dialling seat member) (redialled member_) d fine is k = absurd d
  deed-goes task may p rest of behind (Dialling seat member) no_memory d fine is k = absurd fine
  deed-goes task may p rest of behind (Dialling seat member) nothing d fine is k = absurd d
  deed-goes task may p rest of behind (Dialled held looks) (took gives) d fine is k = absurd d
  deed-goes task may p rest of behind (Dialled held looks) (opened made) d fine is k = absurd d
  deed-goes task may p rest of behind (Dialled held looks) (began asks reply session) d fine is k = absurd d
  deed-goes task may p rest of behind (Dialled held looks) (heard reply session) d fine is k = opened-goes task p of behind held looks is reply session d fine k
  deed-goes task may p rest of behind (Dialled held looks) put_back d fine is k = absurd d
  deed-goes task may p rest of behind (Dialled held looks) gave_up d fine is k = absurd d
  deed-goes task may p rest of behind (Dialled held looks) (redialled member_) d fine is k = absurd d
  deed-goes task may p rest of behind (Dialled held looks) no_memory d fine is k = absurd d
  deed-goes task may p rest of behind (Dialled held looks) nothing d fine is k = absurd d
  deed-goes task may p rest of behind (Ready held items) (took gives) d fine is k = absurd d
  deed-goes task may p rest of behind (Ready held items) (opened made) d fine is k = absurd d
  deed-goes task may p rest of behind (Ready held items) (began asks reply session) d fine is k = first-goes task may p of behind held items is asks reply session d fine k
  deed-goes task may p rest of behind (Ready held items) (heard reply session) d fine is k = absurd d
  deed-goes task may p rest of behind (Ready held items) put_back d fine is k = absurd d
  deed-goes task may p rest of behind (Ready held items) gave_up d fine is k = absurd d
  deed-goes task may p rest of behind (Ready held items) (redialled member_) d fine is k = absurd d
  deed-goes task may p rest of behind (Ready held items) no_memory d fine is k = absurd fine
  deed-goes task may p rest of behind (Ready held items) nothing d fine is k = absurd d
  deed-goes task may p rest of behind (Searching held items slot looks) (took gives) d fine is k = absurd d
  deed-goes task may p rest of behind (Searching held items slot looks) (opened made) d fine is k = absurd d
  deed-goes task may p rest of behind (Searching held items slot looks) (began asks reply session) d fine is k = absurd d
  deed-goes task may p rest of behind (Searching held items slot looks) (heard reply session) d fine is k = search-goes task may p of behind held items slot looks is reply session d fine k
  deed-goes task may p rest of behind (Searching held items slot looks) put_back d fine is k = absurd d
  deed-goes task may p rest of behind (Searching held items slot looks) gave_up d fine is k = absurd d
  deed-goes task may p rest of behind (Searching held items slot looks) (redialled member_) d fine is k = absurd d
  deed-goes task may p rest of behind (Searching held items slot looks) no_memory d fine is k = absurd d
  deed-goes task may p rest of behind (Searching held items slot looks) nothing d fine is k = absurd d
  deed-goes task may p rest of behind (Presenting held items slot hits) (took gives) d fine is k = absurd d
  deed-goes task may p rest of behind (Presenting held items slot hits) (opened made) d fine is k = absurd d
  deed-goes task may p rest of behind (Presenting held items slot hits) (began asks reply session) d fine is k = next-goes task p of behind held items slot hits is asks reply session d fine k
  deed-goes task may p rest of behind (Presenting held items slot hits) (heard reply session) d fine is k = absurd d
  deed-goes task may p rest of behind (Presenting held items slot hits) put_back d fine is k = absurd d
  deed-goes task may p rest of behind (Presenting held items slot hits) gave_up d fine is k = absurd d
  deed-goes task may p rest of behind (Presenting held items slot hits) (redialled member_) d fine is k = absurd d
  deed-goes task may p rest of behind (Presenting held items slot hits) no_memory d fine is k = absurd fine
  deed-goes task may p rest of behind (Presenting held items slot hits) nothing d fine is k = absurd d
  deed-goes task may p rest of behind (Fetching held items slot hits looks) (took gives) d fine is k = absurd d
  deed-goes task may p rest of behind (Fetching held items slot hits looks) (opened made) d fine is k = absurd d
  deed-goes task may p rest of behind (Fetching held items slot hits looks) (began asks reply session) d fine is k = absurd d
  deed-goes task may p rest of behind (Fetching held items slot hits looks) (heard reply session) d fine is k = fetch-goes task p of behind held items slot hits looks is reply session d fine k
  deed-goes task may p rest of behind (Fetching held items slot hits looks) put_back d fine is k = absurd d
  deed-goes task may p rest of behind (Fetching held items slot hits looks) gave_up d fine is k = absurd d
  deed-goes task may p rest of behind (Fetching held items slot hits looks) (redialled member_) d fine is k = absurd d
  deed-goes task may p rest of behind (Fetching held items slot hits looks) no_memory d fine is k = absurd d
  deed-goes task may p rest of behind (Fetching held items slot hits looks) nothing d fine is k = absurd d
  deed-goes task may p rest of behind (Scanning held looks) (took gives) d fine is k = absurd d
  deed-goes task may p rest of behind (Scanning held looks) (opened made) d fine is k = absurd d
  deed-goes task may p rest of behind (Scanning held looks) (began asks reply session) d fine is k = absurd d
  deed-goes task may p rest of behind (Scanning held looks) (heard reply session) d fine is k = scan-goes task p of behind held looks is reply session d fine k
  deed-goes task may p rest of behind (Scanning held looks) put_back d fine is k = absurd d
  deed-goes task may p rest of behind (Scanning held looks) gave_up d fine is k = absurd d
  deed-goes task may p rest of behind (Scanning held looks) (redialled member_) d fine is k = absurd d
  deed-goes task may p rest of behind (Scanning held looks) no_memory d fine is k = absurd d
  deed-goes task may p rest of behind (Scanning held looks) nothing d fine is k = absurd d
  deed-goes task may p rest of behind (Returning held own) (took gives) d fine is k = absurd d
  deed-goes task may p rest of behind (Returning held own) (opened made) d fine is k = absurd d
  deed-goes task may p rest of behind (Returning held own) (began asks reply session) d fine is k = absurd d
  deed-goes task may p rest of behind (Returning held own) (heard reply session) d fine is k = absurd d
  deed-goes task may p rest of behind (Returning held own) put_back d fine is k = put-goes task p of behind held own is k
  deed-goes task may p rest of behind (Returning held own) gave_up d fine is k = absurd d
  deed-goes task may p rest of behind (Returning held own) (redialled member_) d fine is k = absurd d
  deed-goes task may p rest of behind (Returning held own) no_memory d fine is k = absurd d
  deed-goes task may p rest of behind (Returning held own) nothing d fine is k = absurd d
  deed-goes task may p rest of behind (Losing seat own) (took gives) d fine is k = absurd is
  deed-goes task may p rest of behind (Losing seat own) (opened made) d fine is k = absurd is
  deed-goes task may p rest of behind (Losing seat own) (began asks reply session) d fine is k = absurd is
  deed-goes task may p rest of behind (Losing seat own) (heard reply session) d fine is k = absurd is
  deed-goes task may p rest of behind (Losing seat own) put_back d fine is k = absurd is
  deed-goes task may p rest of behind (Losing seat own) gave_up d fine is k = absurd is
  deed-goes task may p rest of behind (Losing seat own) (redialled member_) d fine is k = absurd is
  deed-goes task may p rest of behind (Losing seat own) no_memory d fine is k = absurd is
  deed-goes task may p rest of behind (Losing seat own) nothing d fine is k = absurd is
  deed-goes task may p rest of behind (Redialling seat) (took gives) d fine is k = absurd is
  deed-goes task may p rest of behind (Redialling seat) (opened made) d fine is k = absurd is
  deed-goes task may p rest of behind (Redialling seat) (began asks reply session) d fine is k = absurd is
  deed-goes task may p rest of behind (Redialling seat) (heard reply session) d fine is k = absurd is
  deed-goes task may p rest of behind (Redialling seat) put_back d fine is k = absurd is
  deed-goes task may p rest of behind (Redialling seat) gave_up d fine is k = absurd is
  deed-goes task may p rest of behind (Redialling seat) (redialled member_) d fine is k = absurd is
  deed-goes task may p rest of behind (Redialling seat) no_memory d fine is k = absurd is
  deed-goes task may p rest of behind (Redialling seat) nothing d fine is k = absurd is
  deed-goes task may p rest of behind (Spoiled seat) (took gives) d fine is k = absurd is
  deed-goes task may p rest of behind (Spoiled seat) (opened made) d fine is k = absurd is
  deed-goes task may p rest of behind (Spoiled seat) (began asks reply session) d fine is k = absurd is
  deed-goes task may p rest of behind (Spoiled seat) (heard reply session) d fine is k = absurd is
  deed-goes task may p rest of behind (Spoiled seat) put_back d fine is k = absurd is
  deed-goes task may p rest of behind (Spoiled seat) gave_up d fine is k = absurd is
  deed-goes task may p rest of behind (Spoiled seat) (redialled member_) d fine is k = absurd is
  deed-goes task may p rest of behind (Spoiled seat) no_memory d fine is k = absurd is
  deed-goes task may p rest of behind (Spoiled seat) nothing d fine is k = absurd is
  deed-goes task may p rest of behind (Done own) (took gives) d fine is k = absurd d
  deed-goes task may p rest of behind (Done own) (opened made) d fine is k = absurd d
  deed-goes task may p rest of behind (Done own) (began asks reply session) d fine is k = absurd d
  deed-goes task may p rest of behind (Done own) (heard reply session) d fine is k = absurd d
  deed-goes task may p rest of behind (Done own) put_back d fine is k = absurd d
  deed-goes task may p rest of behind (Done own) gave_up d fine is k = absurd d
  deed-goes task may p rest of behind (Done own) (redialled member_) d fine is k = absurd d
  deed-goes task may p rest of behind (Done own) no_memory d fine is k = absurd d
  deed-goes task may p rest of behind (Done own) nothing d fine is k = stays task p behind nothing (Done own) (Done own) of k is refl refl
  deed-goes task may p rest of behind Ended (took gives) d fine is k = absurd is
  deed-goes task may p rest of behind Ended (opened made) d fine is k = absurd is
  deed-goes task may p rest of behind Ended (began asks reply session) d fine is k = absurd is
  deed-goes task may p rest of behind Ended (heard reply session) d fine is k = absurd is
  deed-goes task may p rest of behind Ended put_back d fine is k = absurd is
  deed-goes task may p rest of behind Ended gave_up d fine is k = absurd is
  deed-goes task may p rest of behind Ended (redialled member_) d fine is k = absurd is
  deed-goes task may p rest of behind Ended no_memory d fine is k = absurd is
  deed-goes task may p rest of behind Ended nothing d fine is k = absurd is
