-- the work that waits on a connection, and each set that is kept, have no more legs than the route; along its steps
use Rattle.std.proofs.Common.{◌≡◌, ◌⊎◌, ℕ, ◌≤◌, Bool, List, [], ◌∷◌, length, Option, None, Some, Result, Ok, Err, inl, inr, refl, sym, ap, subst}
use Rattle.std.specs.Prelude.{IfSome, Contains}
use Rattle.std.specs.List.{AllByRecursion}
use Rattle.std.specs.Option.{option_and_then}
use Rattle.std.proofs.lemmas.List.Elements.{All-from_recursion}
use Rattle.z_types.specs.declared.known_set.KnownSet.{KnownSet}
use Rattle.z_types.specs.declared.marks.End.{End}
use Rattle.z_types.specs.declared.marks.End.TheVariants.{Closed}
use Rattle.z_types.specs.declared.memory.Memory.{Memory as NoMemory}
use Rattle.z_types.specs.declared.outcome.Outcome.{Outcome}
use Rattle.z_types.specs.declared.outcome.Outcome.TheVariants as outcome
use Rattle.z_types.specs.declared.requests.Request.{Request}
use Rattle.z_types.specs.declared.sitting.Sitting as sitting
use Rattle.z_types.specs.declared.sru.SruDiag.{SruDiag}
use Rattle.z_types.specs.declared.query.RpnQuery.{RpnQuery}
use Rattle.z_types.specs.declared.work.Work.{Work}
use Rattle.z_types.specs.declared.work.Work.TheVariants as work
use Rattle.z_types.specs.declared.world.World as world
use Rattle.route_config.specs.Lookup.{database_named}
use Rattle.route_config.specs.declared.route.Database.{Database}
use Rattle.route_config.specs.declared.route.Route.{Route}
use Rattle.sru_request.specs.Name.{name_of}
use Rattle.sru_request.specs.declared.faults.HeadFault.{HeadFault}
use Rattle.sru_request.specs.declared.head.Get.{Get}
use Rattle.sru_request.specs.declared.query.SruQuery.{SruQuery}
use Rattle.front_conn_costs.specs.sru_rules.Asking.{rpn_of, open_query}
use Rattle.front_conn_costs.specs.sru_rules.Course.{database_of}
use Rattle.front_conn_costs.specs.sru_rules.Reading.{Reading, refused, taken}
use Rattle.front_conn_costs.specs.sru_rules.Run.{Due, at_once as answers_now, due as due_of, due_by, searches}
use Rattle.front_conn_costs.specs.sru_rules.Settling.{Next, answered, fetches}
use Rattle.front_conn_costs.specs.gateway_rules.Asking.{Asking, asked_with, at_once, works}
use Rattle.front_conn_costs.specs.gateway_rules.Course.{Meeting, bad, beyond, closing, due, met}
use Rattle.front_conn_costs.specs.gateway_rules.Works.{mark_of}
use Rattle.package_quiet.specs.package.steps.Ends.{outcome_in}
use Rattle.package_quiet.specs.package.steps.Packages.{IsPackageOf, PackageView}
use Rattle.package_quiet.specs.leg.declared.answers.Turned.{Turned}
use Rattle.package_quiet.specs.leg.declared.answers.Turned.TheVariants as turned
use Rattle.package_quiet.specs.package_rules.Planned.{legs_named}
use Rattle.front_conn_costs.specs.front_session.Sessions.{SessionState, Waiting, client_of, progress_of}
use Rattle.front_conn_costs.specs.front_session.Admitting.{HasGivenHits, IsFoundSet, hits_named}
use Rattle.front_conn_costs.specs.front_z.Units as z
use Rattle.front_conn_costs.specs.front_z.declared.units.Begun.{Begun}
use Rattle.front_conn_costs.specs.front_z.declared.units.Begun.TheVariants as begun
use Rattle.front_conn_costs.specs.front_http.Heads.{IsHeadBegun}
use Rattle.front_conn_costs.specs.front_sru.Gets as sru
use Rattle.front_conn_costs.specs.front_sru.Kept.{fetching}
use Rattle.front_conn_costs.specs.front_sru.declared.begun.Begun as sru_begun
use Rattle.front_conn_costs.specs.front_sru.declared.begun.Begun.TheVariants as get
use Rattle.front_conn_costs.specs.front_sru.declared.state.SruStage.{SruStage}
use Rattle.front_conn_costs.specs.front_sru.declared.state.SruStage.TheVariants.{Idle, Searching, Fetching}
use Rattle.front_conn_costs.specs.front_conn.declared.stepped.Stepped.{Stepped}
use Rattle.front_conn_costs.specs.front_conn.declared.stepped.Stepped.TheVariants as stepped
use Rattle.front_conn_costs.specs.front_conn.steps.Answering.{AnsweringState, EndsAt, IsAnsweredBy, IsEndAfter, IsGetEnded, IsHeadTaken, IsKeptBehind, IsKeptBehindGet, IsUnitBegun, Outside, WorksOn, get_served, served}
use Rattle.front_conn_costs.specs.front_conn.steps.States.{ConnectionState, IsConnOf, IsOneWork, IsWaitedAt, IsWaitedFor}
use Rattle.front_conn_costs.specs.front_conn.steps.Steps.{EndsAtRest, EndsByRest, GoesAhead, IsStepped, IsStepFrom, TakesHead, TakesUnit, answering_of}
use Rattle.replay.specs.Places.{leg_count, most_at_once}
use Rattle.replay.proofs.AskedLemmas.{AsksFew, IsFewKnown, IsOfFew, asked-few, named-few, stored-few}
use Rattle.replay.proofs.LegCounts.{database-few}

module _ (route : Route) where
  -- the sets that a session keeps, and the work that waits
  pub record IsFewSession (session : SessionState) : Type 0 where
    pub sets : AllByRecursion (IsFewKnown route) session.sets
    pub waits : IfSome session.waiting (λ waiting. IsOfFew route waiting.work)

  -- a GET that waits
  abbrev pub IsFewStage : SruStage → Type 0
  IsFewStage Idle = Unit {0}
  IsFewStage (Searching retrieval) = length retrieval.legs ≤ leg_count route
  IsFewStage (Fetching retrieval hits) = length retrieval.legs ≤ leg_count route

  -- a connection that has not ended
  pub record IsFewServing (kept : SessionState) (at : SruStage) : Type 0 where
    pub session : IsFewSession kept
    pub stage : IsFewStage at

  abbrev pub IsFewConn : {S : Type 0} → ConnectionState S → Type 0
  IsFewConn conn = conn.end ≡ None → IsFewServing conn.session conn.stage

  -- ---- a unit

  as-session : (old new : SessionState) → new ≡ old → IsFewSession old → IsFewSession new
  as-session old new e few = subst (λ (s : SessionState). IsFewSession s) (sym e) few

  due-few : (asking : Asking) (asks : Request) (old new : z.Served) (answer : Begun) → AsksFew route asking → IsFewSession old.session
      → z.IsDueBegun route asking asks old new answer → IsFewSession new.session
  due-few (at_once reply) asks old new answer own few h =
      as-session _ new.session h.1.1 (record { sets = few.sets; waits = few.waits })
  due-few (works job) asks old new answer own few h =
      as-session _ new.session h.4 (record { sets = few.sets; waits = own })

  module _ {S : Type 0} where
    met-few : (meeting : Meeting) (at : ℕ) (read : Option Request) (old new : AnsweringState S) (answer : Begun) (ended : Option End)
        → ended ≡ None → IsKeptBehind route old new ended answer → z.IsMetBegun meeting route at read (served old) (served new) answer
        → IsFewSession old.session → IsFewSession new.session
    met-few bad at read old new answer ended e kept h few = as-session old.session new.session h.1.1 few
    met-few (beyond asks) at read old new answer ended e kept h few = as-session old.session new.session h.1.1 few
    met-few (closing close) at read old new answer ended e kept h few =
        let closed : ended ≡ Some Closed = (subst (λ (b : Begun). IsKeptBehind route old new ended b) h.0 kept).0 in absurd cc
    met-few (due asks) at read old new answer ended e kept h few =
        due-few (asked_with (hits_named old.session.sets) route (client_of old.session) asks) asks (served old) (served new) answer
        (asked-few route (hits_named old.session.sets) (client_of old.session) asks (stored-few route old.session.sets few.sets)) few h

    begun-few : (at : ℕ) (unit : List ℕ) (old new : AnsweringState S) (answer : Begun) (ended : Option End)
        → ended ≡ None → IsKeptBehind route old new ended answer → z.IsBegun route at unit (served old) (served new) answer
        → IsFewSession old.session → IsFewSession new.session
    begun-few at unit old new (begun.Write mark end) ended e kept h few =
        met-few (met route (progress_of at old.session) h.read) at h.read old new (begun.Write mark end) ended e kept h.begun few
    begun-few at unit old new (begun.Work job) ended e kept h few =
        met-few (met route (progress_of at old.session) h.read) at h.read old new (begun.Work job) ended e kept h.begun few
    begun-few at unit old new begun.Memory ended e kept h few = absurd kept

    unit-few : (at : ℕ) (unit : List ℕ) (old new : AnsweringState S) (ended : Option End) → ended ≡ None
        → IsUnitBegun route at unit old new ended → IsFewServing old.session old.stage → IsFewServing new.session new.stage
    unit-few at unit old new ended e h few = record {
      session = begun-few at unit old new h.answer ended e h.kept h.begun few.session;
      stage = subst (λ (s : SruStage). IsFewStage s) (sym h.idle) tt;
    }

  -- ---- a head

  abbrev SearchesFew : Due → Type 0
  SearchesFew (answers_now answer) = Unit {0}
  SearchesFew (searches retrieval) = length retrieval.legs ≤ leg_count route

  due_by-few : (database : Database) (asked : SruQuery) (query : Result RpnQuery SruDiag) → length database.legs ≤ leg_count route
      → SearchesFew (due_by database asked query)
  due_by-few database asked (Ok query) few = few
  due_by-few database asked (Err diag) few = tt

  reading-few : (database : Database) (reading : Reading) → length database.legs ≤ leg_count route
      → SearchesFew (due_of route database reading)
  reading-few database (refused diag) few = tt
  reading-few database (taken asked text) few = due_by-few database asked (open_query route database asked.version (rpn_of asked.version route.indexes text)) few

  as-stage : (old new : SruStage) → new ≡ old → IsFewStage old → IsFewStage new
  as-stage old new e few = subst (λ (s : SruStage). IsFewStage s) (sym e) few

  due_done-few : (is_due : Due) (old new : sru.Served) (answer : sru_begun.Begun) → SearchesFew is_due → IsFewStage old.stage
      → sru.IsDueDone is_due old new answer → IsFewStage new.stage
  due_done-few (answers_now given) old new answer own few h = as-stage old.stage new.stage h.1 few
  due_done-few (searches retrieval) old new answer own few h = as-stage (Searching retrieval) new.stage h.waits own

  begun_at-few : (database : Database) (asked : Get) (old new : sru.Served) (answer : sru_begun.Begun) → length database.legs ≤ leg_count route
      → IsFewStage old.stage → sru.IsBegunAt route database asked old new answer → IsFewStage new.stage
  begun_at-few database asked old new (get.Write mark end) own few h =
      due_done-few (due_of route database h.reading) old new (get.Write mark end) (reading-few database h.reading own) few h.is_done
  begun_at-few database asked old new (get.Work job) own few h =
      due_done-few (due_of route database h.reading) old new (get.Work job) (reading-few database h.reading own) few h.is_done
  begun_at-few database asked old new get.Memory own few h = as-stage old.stage new.stage (ap (λ (s : sru.Served). s.stage) h) few

  found_begun-few : (database : Option Database) (asked : Get) (old new : sru.Served) (answer : sru_begun.Begun)
      → IfSome database (λ d. length d.legs ≤ leg_count route) → IsFewStage old.stage
      → sru.IsFoundBegun route asked database old new answer → IsFewStage new.stage
  found_begun-few None asked old new answer own few h = as-stage old.stage new.stage h.1 few
  found_begun-few (Some database) asked old new answer own few h = begun_at-few database asked old new answer own few h

  named-database : (asked : Get) → IfSome (database_of route asked) (λ d. length d.legs ≤ leg_count route)
  named-database asked = by-name (name_of asked.path) refl
    where
      by-name : (name : Option (List ℕ)) → name_of asked.path ≡ name → IfSome (database_of route asked) (λ d. length d.legs ≤ leg_count route)
      by-name None e =
          subst (λ (n : Option (List ℕ)). IfSome (option_and_then (database_named route) n) (λ d. length d.legs ≤ leg_count route)) (sym e) tt
      by-name (Some name) e =
          subst (λ (n : Option (List ℕ)). IfSome (option_and_then (database_named route) n) (λ d. length d.legs ≤ leg_count route)) (sym e)
          (database-few route name)

  head_begun-few : (head : Result Get HeadFault) (old new : sru.Served) (answer : sru_begun.Begun) → IsFewStage old.stage
      → IsHeadBegun route head old new answer → IsFewStage new.stage
  head_begun-few (Ok asked) old new answer few h = found_begun-few (database_of route asked) asked old new answer (named-database asked) few h
  head_begun-few (Err fault) old new answer few h = as-stage old.stage new.stage h.1 few

  module _ {S : Type 0} where
    head-few : (head : Result Get HeadFault) (old new : AnsweringState S) (ended : Option End) → IsHeadTaken route head old new ended
        → IsFewServing old.session old.stage → IsFewServing new.session new.stage
    head-few head old new ended h few = record {
      session = as-session old.session new.session h.session few.session;
      stage = head_begun-few head (get_served old) (get_served new) h.answer few.stage h.begun;
    }

  -- ---- the request in work

  found-few : (job : Work) (got : Outcome) (set : KnownSet) → IsOfFew route job → IsFoundSet job got set → IsFewKnown route set
  found-few (work.Search login legs query small large medium small_element medium_element syntax room) (outcome.Found hits fetched) set own h =
      subst (λ (ls : List ℕ). length ls ≤ leg_count route) (sym h.0) own
  found-few (work.Search login legs query small large medium small_element medium_element syntax room) (outcome.Fetched fetched) set own h = absurd h
  found-few (work.Search login legs query small large medium small_element medium_element syntax room) (outcome.Scanned answer) set own h = absurd h
  found-few (work.Search login legs query small large medium small_element medium_element syntax room) (outcome.Refused diag) set own h = absurd h
  found-few (work.Search login legs query small large medium small_element medium_element syntax room) (outcome.Marked mark class) set own h = absurd h
  found-few (work.Fetch login legs query hits first count syntax element) got set own h = absurd h
  found-few (work.Scan login leg ask) got set own h = absurd h

  contained-few : (sets : List KnownSet) (set : KnownSet) → AllByRecursion (IsFewKnown route) sets → Contains sets set → IsFewKnown route set
  contained-few sets set all c = subst (IsFewKnown route) c.2 (All-from_recursion (IsFewKnown route) sets all c.0 set c.1)

  given-few : (sets : List KnownSet) (job : Work) (got : Outcome) (set : KnownSet) → AllByRecursion (IsFewKnown route) sets
      → IsOfFew route job → HasGivenHits sets job got set → IsFewKnown route set
  given-few sets job got set all own (inl there) = contained-few sets set all there
  given-few sets job got set all own (inr found) = found-few job got set own found

  sets-few : (sets : List KnownSet) (job : Work) (got : Outcome) (news : List KnownSet) → AllByRecursion (IsFewKnown route) sets
      → IsOfFew route job → AllByRecursion (HasGivenHits sets job got) news → AllByRecursion (IsFewKnown route) news
  sets-few sets job got [] all own given = tt
  sets-few sets job got (set ∷ news) all own given = (given-few sets job got set all own given.0, sets-few sets job got news all own given.1)

  fetching-few : (stage : SruStage) (hits : List ℕ) → IsFewStage stage → IsFewStage (fetching stage hits)
  fetching-few Idle hits few = tt
  fetching-few (Searching retrieval) hits few = few
  fetching-few (Fetching retrieval found) hits few = few

  module _ {S : Type 0} where
    answered-few : (view : PackageView S) (old new : AnsweringState S) → IsAnsweredBy route view old new → IsFewSession old.session
        → IsFewSession new.session
    answered-few view old new h few =
        let settled = h.ended.settled in
        let own : IsOfFew route h.waiting.work = subst (λ (o : Option Waiting). IfSome o (λ x. IsOfFew route x.work)) h.waited few.waits in
        record {
          sets = sets-few old.session.sets h.waiting.work (outcome_in route view) new.session.sets few.sets own settled.hits;
          waits = subst (λ (o : Option Waiting). IfSome o (λ x. IsOfFew route x.work)) (sym settled.waits_no_more) tt;
        }

    -- what follows the work of a GET
    next-few : (next : Next) (view : PackageView S) (old new : AnsweringState S) (ended : Option End) (answer : sru_begun.Begun)
        → IsKeptBehindGet route view old new ended answer → sru.IsNextDone next (mark_of (outcome_in route view)) (get_served old) (get_served new) answer
        → IsFewStage old.stage → IsFewStage new.stage
    next-few (answered given) view old new ended (get.Write mark end) kept h few = as-stage Idle new.stage h.1 tt
    next-few (answered given) view old new ended (get.Work job) kept h few = as-stage Idle new.stage h.1 tt
    next-few (answered given) view old new ended get.Memory kept h few = absurd kept
    next-few (fetches hits job) view old new ended (get.Write mark end) kept h few =
        as-stage (fetching old.stage hits) new.stage h.waits (fetching-few old.stage hits few)
    next-few (fetches hits job) view old new ended (get.Work made) kept h few =
        as-stage (fetching old.stage hits) new.stage h.waits (fetching-few old.stage hits few)
    next-few (fetches hits job) view old new ended get.Memory kept h few = absurd kept

    get-few : (view : PackageView S) (old new : AnsweringState S) (ended : Option End) (next : Next)
        → sru.next_behind route old.stage (outcome_in route view) ≡ Some next → IsGetEnded route view old new ended
        → IsFewServing old.session old.stage → IsFewServing new.session new.stage
    get-few view old new ended next e h few = record {
      session = as-session old.session new.session h.session few.session;
      stage = next-few next view old new ended h.answer h.kept
          (subst (λ (n : Option Next). IfSome n (λ x. sru.IsNextDone x (mark_of (outcome_in route view)) (get_served old) (get_served new) h.answer))
          e h.went) few.stage;
    }

    ended-few : (stage : SruStage) (view : PackageView S) (old new : AnsweringState S) (ended : Option End) → old.stage ≡ stage
        → EndsAt route stage view old new (Ok ended) → IsFewServing old.session old.stage → IsFewServing new.session new.stage
    ended-few Idle view old new ended e h few = record {
      session = answered-few view old new h.3 few.session;
      stage = as-stage old.stage new.stage h.2 few.stage;
    }
    ended-few (Searching retrieval) view old new ended e h few =
        get-few view old new ended _ (ap (λ (s : SruStage). sru.next_behind route s (outcome_in route view)) e) h few
    ended-few (Fetching retrieval hits) view old new ended e h few =
        get-few view old new ended _ (ap (λ (s : SruStage). sru.next_behind route s (outcome_in route view)) e) h few

    done-few : (view : PackageView S) (old new : AnsweringState S) (answer : Stepped) (end : Option End) (done : Result (Option End) NoMemory)
        → end ≡ None → IsEndAfter done end answer → EndsAt route old.stage view old new done
        → IsFewServing old.session old.stage → IsFewServing new.session new.stage
    done-few view old new answer end (Ok ended) e after h few = ended-few old.stage view old new ended refl h few
    done-few view old new answer end (Err memory) e after h few = let wrong = after.0 in absurd cc

    as-answering : (old new : AnsweringState S) (in_work : Option (PackageView S)) → new ≡ record old { in_work = in_work }
        → IsFewServing old.session old.stage → IsFewServing new.session new.stage
    as-answering old new in_work e few = subst (λ (a : AnsweringState S). IsFewServing a.session a.stage) (sym e) few

    works-few : (turned_ : Turned) (next : PackageView S) (old new : AnsweringState S) (answer : Stepped) (end : Option End) → end ≡ None
        → WorksOn route turned_ next old new answer end → IsFewServing old.session old.stage → IsFewServing new.session new.stage
    works-few turned.Went next old new answer end e h few = as-answering old new (Some next) h.1 few
    works-few turned.NotYet next old new answer end e h few = as-answering old new (Some next) h.1 few
    works-few turned.Memory next old new answer end e h few = as-answering old new (Some next) h.1 few
    works-few turned.Done next old new answer end e h few = done-few next old new answer end h.done e h.after h.ends.went few

-- ---- a step

module _ {W S : Type 0} (w : world.Ghosts W) (t : sitting.Ghosts S W) (exact : Bool) (route : Route) (now : ℕ) where
  went-few : (old new : ConnectionState S) → new.end ≡ None → TakesUnit route old new ⊎ TakesHead route old new ⊎ EndsByRest old new
      → IsFewServing route old.session old.stage → IsFewServing route new.session new.stage
  went-few old new e (inl h) few = unit-few route old.at h.unit (answering_of old) (answering_of new) new.end e h.begun few
  went-few old new e (inr (inl h)) few = head-few route h.head (answering_of old) (answering_of new) new.end h.taken few
  went-few old new e (inr (inr h)) few = absurd (subst (λ (end : Option End). EndsAtRest old.has_ended end) e h.ended)

  ahead-few : (answer : Stepped) (old new : ConnectionState S) → new.end ≡ None → GoesAhead route old new answer
      → IsFewServing route old.session old.stage → IsFewServing route new.session new.stage
  ahead-few stepped.Idle old new e h few = subst (λ (c : ConnectionState S). IsFewServing route c.session c.stage) (sym h.1) few
  ahead-few stepped.NotYet old new e h few = absurd h
  ahead-few stepped.Went old new e h few = went-few old new e h.2 few
  ahead-few stepped.Memory old new e h few = let wrong = h.ended in absurd cc

  from-few : (end : Option End) (in_work : Option (PackageView S)) (old new : ConnectionState S) (answer : Stepped) (before behind : Outside S)
      → old.end ≡ end → IsStepFrom w t exact route now end in_work old new answer before behind → IsFewConn route old → IsFewConn route new
  from-few (Some end) in_work old new answer before behind e h few = subst (λ (c : ConnectionState S). IsFewConn route c) (sym h.1) few
  from-few None None old new answer before behind e h few = λ goes. ahead-few answer old new goes h.0 (few e)
  from-few None (Some view) old new answer before behind e h few = λ goes.
      works-few route h.turns.turned h.turns.next (answering_of old) (answering_of new) answer new.end goes h.turns.works (few e)

  pub step-few : (old new : ConnectionState S) (answer : Stepped) (before behind : Outside S)
      → IsStepped w t exact route now old new answer before behind → IsFewConn route old → IsFewConn route new
  step-few old new answer before behind h few = from-few old.end old.in_work old new answer before behind refl h few

-- ---- the legs of the request in work

module _ (route : Route) where
  waited-few : (waiting : Option Waiting) (job : Work) → IsWaitedFor waiting job → IfSome waiting (λ x. IsOfFew route x.work) → IsOfFew route job
  waited-few None job h few = absurd h
  waited-few (Some waiting) job h few = subst (λ (j : Work). IsOfFew route j) h few

  some-few : (made : Option Work) (job : Work) → made ≡ Some job → IfSome made (λ j. IsOfFew route j) → IsOfFew route job
  some-few made job e few = subst (λ (o : Option Work). IfSome o (λ j. IsOfFew route j)) e few

  waits-few : (stage : SruStage) (waiting : Option Waiting) (job : Work) → IsWaitedAt route waiting job stage
      → IfSome waiting (λ x. IsOfFew route x.work) → IsFewStage route stage → IsOfFew route job
  waits-few Idle waiting job h own few = waited-few waiting job h own
  waits-few (Searching retrieval) waiting job h own few = some-few (sru.work_of route (Searching retrieval)) job h few
  waits-few (Fetching retrieval hits) waiting job h own few = some-few (sru.work_of route (Fetching retrieval hits)) job h few

  pub view-few : {W S : Type 0} (w : world.Ghosts W) (t : sitting.Ghosts S W) (most : ℕ) (conn : ConnectionState S) (view : PackageView S)
      → IsConnOf w t route most conn → IsFewConn route conn → conn.end ≡ None → conn.in_work ≡ Some view
      → length (legs_named view.work) ≤ most_at_once route
  view-few {S = S} w t most conn view of few e f =
      let goes = of e in
      let it : IsPackageOf w t route most view = subst (λ (i : Option (PackageView S)). IfSome i (IsPackageOf w t route most)) f goes.in_work in
      let one : IsOneWork route conn.session.waiting conn.stage (Some view) =
      subst (λ (i : Option (PackageView S)). IsOneWork route conn.session.waiting conn.stage i) f goes.one_work in
      named-few route view.work it.asks.can_begin (waits-few conn.stage conn.session.waiting view.work one (few e).session.waits (few e).stage)
