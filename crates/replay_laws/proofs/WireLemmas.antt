-- what befalls the links of a quiet wire, with a new pool, is borne
use Rattle.std.proofs.Common.{◌≡◌, ◌∙◌, ◌*◌, ◌≤◌, ℕ, Bool, true, false, List, [], ◌∷◌, Option, None, Some, Result, Ok, Err, length, refl, sym, ap, subst, arith}
use Rattle.std.specs.List.{AllByRecursion}
use Rattle.std.specs.Prelude.{IfOk}
use Rattle.z_types.specs.Pending.{resting}
use Rattle.z_types.specs.declared.sitting.Sitting as sitting
use Rattle.z_types.specs.declared.world.World as world
use Rattle.gw_outside.specs.Counts.{Counts}
use Rattle.gw_outside.specs.Happened.{AreQuiet, Happened}
use Rattle.gw_outside.specs.declared.happenings.Happening.{Happening}
use Rattle.pool_sets.specs.Plain.{Pool}
use Rattle.pool_sets.specs.Sessions.{Session}
use Rattle.route_config.specs.Sound.{ArePoolNumbers}
use Rattle.route_config.specs.declared.route.PoolNumbers.{PoolNumbers}
use Rattle.route_config.specs.declared.route.Route.{Route}
use Rattle.z_client.specs.Counts.{counts_over}
use Rattle.z_client.specs.declared.own.Own.{Own}
use Rattle.replay.specs.leg.Deeds.{BackendView}
use Rattle.replay.specs.front_conn.steps.Answering.{Outside}
use Rattle.script.specs.declared.event.Event.{Event}
use Rattle.script.specs.declared.event.Event.TheVariants.{Feed, End, Step, Run, Tick, Gone, Cut, Slow}
use Rattle.replay.specs.package_quiet.steps.Bearing.{AreBearable, AreCutOnceMade, DialsGoOn, FaresAt, IsBearable, IsBorneBy}
use Rattle.replay.specs.package_quiet.steps.Whole.{AreIdle, IsIdleSession}
use Rattle.replay.specs.Counts.{HaveCauses}
use Rattle.replay.specs.Places.{most_at_once}
use Rattle.replay.specs.Trace.{IsRunOf}
use Rattle.replay.specs.declared.reports.Report.{Report}
use Rattle.replay.specs.steps.Room.{FindsRoom}
use Rattle.replay.proofs.MovesLemmas.{HasNoSession, IsNewPool}
use Rattle.replay.proofs.UndisturbedLemmas.{most-as, new-door}
use Rattle.replay_laws.specs.Between.{DisturbsNobody}
use Rattle.replay_laws.specs.Borne.{AreBorneMarks, BorneIsPlain, BorneIsPlainOrFull, HasBorneNumber, IsBorneIf, IsBorneRun, MayBeBorne, WasNeverFull, WentThrough, keeps_records, new_door}
use Rattle.replay_laws.specs.Quiet.{QuietDisturbsNobody}

-- ---- at the start

-- nothing was made to happen
quiet-bearable : (pool : PoolNumbers) (h : Happened) → ArePoolNumbers pool → AreQuiet h → AreBearable pool h
quiet-bearable pool h numbers quiet = record {
  steady = quiet.steady;
  each = λ target. subst (λ (x : Happening). IsBearable pool x) (sym (quiet.nothing target)) (record {
    presents = omega (arith);
    delay = (let least = numbers.patience.0 in omega (arith, least));
  });
}

quiet-cuts : (backend : BackendView) → AreQuiet backend.happened → AreCutOnceMade backend
quiet-cuts backend quiet target = let none = ap (λ (x : Happening). x.cut) (quiet.nothing target) in omega (arith, none)

-- no session is idle
none-idle : {S : Type 0} (IsSo : S → Type 0) (pool : Option (Pool S)) → HasNoSession pool → AreIdle IsSo pool
none-idle IsSo None none = absurd none
none-idle {S = S} IsSo (Some pool) none = subst (λ (sessions : List (Session S)). AllByRecursion (IsIdleSession IsSo) sessions) (sym none) tt

new-borne : {W S : Type 0} (w : world.Ghosts W) (t : sitting.Ghosts S W) (route : Route) (before : Outside S) → IsNewPool route before
    → ArePoolNumbers route.pool → AreQuiet before.backend.happened → IsBorneBy w t route.pool before.door.pool before.backend
new-borne w t route before new numbers quiet = record {
  bearable = quiet-bearable route.pool before.backend.happened numbers quiet;
  cut = quiet-cuts before.backend quiet;
  uncut = λ kept target. ap (λ (x : Happening). x.cut) (quiet.nothing target);
  idle = none-idle (FaresAt w t route.pool resting 0) before.door.pool new.none;
}

-- ---- a door that is never full

never-full : {S : Type 0} (route : Route) (report : Report) (before behind : Outside S) → IsNewPool route before
    → FindsRoom route report before behind → length report.clients * most_at_once route ≤ route.pool.max_sessions → WasNeverFull before behind
never-full route report before behind new room enough = record {
  below = (let none = new.fulls in omega (arith, none));
  still = room (new-door before.door new.none new.told new.fulls) (most-as route before new enough) ∙ sym new.fulls;
}

-- ---- which links are cut

-- what is borne by a route is borne by its sessions, which keep records only where the route does
number-by : (keeps kept : Bool) (pool : PoolNumbers) (event : Event) → (keeps ≡ true → kept ≡ true) → HasBorneNumber kept pool event
    → HasBorneNumber keeps pool event
number-by keeps kept pool (Feed client octets) so few = tt
number-by keeps kept pool (End client) so few = tt
number-by keeps kept pool (Step client) so few = tt
number-by keeps kept pool (Run client) so few = tt
number-by keeps kept pool (Tick seconds) so few = tt
number-by keeps kept pool (Gone target presents) so few = few
number-by false kept pool (Cut target) so few = refl
number-by true kept pool (Cut target) so few = sym (so refl) ∙ few
number-by keeps kept pool (Slow target looks) so few = few

numbers-by : (keeps kept : Bool) (pool : PoolNumbers) (events : List Event) → (keeps ≡ true → kept ≡ true)
    → AllByRecursion (HasBorneNumber kept pool) events → AllByRecursion (HasBorneNumber keeps pool) events
numbers-by keeps kept pool [] so few = tt
numbers-by keeps kept pool (event ∷ events) so few =
    (number-by keeps kept pool event so few.0, numbers-by keeps kept pool events so few.1)

-- ---- a replay over a wire

over-dials : (exact : Bool) (wire counts : Counts) (own : Own) → exact ≡ true → counts ≡ counts_over exact wire own → DialsGoOn wire
    → DialsGoOn counts
over-dials true wire counts own is e go = let same = ap (λ (c : Counts). c.dials) e in omega (arith, same, go)
over-dials false wire counts own is e go = absurd cc

module _ {W S : Type 0} (w : world.Ghosts W) (t : sitting.Ghosts S W) (exact : Bool) (route : Route) (events : List Event)
    (before behind : Outside S) (report : Report) (run : IsRunOf w t exact route events before behind report) where
  borne-run : (t.keeps ≡ true → keeps_records route ≡ true) → IsNewPool route before → ArePoolNumbers route.pool → MayBeBorne w route events before.backend.happened
      → DisturbsNobody w t exact route events before behind report run → DialsGoOn behind.backend.counts
      → IsBorneRun w t exact route events before behind report run
  borne-run own new numbers may between go = record {
    told = may.told;
    few = numbers-by t.keeps (keeps_records route) route.pool events own may.few;
    between = between;
    start = new-borne w t route before new numbers may.quiet;
    counted = go;
  }

  borne-marks : (t.keeps ≡ true → keeps_records route ≡ true) → BorneIsPlainOrFull w t → BorneIsPlain w t → IsNewPool route before → ArePoolNumbers route.pool
      → (w1 : Counts) (own1 : Own) → behind.backend.counts ≡ counts_over exact w1 own1 → HaveCauses route.pool report before behind
      → FindsRoom route report before behind → exact ≡ true → MayBeBorne w route events before.backend.happened
      → DisturbsNobody w t exact route events before behind report run → DialsGoOn w1 → AreBorneMarks route report
  borne-marks own marks plain new numbers w1 own1 f causes room is may between go =
      let one = borne-run own new numbers may between (over-dials exact w1 behind.backend.counts own1 is f go) in record {
        marks = marks exact route events before behind report run is one;
        places = λ enough.
            plain exact route events before behind report run is one causes (never-full route report before behind new room enough);
      }

-- so a replay went through what its backend did, which is over the wire, keeps records only where the route does, and counts by the wire
-- behind the replay
pub through_ok : {E : Type 0} (W S : Type 0) (w : world.Ghosts W) (t : sitting.Ghosts S W) (exact : Bool) (route : Route) (events : List Event)
    (before behind : Outside S) (result : Result Report E) → IfOk result (IsRunOf w t exact route events before behind)
    → BorneIsPlainOrFull w t → BorneIsPlain w t → IsNewPool route before → before.door ≡ new_door route.pool → ArePoolNumbers route.pool
    → (w1 : Counts) (own1 : Own) → behind.backend.counts ≡ counts_over exact w1 own1
    → IfOk result (λ report. HaveCauses route.pool report before behind) → IfOk result (λ report. FindsRoom route report before behind)
    → (t.keeps ≡ true → keeps_records route ≡ true) → IfOk result (WentThrough w t exact route events before.backend.happened w1)
through_ok W S w t exact route events before behind (Ok report) run marks plain new door numbers w1 own1 f causes room own = record {
  before = before;
  behind = behind;
  run = run;
  door = door;
  begins = λ target. refl;
  own = own1;
  ends = f;
  borne = borne-marks w t exact route events before behind report run own marks plain new numbers w1 own1 f causes room;
}
through_ok W S w t exact route events before behind (Err err) run marks plain new door numbers w1 own1 f causes room own = tt

-- whatever it went through, a quiet script disturbs nobody
pub borne_through : {E : Type 0} (W S : Type 0) (w : world.Ghosts W) (t : sitting.Ghosts S W) (exact : Bool) (route : Route)
    (events : List Event) (happened : Happened) (counts : Counts) (result : Result Report E) → QuietDisturbsNobody w t
    → IfOk result (WentThrough w t exact route events happened counts) → IfOk result (IsBorneIf w exact route events happened counts)
borne_through W S w t exact route events happened counts (Ok report) disturbs went = λ is may quiet go.
    went.borne is may (disturbs exact route events went.before went.behind report went.run quiet) go
borne_through W S w t exact route events happened counts (Err err) disturbs went = tt

-- a replay over a wire that is lent went through what one over the wire did
pub through_as_lent : {E W S : Type 0} (w : world.Ghosts W) (t : sitting.Ghosts S W) (exact : Bool) (route : Route) (events : List Event)
    (happened lent : Happened) (counts : Counts) (result : Result Report E) → (AreQuiet happened → AreQuiet lent)
    → ((target : ℕ) → lent.of_target target ≡ happened.of_target target)
    → IfOk result (WentThrough w t exact route events lent counts) → IfOk result (WentThrough w t exact route events happened counts)
through_as_lent w t exact route events happened lent counts (Ok report) quiet same went = record {
  before = went.before;
  behind = went.behind;
  run = went.run;
  door = went.door;
  begins = λ target. went.begins target ∙ same target;
  own = went.own;
  ends = went.ends;
  borne = λ is may. went.borne is (record { few = may.few; quiet = quiet may.quiet; told = may.told });
}
through_as_lent w t exact route events happened lent counts (Err err) quiet same went = tt
