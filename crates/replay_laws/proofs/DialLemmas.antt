-- no event of a replay lowers the count of links that were made
use Rattle.std.proofs.Common.{◌≡◌, ◌+◌, ◌-◌, ◌≤◌, ℕ, Bool, true, false, List, [], ◌∷◌, Option, None, Some, ap, arith}
use Rattle.z_types.specs.declared.marks.End.{End as Ending}
use Rattle.z_types.specs.declared.sitting.Sitting as sitting
use Rattle.z_types.specs.declared.world.World as world
use Rattle.gw_outside.specs.Counts.{Counts}
use Rattle.route_config.specs.declared.route.Route.{Route}
use Rattle.replay.specs.leg.Deeds.{BackendView}
use Rattle.replay.specs.package.steps.Packages.{PackageView}
use Rattle.replay.specs.front_conn.declared.stepped.Stepped.{Stepped}
use Rattle.replay.specs.front_conn.steps.Answering.{Outside}
use Rattle.replay.specs.front_conn.steps.States.{ConnectionState}
use Rattle.replay.specs.front_conn.steps.Steps.{IsStepFrom}
use Rattle.script.specs.declared.event.Event.{Event}
use Rattle.script.specs.declared.event.Event.TheVariants.{Feed, End, Step, Run, Tick, Gone, Cut, Slow}
use Rattle.script.specs.Events.{client_of, seconds_of}
use Rattle.replay.specs.package_quiet.steps.Bearing.{DialsGoOn}
use Rattle.replay.specs.package_quiet.steps.Laws.{PackagesDialOn}
use Rattle.replay.specs.Clients.{ClientState, client_at, client_or_new}
use Rattle.replay.specs.Trace.{ArePlayed, AreSteps, BefallsIf, HasRun, IsBefallen, IsClientStep, PlaysFor, PlaysOf, Playing, Point, test_number}

-- it is no lower behind, where it is below its last value there
abbrev pub DialOn : BackendView → BackendView → Type 0
DialOn old new = DialsGoOn new.counts → old.counts.dials ≤ new.counts.dials

-- so it was below that value before
pub dials-before : (old new : BackendView) → DialOn old new → DialsGoOn new.counts → DialsGoOn old.counts
dials-before old new rise go = let rose = rise go in omega (arith, rose, go)

same-dial : (old new : BackendView) → new ≡ old → DialOn old new
same-dial old new e go = let same = ap (λ (b : BackendView). b.counts.dials) e in omega (arith, same)

then-dial : (one mid other : BackendView) → DialOn one mid → DialOn mid other → DialOn one other
then-dial one mid other early late go =
    let later = late go in let earlier = early (dials-before mid other late go) in omega (arith, earlier, later)

-- ---- what befalls links

if-dial : (exact : Bool) (event : Event) (number : Option ℕ) (old new : BackendView) → BefallsIf exact event number old new → DialOn old new
if-dial exact event None old new h = same-dial old new h
if-dial exact event (Some number) old new h = λ go. (let same = ap (λ (c : Counts). c.dials) h.counts in omega (arith, same))

befallen-dial : (exact : Bool) (route : Route) (event : Event) (old new : BackendView) → IsBefallen exact route event old new → DialOn old new
befallen-dial exact route (Feed client octets) old new h = same-dial old new h
befallen-dial exact route (End client) old new h = same-dial old new h
befallen-dial exact route (Step client) old new h = same-dial old new h
befallen-dial exact route (Run client) old new h = same-dial old new h
befallen-dial exact route (Tick seconds) old new h = same-dial old new h
befallen-dial exact route (Gone target presents) old new h = if-dial exact (Gone target presents) (test_number route target) old new h
befallen-dial exact route (Cut target) old new h = if-dial exact (Cut target) (test_number route target) old new h
befallen-dial exact route (Slow target looks) old new h = if-dial exact (Slow target looks) (test_number route target) old new h

-- ---- events

module _ {W S : Type 0} (w : world.Ghosts W) (t : sitting.Ghosts S W) (exact : Bool) (route : Route) (law : PackagesDialOn w t) where
  from-dial : (now : ℕ) (end : Option Ending) (in_work : Option (PackageView S)) (old new : ConnectionState S) (answer : Stepped)
      (before behind : Outside S) → IsStepFrom w t exact route now end in_work old new answer before behind → DialOn before.backend behind.backend
  from-dial now (Some end) in_work old new answer before behind h = same-dial before.backend behind.backend (ap (λ (o : Outside S). o.backend) h.2)
  from-dial now None None old new answer before behind h = same-dial before.backend behind.backend (ap (λ (o : Outside S). o.backend) h.1)
  from-dial now None (Some view) old new answer before behind h =
      law exact route now view h.turns.next h.turns.turned before.door behind.door before.backend behind.backend h.turns.law

  pub client-dial : (now : ℕ) (idle : Bool) (old new : ClientState S) (before behind : Outside S)
      → IsClientStep w t exact route now idle old new before behind → DialOn before.backend behind.backend
  client-dial now idle old new before behind h =
      from-dial now old.conn.end old.conn.in_work old.conn h.stepped_to h.answer before behind h.steps

  steps-dial : (now : ℕ) (from : Point S) (earlier : List (Point S)) (last : Point S) → AreSteps w t exact route now from earlier last
      → DialOn from.outside.backend last.outside.backend
  steps-dial now from [] last h = same-dial from.outside.backend last.outside.backend (ap (λ (p : Point S). p.outside.backend) h)
  steps-dial now from (mid ∷ earlier) last h =
      then-dial from.outside.backend mid.outside.backend last.outside.backend (steps-dial now from earlier mid h.0)
      (client-dial now false mid.client last.client mid.outside last.outside h.1)

  run-dial : (now : ℕ) (old new : ClientState S) (before behind : Outside S) → HasRun w t exact route now old new before behind
      → DialOn before.backend behind.backend
  run-dial now old new before behind h =
      then-dial before.backend h.last.outside.backend behind.backend
      (steps-dial now (record { client = old; outside = before }) h.earlier h.last h.steps)
      (client-dial now true h.last.client new h.last.outside behind h.rests)

  plays-dial : (event : Event) (now : ℕ) (old new : ClientState S) (before behind : Outside S)
      → PlaysFor w t exact route event now old new before behind → DialOn before.backend behind.backend
  plays-dial (Feed client octets) now old new before behind h = same-dial before.backend behind.backend (ap (λ (o : Outside S). o.backend) h.1)
  plays-dial (End client) now old new before behind h = same-dial before.backend behind.backend (ap (λ (o : Outside S). o.backend) h.1)
  plays-dial (Step client) now old new before behind h = client-dial now h.0 old new before behind h.1
  plays-dial (Run client) now old new before behind h = run-dial now old new before behind h
  plays-dial (Tick seconds) now old new before behind h = absurd h
  plays-dial (Gone target presents) now old new before behind h = absurd h
  plays-dial (Cut target) now old new before behind h = absurd h
  plays-dial (Slow target looks) now old new before behind h = absurd h

  event-dial : (event : Event) (client : Option ℕ) (now : ℕ) (old new : Playing S) → PlaysOf w t exact route client event now old new
      → DialOn old.outside.backend new.outside.backend
  event-dial event None now old new h = befallen-dial exact route event old.outside.backend new.outside.backend h.backend
  event-dial event (Some number) now old new h =
      plays-dial event now (client_or_new (client_at old.clients (number - 1))) h.plays.client old.outside new.outside h.plays.plays

  pub events-dial : (events : List Event) (now : ℕ) (old new : Playing S) → ArePlayed w t exact route events now old new
      → DialOn old.outside.backend new.outside.backend
  events-dial [] now old new h = same-dial old.outside.backend new.outside.backend (ap (λ (p : Playing S). p.outside.backend) h)
  events-dial (event ∷ events) now old new h =
      then-dial old.outside.backend h.0.outside.backend new.outside.backend (event-dial event (client_of event) now old h.0 h.1)
      (events-dial events (now + seconds_of event) h.0 new h.2)
