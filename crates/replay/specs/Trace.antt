-- What a replay goes through (this project's own): whose connection takes a step at which moment,
-- and what befalls the links with targets. What a step does is the law of a connection
use Rattle.std.specs.Prelude.{◌≡◌, ◌≢◌, ℕ, ◌+◌, ◌-◌, Bool, true, false, List, [], ◌∷◌, ◌++◌, Option, None, Some, length, map, slice_get, slice_set}
use Prim.Native.Nat.{zero, suc}
use Rattle.std.specs.List.{flat_map}
use Rattle.std.specs.Option.{option_and_then}
use Rattle.z_types.specs.declared.address.Address.{Address}
use Rattle.z_types.specs.declared.address.Address.TheVariants.{Test, Tcp, Login}
use Rattle.z_types.specs.declared.sitting.Sitting as sitting
use Rattle.z_types.specs.declared.world.World as world
use Rattle.gw_outside.specs.Happened.{AreCut, IsMade}
use Rattle.route_config.specs.declared.route.Route.{Route}
use Rattle.gw_outside.specs.declared.watched.Watched as watched
use Rattle.package_quiet.specs.leg.Deeds.{BackendView}
use Rattle.pool_sets.specs.declared.doors.Door as door
use Rattle.front_conn_costs.specs.front_conn.declared.stepped.Stepped.{Stepped}
use Rattle.front_conn_costs.specs.front_conn.declared.stepped.Stepped.TheVariants.{Memory}
use Rattle.front_conn_costs.specs.front_conn.steps.Answering.{Outside}
use Rattle.front_conn_costs.specs.front_conn.steps.Feeding.{with_end, with_piece, without_out}
use Rattle.front_conn_costs.specs.front_conn.steps.States.{ConnectionState, IsConnOf}
use Rattle.front_conn_costs.specs.front_conn.steps.Steps.{IsStepped, KeepsState}
use Rattle.script.specs.declared.event.Event.{Event}
use Rattle.script.specs.declared.event.Event.TheVariants.{Feed, End, Step, Run, Gone, Cut, Slow}
use Rattle.script.specs.Events.{client_of, most_clients, named, seconds_of}
use Rattle.replay.specs.declared.reports.ClassReport.{ClassReport}
use Rattle.replay.specs.declared.reports.ClientReport.{ClientReport}
use Rattle.replay.specs.declared.reports.Report.{Report}
use Rattle.replay.specs.Classes.{costless, costs_of}
use Rattle.replay.specs.Clients.{AreNone, ClientState, client_at, client_or_new, is_idle}

-- a replay: the clients, each at its place, and what is outside of them: the pool, and the sessions
-- with targets
pub record Playing (S : Type 0) : Type 0 where
  pub clients : List (Option (ClientState S))
  pub outside : Outside S

-- a client, and what is outside
pub record Point (S : Type 0) : Type 0 where
  pub client : ClientState S
  pub outside : Outside S

-- a backend, as a replay sees it
abbrev pub backend_of : {B : Type 0} → watched.Ghosts B → B → BackendView
backend_of b sessions = record { counts = b.counts sessions; happened = b.happened sessions }

-- what is outside, of a door and a backend
abbrev pub outside_of : {W S D B : Type 0} → door.Ghosts D W S → watched.Ghosts B → D
    → B → Outside S
outside_of d b pool sessions = record {
  door = record { pool = d.pool pool; counts = d.counts pool };
  backend = backend_of b sessions;
}

-- ---- one client

module _ {S : Type 0} where
  -- octets come from a client
  abbrev pub with_octets : List ℕ → ClientState S → ClientState S
  with_octets octets client = record client { conn = with_piece client.conn octets }

  -- no more will come
  abbrev pub with_no_more : ClientState S → ClientState S
  with_no_more client = record client { conn = with_end client.conn }

module _ {W S : Type 0} (w : world.Ghosts W) (t : sitting.Ghosts S W) (exact : Bool)
    (route : Route) where
  -- a client's connection takes a step at a moment, which may find it idle, and what it gives is
  -- written to the client
  pub record IsClientStep (now : ℕ) (idle : Bool) (old new : ClientState S)
      (before behind : Outside S) : Type 0 where
    pub answer : Stepped
    pub remembers : answer ≢ Memory
    pub is_idle : idle ≡ is_idle answer
    pub stepped_to : ConnectionState S
    pub steps : IsStepped w t exact route now old.conn stepped_to answer before behind
    pub keeps : KeepsState w route old.conn stepped_to
    pub of : IsConnOf w t route behind.door.counts.most stepped_to
    pub most : behind.door.counts.most ≡ before.door.counts.most
    pub conn : new.conn ≡ without_out stepped_to
    pub written : new.written ≡ old.written ++ stepped_to.out

  -- steps at one moment, none of which finds it idle, by where they came, the last first; one that
  -- finds that a target has not replied is followed by another
  abbrev pub AreSteps : (now : ℕ) → (start : Point S) → List (Point S) → Point S → Type 0
  AreSteps now start [] last = last ≡ start
  AreSteps now start (mid ∷ earlier) last =
      AreSteps now start earlier mid
      × IsClientStep now false mid.client last.client mid.outside last.outside

  -- steps until one finds it idle
  pub record HasRun (now : ℕ) (old new : ClientState S) (before behind : Outside S) : Type 0 where
    pub earlier : List (Point S)
    pub last : Point S
    pub steps : AreSteps now (record { client = old; outside = before }) earlier last
    pub rests : IsClientStep now true last.client new last.outside behind

  -- what an event does for its client
  abbrev pub PlaysFor : Event → (now : ℕ) → (old new : ClientState S)
      → (before behind : Outside S) → Type 0
  PlaysFor (Feed client octets) now old new before behind =
      (new ≡ with_octets octets old) × (behind ≡ before)
  PlaysFor (End client) now old new before behind = (new ≡ with_no_more old) × (behind ≡ before)
  PlaysFor (Step client) now old new before behind =
      (idle : Bool) × IsClientStep now idle old new before behind
  PlaysFor (Run client) now old new before behind = HasRun now old new before behind
  PlaysFor other now old new before behind = ⊥

-- ---- the links

-- the number of an address of a test target
abbrev pub number_in : Address → Option ℕ
number_in (Test number) = Some number
number_in (Tcp host port) = None
number_in (Login at login) = None

-- the number of the test target at a place of the route
abbrev pub test_number : Route → ℕ → Option ℕ
test_number route place =
    option_and_then (λ target. number_in target.address) (slice_get route.targets place)

module _ (exact : Bool) where
  -- what an event makes happen to the links with the test target of a number
  abbrev pub Happens : Event → ℕ → BackendView → BackendView → Type 0
  Happens (Gone target presents) number old new =
      IsMade number
      (λ happening. record happening { presents = presents }) old.happened new.happened
  Happens (Cut target) number old new =
      AreCut exact number old.counts.dials old.happened new.happened
  Happens (Slow target looks) number old new =
      IsMade number (λ happening. record happening { delay = looks }) old.happened new.happened
  Happens other number old new = ⊥

  -- they are befallen, and nothing is counted
  pub record Befalls (event : Event) (number : ℕ) (old new : BackendView) : Type 0 where
    pub counts : new.counts ≡ old.counts
    pub happens : Happens event number old new

  -- where there is such a target
  abbrev pub BefallsIf : Event → Option ℕ → (old new : BackendView) → Type 0
  BefallsIf event None old new = new ≡ old
  BefallsIf event (Some number) old new = Befalls event number old new

  -- what an event of no client does: links are befallen, or the clock alone goes on
  abbrev pub IsBefallen : Route → Event → (old new : BackendView) → Type 0
  IsBefallen route (Gone target presents) old new =
      BefallsIf (Gone target presents) (test_number route target) old new
  IsBefallen route (Cut target) old new = BefallsIf (Cut target) (test_number route target) old new
  IsBefallen route (Slow target looks) old new =
      BefallsIf (Slow target looks) (test_number route target) old new
  IsBefallen route other old new = new ≡ old

-- ---- all of them

module _ {W S : Type 0} (w : world.Ghosts W) (t : sitting.Ghosts S W) (exact : Bool)
    (route : Route) where
  -- an event is played for the client of a place, who is there from now on
  pub record PlaysAt (event : Event) (now : ℕ) (old new : Option (ClientState S))
      (before behind : Outside S) : Type 0 where
    pub client : ClientState S
    pub is_there : new ≡ Some client
    pub plays : PlaysFor w t exact route event now (client_or_new old) client before behind

  -- among all clients: nobody else is touched
  pub record PlaysAmong (event : Event) (place now : ℕ) (old new : Playing S) : Type 0 where
    pub here : Option (ClientState S)
    pub plays : PlaysAt event now (client_at old.clients place) here old.outside new.outside
    pub others : new.clients ≡ slice_set old.clients place here

  -- for none of them
  pub record PlaysForNone (event : Event) (old new : Playing S) : Type 0 where
    pub clients : new.clients ≡ old.clients
    pub door : new.outside.door ≡ old.outside.door
    pub backend : IsBefallen exact route event old.outside.backend new.outside.backend

  -- an event of a client, or of none
  abbrev pub PlaysOf : Option ℕ → Event → (now : ℕ) → (old new : Playing S) → Type 0
  PlaysOf (Some number) event now old new = PlaysAmong event (number - 1) now old new
  PlaysOf None event now old new = PlaysForNone event old new

  -- what an event does
  abbrev pub IsPlayed : Event → (now : ℕ) → (old new : Playing S) → Type 0
  IsPlayed event now old new = PlaysOf (client_of event) event now old new

  -- what events do, one behind another, from a moment on
  abbrev pub ArePlayed : List Event → (now : ℕ) → (old new : Playing S) → Type 0
  ArePlayed [] now old new = new ≡ old
  ArePlayed (event ∷ events) now old new =
      (between : Playing S) × IsPlayed event now old between
      × ArePlayed events (now + seconds_of event) between new

-- ---- behind the last event

-- the moment behind events, of which the first comes at moment 0
abbrev pub moment_behind : List Event → ℕ
moment_behind [] = 0
moment_behind (event ∷ events) = seconds_of event + moment_behind events

-- a client is closed: its input ends, and it is run
abbrev pub closing : ℕ → List Event
closing client = End client ∷ Run client ∷ []

-- each client that events name is closed, in ascending order
abbrev pub closings : List Event → List Event
closings events = flat_map closing (named events)

-- ---- a whole replay

-- what is reported of a client whose connection has ended
pub record IsReportedAs {S : Type 0} (number : ℕ) (client : ClientState S)
    (report : ClientReport) : Type 0 where
  pub same_number : report.number ≡ number
  pub bytes : report.bytes ≡ client.written
  pub marks : report.marks ≡ client.conn.marks
  pub ended : client.conn.end ≡ Some report.end

module _ {S : Type 0} where
  -- a client, where there is one, is reported behind the others
  abbrev pub IsReportedBehind : ℕ → Option (ClientState S) → (old new : List ClientReport) → Type 0
  IsReportedBehind number None old new = new ≡ old
  IsReportedBehind number (Some client) old new =
      (report : ClientReport) × IsReportedAs number client report × (new ≡ old ++ report ∷ [])

  -- the clients that are there up to a number are reported, in ascending order
  abbrev pub AreReported : (last : ℕ) → List (Option (ClientState S)) → List ClientReport → Type 0
  AreReported zero clients reports = reports ≡ []
  AreReported (suc last) clients reports =
      (earlier : List ClientReport) × AreReported last clients earlier
      × IsReportedBehind (suc last) (client_at clients last) earlier reports

  -- what their requests cost
  abbrev pub costs_upto : (last : ℕ) → List (Option (ClientState S)) → List ClassReport
      → List ClassReport
  costs_upto zero clients classes = classes
  costs_upto (suc last) clients classes =
      costs_of (client_at clients last) (costs_upto last clients classes)

-- the report of a replay's clients, whose connections have ended
pub record IsReported {S : Type 0} (route : Route) (clients : List (Option (ClientState S)))
    (report : Report) : Type 0 where
  pub clients_of : AreReported (length clients) clients report.clients
  pub costs : report.classes ≡ costs_upto (length clients) clients (map costless route.classes)

-- The events were played from a start with a place for each client, of whom none is there, at
-- moment 0; then each client that they name was closed; and the report is of what came of it.
pub record IsRunOf {W S : Type 0} (w : world.Ghosts W) (t : sitting.Ghosts S W) (exact : Bool)
    (route : Route) (events : List Event) (before behind : Outside S)
    (report : Report) : Type 0 where
  pub start : List (Option (ClientState S))
  pub places : length start ≡ most_clients
  pub nobody : AreNone start
  pub mid : Playing S
  pub played : ArePlayed w t exact route events 0 (record { clients = start; outside = before }) mid
  pub finish : List (Option (ClientState S))
  pub closed : ArePlayed w t exact route (closings events) (moment_behind events) mid
      (record { clients = finish; outside = behind })
  pub reported : IsReported route finish report
