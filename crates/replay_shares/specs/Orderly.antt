-- Orderly scripts (this project's own): no two requests are in work at once, nothing befalls a
-- link, the sets of a class and a login find room in one session, and each login of a class in a
-- session of its own. Of such a script it is known which works are asked, and when: its events and
-- what the targets answer say so
use Rattle.std.specs.Prelude.{◌≡◌, ℕ, ◌+◌, ◌≤◌, ◌==◌, ◌&&◌, nat_eq, Bool, true, false, List, [], ◌∷◌, ◌++◌, length, map, drop, filter_map, slice_get, if◌then◌else◌, Option, None, Some, is_none}
use Rattle.std.specs.List.{AllByRecursion, IsDistinct, list_all}
use Rattle.z_types.specs.declared.work.Work.{Work}
use Rattle.z_types.specs.declared.work.Work.TheVariants as work
use Rattle.z_types.specs.declared.world.World as world
use Rattle.route_config.specs.declared.route.Route.{Route}
use Rattle.script.specs.declared.event.Event.{Event}
use Rattle.script.specs.declared.event.Event.TheVariants.{Feed, End, Run, Tick}
use Rattle.script.specs.Events.{fed, is_of, seconds_of}
use Rattle.sharing_rules.specs.Orderly.{keys_used, logins_used}
use Rattle.sharing_rules.specs.Sharers.{Sharers}
use Rattle.sharing_rules.specs.Uses.{DatedWork, uses_of}
use Rattle.replay.specs.Trace.{closings}
use Rattle.replay_shares.specs.Works.{Ask}

-- ---- events

-- an event befalls no link and runs no client in part
abbrev pub is_calm : Event → Bool
is_calm (Feed client octets) = true
is_calm (End client) = true
is_calm (Run client) = true
is_calm (Tick seconds) = true
is_calm other = false

-- the client that waits for its run behind an event of its own
abbrev pub still_waits : ℕ → Event → Option ℕ
still_waits client (Run own) = None
still_waits client other = Some client

-- the client that waits for its run behind an event, where none did before it
abbrev pub waits_then : Event → Option ℕ
waits_then (Feed client octets) = Some client
waits_then other = None

-- the run of a client that was fed comes before any event of another client, and before a tick
abbrev pub are_run : (waiting : Option ℕ) → List Event → Bool
are_run waiting [] = is_none waiting
are_run None (event ∷ events) = are_run (waits_then event) events
are_run (Some client) (event ∷ events) =
    is_of client event && are_run (still_waits client event) events

-- the events of a script, and those that close each client behind them
abbrev pub closed : List Event → List Event
closed events = events ++ closings events

-- ---- runs

-- a run, by its client and its moment, and all works that the client has asked up to it
pub record ClientRun : Type 0 where
  pub client : ℕ
  pub at : ℕ
  pub asked : List Work

-- a run of a client to whom these octets were fed so far
pub record IsClientRun {W : Type 0} (w : world.Ghosts W) (route : Route) (client at : ℕ)
    (octets : List ℕ) (run : ClientRun) : Type 0 where
  pub same_client : run.client ≡ client
  pub same_moment : run.at ≡ at
  pub asks : Ask w route octets run.asked

-- the runs of events from a moment on, behind other events
abbrev pub AreClientRuns : {W : Type 0} → world.Ghosts W → Route → (before : List Event) → (at : ℕ)
    → List Event → List ClientRun → Type 0
AreClientRuns w route before at [] runs = runs ≡ []
AreClientRuns w route before at (Run client ∷ events) [] = ⊥
AreClientRuns w route before at (Run client ∷ events) (run ∷ runs) =
    IsClientRun w route client at (fed before client) run
    × AreClientRuns w route (before ++ Run client ∷ []) at events runs
AreClientRuns w route before at (event ∷ events) runs =
    AreClientRuns w route (before ++ event ∷ []) (at + seconds_of event) events runs

-- ---- works

-- what a client has asked up to the last of its runs among these, of which the last one comes first
abbrev pub asked_before : ℕ → (before : List ClientRun) → List Work
asked_before client [] = []
asked_before client (run ∷ before) =
    if run.client == client then run.asked else asked_before client before

-- what a run asks that was not asked before it
abbrev pub works_added : (before : List ClientRun) → ClientRun → List Work
works_added before run = drop (length (asked_before run.client before)) run.asked

-- a work that is done at a moment
abbrev pub dated : ℕ → Work → DatedWork
dated at asked = record { at = at; work = asked }

-- what runs ask, each at its moment, behind runs before them
abbrev pub dated_after : (before : List ClientRun) → List ClientRun → List DatedWork
dated_after before [] = []
dated_after before (run ∷ runs) =
    map (dated run.at) (works_added before run) ++ dated_after (run ∷ before) runs

-- what all runs of a script ask, each at its moment
abbrev pub dated_works : List ClientRun → List DatedWork
dated_works runs = dated_after [] runs

-- ---- orderly

-- the legs of a work, by their places in the route, whether it reaches them or not
abbrev pub legs_in : Work → List ℕ
legs_in (work.Search login legs query small large medium small_element medium_element syntax room) =
    legs
legs_in (work.Fetch login legs query hits first count syntax element) = legs
legs_in (work.Scan login leg ask) = leg ∷ []

-- the classes of legs
abbrev pub classes_at : Route → List ℕ → List ℕ
classes_at route legs = map (λ leg. leg.class) (filter_map (slice_get route.legs) legs)

-- the legs of a work are of different classes
abbrev pub IsApart : Route → DatedWork → Type 0
IsApart route done = IsDistinct nat_eq (classes_at route (legs_in done.work))

-- Events are orderly, with these runs: they feed clients, end their inputs, run clients and let
-- time pass; no other client and no tick comes between what is fed and its run; what was fed up to
-- a run ends between units or heads; and works are of legs of different classes, use no more keys
-- of a class under one login than a session may hold, and no more logins of a class than it may
-- have sessions.
pub record IsOrderly {W : Type 0} (w : world.Ghosts W) (route : Route) (events : List Event)
    (runs : List ClientRun) : Type 0 where
  pub calm : list_all is_calm events ≡ true
  pub one_at_a_time : are_run None (closed events) ≡ true
  pub whole : AreClientRuns w route [] 0 (closed events) runs
  pub apart : AllByRecursion (IsApart route) (dated_works runs)
  pub room : (who : Sharers)
      → keys_used who (uses_of route (dated_works runs)) ≤ route.pool.sets_max
  pub own : (class : ℕ)
      → logins_used class (uses_of route (dated_works runs)) ≤ route.pool.max_sessions
