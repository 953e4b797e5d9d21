-- For contracts alone: where the clients of an orderly script and the pool stand between its runs
-- (this project's own)
use Rattle.std.specs.Prelude.{◌≡◌, ℕ, ◌≤◌, ◌<◌, Bool, false, List, [], ◌++◌, length, Option, None, Some}
use Prim.Native.Nat.{suc}
use Rattle.std.specs.List.{AllByRecursion}
use Rattle.z_types.specs.Bounds.{within64}
use Rattle.z_types.specs.declared.marks.End.{End}
use Rattle.z_types.specs.declared.sitting.Sitting as sitting
use Rattle.z_types.specs.declared.work.Work.{Work}
use Rattle.z_types.specs.declared.world.World as world
use Rattle.route_config.specs.declared.route.Route.{Route}
use Rattle.replay.specs.gateway_rules.Answers.{Kind, letter, kind_of}
use Rattle.replay.specs.gateway_rules.OneAnswer.{AreMarksPlain}
use Rattle.pool_sets.specs.Plain.{Pool}
use Rattle.replay.specs.front_conn.steps.Answering.{Outside}
use Rattle.replay.specs.front_conn.steps.States.{ConnectionState, IsConnOf, IsStateOf, MayCome}
use Rattle.replay.specs.front_conn.steps.Totals.{totals_for}
use Rattle.script.specs.Events.{fed, has_ended, most_clients}
use Rattle.script.specs.declared.event.Event.{Event}
use Rattle.sharing_rules.specs.Orderly.{keys_used, logins_used}
use Rattle.sharing_rules.specs.Sharers.{Sharers}
use Rattle.sharing_rules.specs.Uses.{DatedWork, Use, uses_of}
use Rattle.sharing_rules.specs.steps.Shared.{AreInOrder}
use Rattle.replay.specs.front_conn_costs.steps.Conns.{AreTotalsOf}
use Rattle.replay.specs.front_conn_costs.steps.Numbers.{Number}
use Rattle.package_shares.specs.package_quiet.steps.Quiet.{IsCalm}
use Rattle.package_shares.specs.steps.Requests.{behind}
use Rattle.package_shares.specs.steps.Together.{AreAllKept}
use Rattle.front_conn_works.specs.steps.Begun.{HasBegun}
use Rattle.replay.specs.Clients.{ClientState, client_at, client_or_new}
use Rattle.replay.specs.Trace.{Playing}
use Rattle.replay_shares.specs.Orderly.{IsApart, ClientRun, asked_before}
use Rattle.replay_shares.specs.Works.{AskByHead}
use Rattle.replay_shares.specs.steps.Costs.{cost_of_all}

-- ---- a client

module _ {W S : Type 0} (w : world.Ghosts W) (route : Route) (octets : List ℕ)
    (conn : ConnectionState S) (asked : List Work) where
  -- an HTTP connection asks nothing until its GET is answered, and then what its GET asks, whatever
  -- may still come
  abbrev pub HasAskedGet : Option End → Type 0
  HasAskedGet None = asked ≡ []
  HasAskedGet (Some end) =
      (more : List ℕ) → MayCome conn.has_ended more → AskByHead w route (octets ++ more) asked

  -- by the kind of a connection
  abbrev pub HasAskedAs : Kind → Type 0
  HasAskedAs letter = HasAskedGet conn.end
  HasAskedAs other = HasBegun w route octets conn asked

  -- these works were asked for a client that was fed such octets
  abbrev pub HasAsked : Type 0
  HasAsked = HasAskedAs (kind_of octets)

-- A client that was fed these octets, whose input has ended or not, has no request in work: it has
-- asked these works, and each of its requests was answered under the mark Plain. Before anything
-- comes its connection goes on.
pub record IsResting {W S : Type 0} (w : world.Ghosts W) (t : sitting.Ghosts S W) (route : Route)
    (most : ℕ) (octets : List ℕ) (ended : Bool) (asked : List Work)
    (client : ClientState S) : Type 0 where
  pub of : IsConnOf w t route most client.conn
  pub stands : IsStateOf w route octets client.written client.conn
  pub input : client.conn.has_ended ≡ ended
  pub rests : client.conn.in_work ≡ None
  pub made : AreTotalsOf route (totals_for route client.conn.totals)
  pub plain : AreMarksPlain client.conn.marks
  pub has_asked : HasAsked w route octets client.conn asked
  pub waits : octets ≡ [] → ended ≡ false → client.conn.end ≡ None

-- ---- the pool

-- a pool that is told is kept behind these uses, over a quiet backend
pub record IsKeptOver {W S : Type 0} (w : world.Ghosts W) (t : sitting.Ghosts S W) (route : Route)
    (now : ℕ) (uses : List Use) (outside : Outside S) : Type 0 where
  pub pool : Pool S
  pub told : outside.door.pool ≡ Some pool
  pub kept : AreAllKept w route now uses pool
  pub calm : IsCalm w t outside.door.pool outside.backend

-- ---- works

-- works may be done, one behind another: each is of legs of different classes, all keys that are
-- used under one login find room in one session, and all logins of a class in one each
pub record MayDo (route : Route) (before : List Use) (works : List DatedWork) : Type 0 where
  pub apart : AllByRecursion (IsApart route) works
  pub few : (who : Sharers)
      → keys_used who (behind before (uses_of route works)) ≤ route.pool.sets_max
  pub own : (class : ℕ)
      → logins_used class (behind before (uses_of route works)) ≤ route.pool.max_sessions

-- ---- all clients

-- Behind events, with their runs, the last one first: each client rests, and has asked what it was
-- to ask up to its last run; the pool is kept behind the uses of all; and each class has cost so
-- much.
pub record StandBehind {W S : Type 0} (w : world.Ghosts W) (t : sitting.Ghosts S W) (route : Route)
    (most now : ℕ) (events : List Event) (runs : List ClientRun) (uses : List Use)
    (spent : Number → ℕ → ℕ) (here : Playing S) : Type 0 where
  pub door : here.outside.door.counts.most ≡ most
  pub places : length here.clients ≡ most_clients
  pub falls : AreInOrder now uses
  pub kept : IsKeptOver w t route now uses here.outside
  pub each : (place : ℕ) → place < most_clients
      → IsResting w t route most (fed events (suc place)) (has_ended events (suc place))
      (asked_before (suc place) runs)
      (client_or_new (client_at here.clients place))
  pub cost : (number : Number) (class : ℕ)
      → within64 (cost_of_all number class here.clients) ≡ within64 (spent number class)
