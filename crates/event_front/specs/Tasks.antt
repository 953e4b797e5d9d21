-- A connection as a task (this project's own): where it stands between its polls, and what it owes
-- its door
use Rattle.std.specs.Prelude.{◌≡◌, ◌⊎◌, ℕ, ◌≤◌, Bool, false, true, [], take, Option, None, Some}
use Rattle.z_types.specs.Bounds.{most_legs}
use Rattle.z_types.specs.declared.marks.End.{End}
use Rattle.z_types.specs.declared.marks.End.TheVariants as how
use Rattle.z_types.specs.declared.world.World as world
use Rattle.route_config.specs.declared.route.Route.{Route}
use Rattle.gw_outside.specs.Sinks.{appended}
use Rattle.conn_served.specs.Costs.{undialled}
use Rattle.conn_served.specs.Serving.{IsServed, SinkView, Streams}
use Rattle.conn_served.specs.front_conn.steps.States.{ConnectionState}
use Rattle.conn_served.specs.front_conn_costs.steps.Conns.{RestsIfEnded, dues_on}
use Rattle.conn_served.specs.steps.Serving.{IsServing}
use Rattle.event_front.specs.declared.awaits.Awaits.{Awaits}
use Rattle.event_front.specs.declared.awaits.Awaits.TheVariants.{Client, Nothing, Target}
use Rattle.event_front.specs.declared.tasks.Polled.{Polled}
use Rattle.event_front.specs.declared.tasks.Polled.TheVariants.{Pending, Ready, Memory}

-- a task: its connection, where its octets come from and where they go, how many of those that are
-- out were written, how it ended, if it did, and what it awaits else
pub record TaskView (S I K : Type 0) : Type 0 where
  pub conn : ConnectionState S
  pub input : I
  pub output : K
  pub written : ℕ
  pub ended : Option End
  pub awaits : Awaits

-- ---- where it stands

module _ {W S : Type 0} (w : world.Ghosts W) (route : Route) (start : Streams) where
  -- It goes on: since the start octets were read and others written, and the connection stands
  -- there in its session; and of those that are out so many were written, behind what the sink had
  -- received before them.
  pub record IsOpen (now : Streams) (state : ConnectionState S) (done : ℕ) : Type 0 where
    pub before : SinkView
    pub serving : IsServing w route start (record { input = now.input; output = before }) state
    pub received : now.output.received ≡ appended before.received (take done state.out)
    pub faults : before.faults ≤ now.output.faults

  -- it goes on, or was served to this end
  abbrev pub Stands : (now : Streams) → ConnectionState S → (done : ℕ) → Option End → Type 0
  Stands now state done None = IsOpen now state done
  Stands now state done (Some end) = IsServed w route start now state.marks end

-- a poll answers Pending where the connection goes on, Memory where it has ended so, and else Ready
abbrev pub Answers : Option End → Polled → Type 0
Answers None polled = polled ≡ Pending
Answers (Some how.Memory) polled = polled ≡ Memory
Answers (Some end) polled = polled ≡ Ready

-- it goes on though its client does nothing
abbrev pub is_busy_at : Awaits → Bool
is_busy_at Client = false
is_busy_at Target = true
is_busy_at Nothing = true

-- ---- what it owes

module _ {S : Type 0} where
  -- no request is in work where it has ended; no more addresses are due than a request has legs, and
  -- none where something is to be written
  pub record OwesFew (state : ConnectionState S) : Type 0 where
    pub rests : RestsIfEnded state
    pub few : (dues_on state).unused ≤ most_legs
    pub none : (state.out ≡ []) ⊎ ((dues_on state).unused ≡ 0)

  -- so it is where it goes on; and no more are due than its end leaves undialled
  abbrev pub Owes : ConnectionState S → Option End → Type 0
  Owes state None = OwesFew state
  Owes state (Some end) = (dues_on state).unused ≤ undialled end
