-- For contracts alone: what the runs of an orderly script leave of the pool, and what they cost
-- (this project's own)
use Rattle.std.specs.Prelude.{◌≡◌, ◌≢◌, ℕ, ◌+◌, Bool, true, List, [], length, map, drop}
use Rattle.z_types.specs.Bounds.{within64}
use Rattle.z_types.specs.declared.sitting.Sitting as sitting
use Rattle.z_types.specs.declared.work.Work.{Work}
use Rattle.z_types.specs.declared.world.World as world
use Rattle.route_config.specs.Sound.{IsSound}
use Rattle.route_config.specs.declared.route.Route.{Route}
use Rattle.replay.specs.gateway_rules.Answers.{kind_of, letter}
use Rattle.replay.specs.gateway_rules.Fair.{IsFair}
use Rattle.package_shares.specs.package.steps.Laws.{OutcomeIsTrue}
use Rattle.sru_request.specs.Laws.{HeadStays}
use Rattle.replay.specs.sru_rules.Laws.{HasOneCourse}
use Rattle.replay.specs.front_conn.steps.Answering.{Outside}
use Rattle.replay.specs.front_conn.steps.Feeding.{StandsAtStart, StandsWhenEnded, StandsWhenFed, StandsWhenWritten, StaysOfRoute}
use Rattle.script.specs.declared.event.Event.{Event}
use Rattle.script.specs.Events.{AreEvents}
use Rattle.sharing_rules.specs.Needed.{count_after}
use Rattle.sharing_rules.specs.Uses.{DatedWork, Use, uses_of}
use Rattle.sharing_rules.specs.steps.Shared.{AreInOrder}
use Rattle.replay.specs.front_conn_costs.steps.Numbers.{Number}
use Rattle.package_shares.specs.steps.Requests.{RequestsShare, behind}
use Rattle.front_conn_works.specs.steps.Laws.{BeginsNone, EndedIsWhole, MarksDecide, StaysSoBegun, StepsBegin}
use Rattle.replay.specs.Clients.{ClientState}
use Rattle.replay.specs.Trace.{HasRun, IsRunOf}
use Rattle.replay.specs.declared.reports.Report.{Report}
use Rattle.replay_shares.specs.Orderly.{dated}
use Rattle.replay_shares.specs.Shares.{SharesIfOrderly}
use Rattle.replay_shares.specs.Works.{Ask}
use Rattle.replay_shares.specs.steps.Costs.{cost_on, is_needed}
use Rattle.replay_shares.specs.steps.Resting.{IsKeptOver, IsResting, MayDo}

-- where a connection stands at its start, when it is fed and when its input has ended; that it
-- stays of its route; and that none of these begins a work
pub record ClientLaws {W S : Type 0} (w : world.Ghosts W) (t : sitting.Ghosts S W) : Type 0 where
  pub start : StandsAtStart w t
  pub fed : StandsWhenFed w t
  pub ended : StandsWhenEnded w t
  pub of : StaysOfRoute w t
  pub none : BeginsNone w S
  pub begun : StaysSoBegun w S

-- where a connection stands whose output was written; which works a step of it begins; and what the
-- request of a work leaves of the pool, and costs
pub record StepLaws {W S : Type 0} (w : world.Ghosts W) (t : sitting.Ghosts S W) : Type 0 where
  pub written : StandsWhenWritten w t
  pub of : StaysOfRoute w t
  pub begun : StaysSoBegun w S
  pub begins : StepsBegin w t
  pub ended : EndedIsWhole w S
  pub decide : MarksDecide w
  pub shares : RequestsShare w t

-- that the octets of HTTP have one course, and that their head stays whatever comes behind it; what
-- comes of a work on a fair route; where a connection stands whose output was written; and what the
-- request of a work leaves of the pool, and costs
pub record GetLaws {W S : Type 0} (w : world.Ghosts W) (t : sitting.Ghosts S W) : Type 0 where
  pub one : HasOneCourse
  pub stays : (octets : List ℕ) → HeadStays octets
  pub outcome : OutcomeIsTrue w t
  pub written : StandsWhenWritten w t
  pub shares : RequestsShare w t

-- the works that are asked now and were not before
abbrev pub works_now : (now : ℕ) → (asked all : List Work) → List DatedWork
works_now now asked all = map (dated now) (drop (length asked) all)

module _ {W S : Type 0} (w : world.Ghosts W) (t : sitting.Ghosts S W) where
  -- ---- one run

  -- behind the run of a client: it rests and has asked all, the pool is kept behind the uses of
  -- what it asked now, and each class has cost what these need
  pub record HasRunSo (route : Route) (now : ℕ) (octets : List ℕ) (ended : Bool)
      (asked all : List Work) (before : List Use) (old new : ClientState S)
      (outside after : Outside S) : Type 0 where
    pub door : after.door.counts.most ≡ outside.door.counts.most
    pub rests : IsResting w t route outside.door.counts.most octets ended all new
    pub kept : IsKeptOver w t route now
        (behind before (uses_of route (works_now now asked all))) after
    pub cost : (number : Number) (class others : ℕ)
        → within64 (others + cost_on number class new.conn.totals)
        ≡ within64 (others + (cost_on number class old.conn.totals
        + count_after (is_needed w route number class) before
        (uses_of route (works_now now asked all))))

  -- a client that rests is run, on a fair route over a backend that is exact, with works that may
  -- be done
  abbrev pub RunsShare : Type 0
  RunsShare =
      (exact : Bool) (route : Route) (now : ℕ) (octets : List ℕ) (ended : Bool)
      (asked all : List Work) (before : List Use) (old new : ClientState S)
      (outside after : Outside S)
      → exact ≡ true → IsFair w route → IsSound route
      → IsResting w t route outside.door.counts.most octets ended asked old
      → IsKeptOver w t route now before outside → Ask w route octets all → AreInOrder now before
      → MayDo route before (works_now now asked all)
      → HasRun w t exact route now old new outside after
      → HasRunSo route now octets ended asked all before old new outside after

  -- the same of clients whose octets are of one sort
  abbrev pub RunsShareOf : (List ℕ → Type 0) → Type 0
  RunsShareOf Sort =
      (exact : Bool) (route : Route) (now : ℕ) (octets : List ℕ) (ended : Bool)
      (asked all : List Work) (before : List Use) (old new : ClientState S)
      (outside after : Outside S)
      → Sort octets → exact ≡ true → IsFair w route → IsSound route
      → IsResting w t route outside.door.counts.most octets ended asked old
      → IsKeptOver w t route now before outside → Ask w route octets all → AreInOrder now before
      → MayDo route before (works_now now asked all)
      → HasRun w t exact route now old new outside after
      → HasRunSo route now octets ended asked all before old new outside after

  -- clients of units, or of which nothing has come
  abbrev pub RunsOfUnitsShare : Type 0
  RunsOfUnitsShare = RunsShareOf (λ octets. kind_of octets ≢ letter)

  -- clients of HTTP
  abbrev pub RunsOfGetsShare : Type 0
  RunsOfGetsShare = RunsShareOf (λ octets. kind_of octets ≡ letter)

  -- ---- a whole replay

  -- events were played that can be, on a fair route, over a backend that is exact and quiet, with a
  -- pool that is kept behind no use: where they are orderly no request is marked, and each class
  -- costs what it needs
  abbrev pub RunsOfScriptsShare : Type 0
  RunsOfScriptsShare =
      (exact : Bool) (route : Route) (targets : ℕ) (events : List Event) (before after : Outside S)
      (report : Report)
      → exact ≡ true → IsFair w route → IsSound route → AreEvents targets events
      → IsKeptOver w t route 0 [] before → IsRunOf w t exact route events before after report
      → SharesIfOrderly w route events report
