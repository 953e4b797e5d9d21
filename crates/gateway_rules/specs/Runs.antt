-- A session in parts: units that were answered, then more units or the end
-- (this project's own)
use Rattle.std.specs.Prelude.{◌≡◌, ℕ, List, [], ◌++◌, map, flat_map, Option, option_to_list}
use Rattle.std.specs.List.{AllByRecursion}
use Rattle.z_types.specs.declared.marks.End.{End}
use Rattle.z_types.specs.declared.marks.Mark.{Mark}
use Rattle.z_types.specs.declared.replies.Reply.{Reply}
use Rattle.z_types.specs.declared.world.World as world
use Rattle.route_config.specs.declared.route.Route.{Route}
use Rattle.unit_forms.specs.Replies.{spell_reply}
use Rattle.gateway_rules.specs.Answers.{IsReceived, RestLeadsTo, kind_of, unit, Answers}
use Rattle.gateway_rules.specs.Course.{Received, octets_of, course, ends}
use Rattle.gateway_rules.specs.Marks.{Cause, IsAllowed}
use Rattle.gateway_rules.specs.Session.{Run, run, in_front, standing, over}
use Rattle.gateway_rules.specs.State.{Progress, ClientState, at_the_start, new_client}

-- These units come where a session stands, with such a client, and are answered so, under these
-- causes: each may come where it is taken, and none is left.
pub record HasRun {W : Type 0} (w : world.Ghosts W) (route : Route) (here : Progress)
    (client : ClientState) (units : List Received) (causes : List Cause) (got : Run) : Type 0 where
  pub each : AllByRecursion IsReceived units
  pub runs : run w route client (course route here units) causes ≡ got
  pub allowed : AllByRecursion IsAllowed got.taken
  pub none_left : got.left ≡ []

-- the same from the start of a connection
abbrev pub HasRunSoFar : {W : Type 0} → world.Ghosts W → Route → List Received → List Cause
    → Run → Type 0
HasRunSoFar w route units causes got = HasRun w route at_the_start new_client units causes got

-- units, and others that come where the session stands behind them, with the client that they
-- leave, are one run
abbrev pub RunsGoOn : {W : Type 0} → world.Ghosts W → Type 0
RunsGoOn w =
    (route : Route) (here there : Progress) (client : ClientState) (units others : List Received)
    (causes more : List Cause) (first second : Run)
    → HasRun w route here client units causes first → first.stop ≡ standing there
    → HasRun w route there first.client others more second
    → HasRun w route here client (units ++ others) (causes ++ more)
    (in_front first.replies first.taken second)

-- the marks of causes
abbrev pub marks_of : List Cause → List Mark
marks_of causes = map (λ cause. cause.mark) causes

-- the octets that replies are written as
abbrev pub written_as : List Reply → List ℕ
written_as replies = flat_map spell_reply replies

-- where units end the session, their replies are the answers to a connection, whatever follows them
abbrev pub UnitsEndIt : {W : Type 0} → world.Ghosts W → Type 0
UnitsEndIt w =
    (route : Route) (units : List Received) (causes : List Cause) (got : Run) (end : End)
    (more : List ℕ)
    → HasRunSoFar w route units causes got → got.stop ≡ over end
    → kind_of (octets_of units ++ more) ≡ unit
    → Answers w route (octets_of units ++ more) (marks_of causes) (written_as got.replies) end

-- where the session stands and the rest of the octets ends it, with a last reply or none, these are
-- the answers
abbrev pub RestEndsIt : {W : Type 0} → world.Ghosts W → Type 0
RestEndsIt w =
    (route : Route) (units : List Received) (causes : List Cause) (got : Run) (there : Progress)
    (rest : List ℕ) (last : Option Reply) (end : End)
    → HasRunSoFar w route units causes got → got.stop ≡ standing there
    → RestLeadsTo there.at rest (ends last end) → kind_of (octets_of units ++ rest) ≡ unit
    → Answers w route (octets_of units ++ rest) (marks_of causes)
    (written_as (got.replies ++ option_to_list last)) end
