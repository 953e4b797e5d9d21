-- A client's session (ANSI/NISO Z39.50-2003, 4.2): the requests of its course answered in order,
-- each under the next cause, as a route with private sessions and no pool answers them
use Rattle.std.specs.Prelude.{◌≡◌, ℕ, List, [], ◌∷◌, ◌++◌, option_to_list}
use Rattle.std.specs.List.{AllByRecursion}
use Rattle.z_types.specs.declared.marks.End.{End}
use Rattle.z_types.specs.declared.world.World as world
use Rattle.route_config.specs.declared.route.Route.{Route}
use Rattle.gateway_rules.specs.Asking as asking
use Rattle.gateway_rules.specs.Asking.{Asking, asked}
use Rattle.gateway_rules.specs.Course as course
use Rattle.gateway_rules.specs.Course.{Course}
use Rattle.gateway_rules.specs.Marks.{Cause, Taken, IsAllowed}
use Rattle.gateway_rules.specs.Outcomes.{outcome_of, classes_asked}
use Rattle.gateway_rules.specs.Settling.{Settled, settled, settled_at_once}
use Rattle.gateway_rules.specs.State.{ClientState, Progress}
use Rattle.z_types.specs.declared.replies.Reply.{Reply}
use Rattle.z_types.specs.declared.requests.Request.{Request}

-- ---- one request

-- what a request is answered, where this is due
abbrev pub answer_to : {W : Type 0} → world.Ghosts W → Route → ClientState → Request → Cause
    → Asking → Settled
answer_to w route client request cause (asking.at_once reply) =
    settled_at_once route client request reply
answer_to w route client request cause (asking.works work) =
    settled client request work (outcome_of w route work cause)

-- the classes that are asked, where this is due
abbrev pub classes_of : Route → Asking → List (List ℕ)
classes_of route (asking.at_once reply) = []
classes_of route (asking.works work) = classes_asked route work

-- what a request is answered under a cause
abbrev pub answered : {W : Type 0} → world.Ghosts W → Route → ClientState → Request
    → Cause → Settled
answered w route client request cause =
    answer_to w route client request cause (asked w route client request)

-- the names of the classes that a request asks
abbrev pub reached : {W : Type 0} → world.Ghosts W → Route → ClientState → Request → List (List ℕ)
reached w route client request = classes_of route (asked w route client request)

-- ---- a course of requests

-- where a run stops: it stands and waits for more units; it is over; or a request needs a cause and
-- none is left
pub data Stop : Type 0 where
  standing : Progress → Stop
  over : End → Stop
  wanting : Stop

-- a course under causes: replies, the causes that were taken, those that are left, the client, and
-- where it stops
pub record Run : Type 0 where
  pub replies : List Reply
  pub taken : List Taken
  pub left : List Cause
  pub client : ClientState
  pub stop : Stop

-- nothing more is answered
abbrev pub stopped : List Reply → List Cause → ClientState → Stop → Run
stopped replies left client stop =
    record { replies = replies; taken = []; left = left; client = client; stop = stop }

-- replies and taken causes in front of a run
abbrev pub in_front : List Reply → List Taken → Run → Run
in_front replies taken run =
    record run { replies = replies ++ run.replies; taken = taken ++ run.taken }

-- a course, answered under these causes
abbrev pub run : {W : Type 0} → world.Ghosts W → Route → ClientState → Course → List Cause → Run
run w route client (course.stands here) causes = stopped [] causes client (standing here)
run w route client (course.ends last end) causes =
    stopped (option_to_list last) causes client (over end)
run w route client (course.answers request more) [] = stopped [] [] client wanting
run w route client (course.answers request more) (cause ∷ causes) =
    in_front ((answered w route client request cause).reply ∷ [])
    ((record { classes = reached w route client request; cause = cause }) ∷ [])
    (run w route (answered w route client request cause).client more causes)

-- ---- the causes of a run

-- no request wants a cause
abbrev pub IsServed : Stop → Type 0
IsServed (standing here) = Unit {0}
IsServed (over end) = Unit {0}
IsServed wanting = ⊥

-- there is exactly one cause for each request that takes one, and it may come there
pub record Fits (got : Run) : Type 0 where
  pub allowed : AllByRecursion IsAllowed got.taken
  pub served : IsServed got.stop
  pub none_left : got.left ≡ []
