-- What the octets of a client ask of the targets, where no request is marked
-- (this project's own): the works of the requests of its course, in their order, or the works of
-- its GET, a search and the fetch that may follow it. No pool and no other client is in this.
use Rattle.std.specs.Prelude.{◌≡◌, ◌≢◌, ℕ, List, [], ◌∷◌, ◌++◌, length, Result, Ok}
use Rattle.std.specs.List.{AllByRecursion}
use Rattle.z_types.specs.declared.work.Work.{Work}
use Rattle.z_types.specs.declared.world.World as world
use Rattle.route_config.specs.declared.route.Route.{Route}
use Rattle.replay.specs.gateway_rules.Answers.{IsReceived, Kind, empty, letter, unit, kind_of}
use Rattle.replay.specs.gateway_rules.Course as course
use Rattle.replay.specs.gateway_rules.Course.{Course, Received, octets_of}
use Rattle.replay.specs.gateway_rules.Marks.{plain}
use Rattle.replay.specs.gateway_rules.Session.{answered}
use Rattle.replay.specs.gateway_rules.State.{ClientState, at_the_start, new_client}
use Rattle.sru_request.specs.Request.{IsHeadAnswer}
use Rattle.sru_request.specs.declared.faults.HeadFault.{HeadFault}
use Rattle.sru_request.specs.declared.head.HeadGot.{HeadGot}
use Rattle.sru_request.specs.declared.head.HeadGot.TheVariants.{NeedMore}
use Rattle.replay.specs.sru_rules.Asking.{search_work}
use Rattle.replay.specs.sru_rules.Course as http
use Rattle.replay.specs.sru_rules.Course.{HeadLeadsTo}
use Rattle.replay.specs.sru_rules.Run as sru
use Rattle.replay.specs.sru_rules.Run.{Due, due, next_of}
use Rattle.replay.specs.sru_rules.Settling as next
use Rattle.replay.specs.sru_rules.Settling.{Next}
use Rattle.front_conn_works.specs.Works.{work_of}

-- ---- units

-- the works of a course: each request asks where the requests before it have left the client
abbrev pub works_in : {W : Type 0} → world.Ghosts W → Route → ClientState → Course → List Work
works_in w route client (course.stands here) = []
works_in w route client (course.ends last end) = []
works_in w route client (course.answers request more) =
    work_of w route client request
    ++ works_in w route (answered w route client request plain).client more

-- the works of units, of which the first is the first of a connection
abbrev pub works_of_units : {W : Type 0} → world.Ghosts W → Route → List Received → List Work
works_of_units w route units = works_in w route new_client (course.course route at_the_start units)

-- octets are whole units, and these are their works
pub record AskByUnits {W : Type 0} (w : world.Ghosts W) (route : Route) (octets : List ℕ)
    (works : List Work) : Type 0 where
  pub units : List Received
  pub each : AllByRecursion IsReceived units
  pub spelled : octets ≡ course.octets_of units
  pub are : works ≡ works_of_units w route units

-- ---- a GET

-- what follows a search
abbrev pub works_of_next : Next → List Work
works_of_next (next.answered answer) = []
works_of_next (next.fetches hits work) = work ∷ []

-- the works of a GET that is due this
abbrev pub works_of_due : {W : Type 0} → world.Ghosts W → Route → Due → List Work
works_of_due w route (sru.at_once answer) = []
works_of_due w route (sru.searches retrieval) =
    search_work retrieval ∷ works_of_next (next_of w route retrieval plain)

-- those of an HTTP connection
abbrev pub works_of_http : {W : Type 0} → world.Ghosts W → Route → http.Course → List Work
works_of_http w route (http.ends last end) = []
works_of_http w route (http.answers database reading) =
    works_of_due w route (due route database reading)

-- octets begin with a head that has come whole, and these are the works of its GET; what follows
-- the head is not answered
pub record AskByHead {W : Type 0} (w : world.Ghosts W) (route : Route) (octets : List ℕ)
    (works : List Work) : Type 0 where
  pub head : Result HeadGot HeadFault
  pub is_head : IsHeadAnswer octets head
  pub come : head ≢ Ok NeedMore
  pub whole : http.Course
  pub leads : HeadLeadsTo route (length octets) head whole
  pub are : works ≡ works_of_http w route whole

-- ---- either kind

-- octets of a connection of a kind end between units or heads, and ask these works
abbrev pub AskAs : Kind → {W : Type 0} → world.Ghosts W → Route → List ℕ → List Work → Type 0
AskAs empty w route octets works = works ≡ []
AskAs letter w route octets works = AskByHead w route octets works
AskAs unit w route octets works = AskByUnits w route octets works

-- all octets that a client sent so far end between units or heads, and these are the works that
-- they ask, from the first on
abbrev pub Ask : {W : Type 0} → world.Ghosts W → Route → List ℕ → List Work → Type 0
Ask w route octets works = AskAs (kind_of octets) w route octets works
