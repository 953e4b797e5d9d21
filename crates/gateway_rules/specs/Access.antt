-- Access (this project's own): the targets are asked only of databases that the route opens to the
-- client. `access_rules` says of which it is told that it may not search them, and `Checks` where
-- that stands in the order of checks.
use Rattle.std.specs.Prelude.{◌≡◌, ℕ, List, [], ◌∷◌, Some, slice_get}
use Rattle.std.specs.List.{AllByRecursion}
use Rattle.z_types.specs.declared.requests.Request.TheVariants as request
use Rattle.z_types.specs.declared.requests.Request.{Request}
use Rattle.z_types.specs.declared.work.Work.TheVariants as work
use Rattle.z_types.specs.declared.work.Work.{Work}
use Rattle.z_types.specs.declared.world.World as world
use Rattle.route_config.specs.declared.route.Route.{Route}
use Rattle.virt_db.specs.Legs.{legs_of}
use Rattle.access_rules.specs.declared.who.Who.{Who}
use Rattle.access_rules.specs.Access.{MaySearch}
use Rattle.gateway_rules.specs.Asking as asking
use Rattle.gateway_rules.specs.Asking.{Asking, asked}
use Rattle.gateway_rules.specs.Course as course
use Rattle.gateway_rules.specs.Course.{Course, Received}
use Rattle.gateway_rules.specs.Marks.{Cause}
use Rattle.gateway_rules.specs.Session.{answered}
use Rattle.gateway_rules.specs.State.{ClientState, at_the_start, new_client}

-- legs are open to a client: they are those of databases that it may search
pub record AreOpen (route : Route) (client : Who) (legs : List ℕ) : Type 0 where
  pub names : List (List ℕ)
  pub legs-are : legs ≡ legs_of route names
  pub may : AllByRecursion (MaySearch route client) names

-- a work asks open legs alone: a Scan the first of some
abbrev pub AsksOpen : Route → Who → Work → Type 0
AsksOpen route client
    (work.Search login legs query small large medium small_element medium_element syntax room) =
    AreOpen route client legs
AsksOpen route client (work.Fetch login legs query hits first count syntax element) =
    AreOpen route client legs
AsksOpen route client (work.Scan login leg ask) =
    (legs : List ℕ) × AreOpen route client legs × (slice_get legs 0 ≡ Some leg)

-- so does what is due, where it asks anything
abbrev pub DueAsksOpen : Route → Who → Asking → Type 0
DueAsksOpen route client (asking.at_once reply) = Unit {0}
DueAsksOpen route client (asking.works work) = AsksOpen route client work

-- each of a client's sets stands for open legs
abbrev pub HasOpenSets : Route → ClientState → Type 0
HasOpenSets route client =
    AllByRecursion (λ set. AreOpen route client.agreed.whose set.legs) client.sets

-- whose a client is changes by an Init, and an Init comes before there are sets
abbrev pub ComesFirst : ClientState → Request → Type 0
ComesFirst client (request.Init init) = client.sets ≡ []
ComesFirst client other = Unit {0}

-- whatever is asked of the targets for a client whose sets are open is asked of open legs alone,
-- and its sets stay open
abbrev pub AccessIsKept : {W : Type 0} → world.Ghosts W → Type 0
AccessIsKept w =
    (route : Route) (client : ClientState) (request : Request) (cause : Cause)
    → HasOpenSets route client → ComesFirst client request
    → DueAsksOpen route client.agreed.whose (asked w route client request)
    × HasOpenSets route (answered w route client request cause).client

-- Whatever a connection of Z39.50 sends, each request of its course is asked of open legs alone, as
-- it is answered under causes
abbrev pub CourseAsksOpen : {W : Type 0} → world.Ghosts W → Route → ClientState → Course → List Cause
    → Type 0
CourseAsksOpen w route client (course.stands here) causes = Unit {0}
CourseAsksOpen w route client (course.ends last end) causes = Unit {0}
CourseAsksOpen w route client (course.answers request more) [] =
    DueAsksOpen route client.agreed.whose (asked w route client request)
CourseAsksOpen w route client (course.answers request more) (cause ∷ causes) =
    DueAsksOpen route client.agreed.whose (asked w route client request)
    × CourseAsksOpen w route (answered w route client request cause).client more causes

abbrev pub CoursesAskOpen : {W : Type 0} → world.Ghosts W → Type 0
CoursesAskOpen w =
    (route : Route) (units : List Received) (causes : List Cause)
    → CourseAsksOpen w route new_client (course.course route at_the_start units) causes
