-- For contracts alone: which works a connection of units has begun (this project's own)
use Rattle.std.specs.Prelude.{◌≡◌, ℕ, List, [], ◌∷◌, ◌++◌, Option, None, Some}
use Rattle.std.specs.List.{AllByRecursion}
use Rattle.z_types.specs.declared.marks.End.{End}
use Rattle.z_types.specs.declared.marks.Mark.{Mark}
use Rattle.z_types.specs.declared.work.Work.{Work}
use Rattle.z_types.specs.declared.world.World as world
use Rattle.route_config.specs.declared.route.Route.{Route}
use Rattle.front_conn.specs.gateway_rules.Answers.{IsConnection, IsReceived}
use Rattle.front_conn.specs.gateway_rules.Course.{Course, Received, course, octets_of}
use Rattle.front_conn.specs.gateway_rules.Marks.{Cause}
use Rattle.front_conn.specs.gateway_rules.Runs.{marks_of}
use Rattle.front_conn.specs.gateway_rules.State.{at_the_start, new_client}
use Rattle.front_conn.specs.package.steps.Packages.{PackageView}
use Rattle.front_conn.specs.steps.States.{ConnectionState, MayCome}
use Rattle.front_conn_works.specs.Works.{works_of}

-- what a step begins: the work that is in work behind it, where none was before
abbrev pub begun_by : {S : Type 0} → (before behind : Option (PackageView S)) → List Work
begun_by None (Some view) = view.work ∷ []
begun_by before behind = []

module _ {W : Type 0} (w : world.Ghosts W) (route : Route) where
  -- the works of a new client's course under some causes, which these marks are of
  pub record AreWorksOf (whole : Course) (marks : List Mark) (begun : List Work) : Type 0 where
    pub causes : List Cause
    pub of_marks : marks_of causes ≡ marks
    pub works : begun ≡ works_of w route new_client whole causes

  -- the octets in front of the rest are units, and these are the works that they ask
  pub record AreWorksBefore (rest bytes : List ℕ) (marks : List Mark)
      (begun : List Work) : Type 0 where
    pub units : List Received
    pub each : AllByRecursion IsReceived units
    pub spelled : bytes ≡ octets_of units ++ rest
    pub works : AreWorksOf (course route at_the_start units) marks begun

  -- all octets of a connection are of one course, and these are the works that it asks
  pub record AreWorksIn (bytes : List ℕ) (marks : List Mark) (begun : List Work) : Type 0 where
    pub whole : Course
    pub is_whole : IsConnection route bytes whole
    pub works : AreWorksOf whole marks begun

module _ {W S : Type 0} (w : world.Ghosts W) (route : Route) (fed : List ℕ)
    (state : ConnectionState S) (begun : List Work) where
  -- by whether the connection has ended: the works of the units that were taken; or those of all
  -- octets, whatever may still come
  abbrev pub HasBegunBy : Option End → Type 0
  HasBegunBy None = AreWorksBefore w route state.left fed state.marks begun
  HasBegunBy (Some end) =
      (more : List ℕ) → MayCome state.has_ended more
      → AreWorksIn w route (fed ++ more) state.marks begun

  -- these works were begun, in this order, of a connection of units that was fed such octets
  abbrev pub HasBegun : Type 0
  HasBegun = HasBegunBy state.end
