-- For contracts alone: which works a connection begins (this project's own). What is said is of
-- connections of units: a GET of HTTP begins a search and then a fetch, which `sru_rules` has, and
-- of it nothing is said here
use Rattle.std.specs.Prelude.{◌≡◌, ◌≢◌, ℕ, Bool, false, List, [], ◌∷◌, ◌++◌, None, Some}
use Rattle.z_types.specs.Chains.{GoesThrough, last_of}
use Rattle.z_types.specs.declared.marks.End.{End}
use Rattle.z_types.specs.declared.sitting.Sitting as sitting
use Rattle.z_types.specs.declared.work.Work.{Work}
use Rattle.z_types.specs.declared.world.World as world
use Rattle.route_config.specs.declared.route.Route.{Route}
use Rattle.front_conn.specs.gateway_rules.Answers.{kind_of, letter}
use Rattle.front_conn.specs.gateway_rules.Course.{Course}
use Rattle.front_conn.specs.gateway_rules.Fair.{IsFair}
use Rattle.front_conn.specs.gateway_rules.Marks.{Cause}
use Rattle.front_conn.specs.gateway_rules.Runs.{marks_of}
use Rattle.front_conn.specs.gateway_rules.State.{ClientState}
use Rattle.front_conn.specs.front_session.Sessions.{new_session}
use Rattle.front_conn.specs.package.steps.Packages.{PackageView}
use Rattle.front_conn.specs.declared.stepped.Stepped.{Stepped}
use Rattle.front_conn.specs.declared.stepped.Stepped.TheVariants.{Memory}
use Rattle.front_conn.specs.steps.Answering.{Outside}
use Rattle.front_conn.specs.steps.Feeding.{with_end, with_piece, without_out}
use Rattle.front_conn.specs.steps.States.{ConnectionState, IsStateOf, nothing_yet}
use Rattle.front_conn.specs.steps.Steps.{IsStepped, KeepsState, UnlessMemory}
use Rattle.front_conn_works.specs.Works.{works_of}
use Rattle.front_conn_works.specs.steps.Begun.{AreWorksIn, HasBegun, begun_by}
use Rattle.front_conn_works.specs.steps.Through.{AreWorksSince, GoesOn, Point, at_first, begun_through}

-- the works of a course follow from the marks of its causes
abbrev pub MarksDecide : {W : Type 0} → world.Ghosts W → Type 0
MarksDecide w =
    (route : Route) (client : ClientState) (whole : Course) (causes others : List Cause)
    → marks_of causes ≡ marks_of others
    → works_of w route client whole causes ≡ works_of w route client whole others

-- no connection has begun two lists of works
abbrev pub BegunIsOne : {W : Type 0} → world.Ghosts W → (S : Type 0) → Type 0
BegunIsOne w S =
    (route : Route) (fed : List ℕ) (state : ConnectionState S) (begun other : List Work)
    → HasBegun w route fed state begun → HasBegun w route fed state other → begun ≡ other

-- a new connection has begun none
abbrev pub BeginsNone : {W : Type 0} → world.Ghosts W → (S : Type 0) → Type 0
BeginsNone w S = (route : Route) → HasBegun w route [] (nothing_yet {S = S} new_session) []

module _ {W S : Type 0} (w : world.Ghosts W) (t : sitting.Ghosts S W) where
  -- behind a step that did not run out of memory, what was begun before it was begun, and then what
  -- it begins
  abbrev pub StepsBegin : Type 0
  StepsBegin =
      (exact : Bool) (route : Route) (now : ℕ) (fed written : List ℕ) (old new : ConnectionState S)
      (answer : Stepped) (before behind : Outside S) (begun : List Work)
      → IsFair w route → kind_of fed ≢ letter → IsStateOf w route fed written old
      → IsStepped w t exact route now old new answer before behind
      → UnlessMemory answer (KeepsState w route old new) → HasBegun w route fed old begun
      → UnlessMemory answer (HasBegun w route fed new (begun ++ begun_by old.in_work new.in_work))

  -- a step that does begins nothing
  abbrev pub LacksAndBeginsNone : Type 0
  LacksAndBeginsNone =
      (exact : Bool) (route : Route) (now : ℕ) (old new : ConnectionState S)
      (before behind : Outside S)
      → IsStepped w t exact route now old new Memory before behind
      → begun_by old.in_work new.in_work ≡ []

-- the last of works
pub record IsLastOf (begun : List Work) (work : Work) : Type 0 where
  pub earlier : List Work
  pub is : begun ≡ earlier ++ work ∷ []

-- where a request is in work, its work is the last that was begun
abbrev pub LastIsInWork : {W : Type 0} → world.Ghosts W → (S : Type 0) → Type 0
LastIsInWork w S =
    (route : Route) (fed written : List ℕ) (state : ConnectionState S) (view : PackageView S)
    (begun : List Work)
    → kind_of fed ≢ letter → IsStateOf w route fed written state → state.end ≡ None
    → state.in_work ≡ Some view → HasBegun w route fed state begun → IsLastOf begun view.work

-- what a connection has begun that has ended are the works of the course of all its octets
abbrev pub EndedIsWhole : {W : Type 0} → world.Ghosts W → (S : Type 0) → Type 0
EndedIsWhole w S =
    (route : Route) (fed : List ℕ) (state : ConnectionState S) (end : End) (begun : List Work)
    → state.end ≡ Some end → HasBegun w route fed state begun
    → AreWorksIn w route fed state.marks begun

-- ---- between steps

-- a piece that comes, the end of the input and what is written begin nothing
pub record StaysBegun {W S : Type 0} (w : world.Ghosts W) (route : Route) (fed : List ℕ)
    (state : ConnectionState S) (begun : List Work) : Type 0 where
  pub fed_on : (piece : List ℕ) → state.has_ended ≡ false
      → HasBegun w route (fed ++ piece) (with_piece state piece) begun
  pub ended : HasBegun w route fed (with_end state) begun
  pub written : HasBegun w route fed (without_out state) begun

abbrev pub StaysSoBegun : {W : Type 0} → world.Ghosts W → (S : Type 0) → Type 0
StaysSoBegun w S =
    (route : Route) (fed : List ℕ) (state : ConnectionState S) (begun : List Work)
    → HasBegun w route fed state begun → StaysBegun w route fed state begun

-- ---- all that a connection goes through

module _ {W S : Type 0} (w : world.Ghosts W) (t : sitting.Ghosts S W) where
  -- from wherever it stands, what was begun there, and then what its steps begin
  abbrev pub GoesBegin : Type 0
  GoesBegin =
      (exact : Bool) (route : Route) (start : Point S) (points : List (Point S)) (begun : List Work)
      → IsFair w route → kind_of (last_of start points).fed ≢ letter
      → IsStateOf w route start.fed start.written start.state
      → GoesThrough (GoesOn w t exact route) start points
      → HasBegun w route start.fed start.state begun
      → HasBegun w route (last_of start points).fed (last_of start points).state
      (begun ++ begun_through start points)

  -- so from its start: the works that its steps begin, and no others, are those of its units
  abbrev pub RunsBegin : Type 0
  RunsBegin =
      (exact : Bool) (route : Route) (points : List (Point S))
      → IsFair w route → kind_of (last_of at_first points).fed ≢ letter
      → GoesThrough (GoesOn w t exact route) at_first points
      → HasBegun w route (last_of at_first points).fed (last_of at_first points).state
      (begun_through at_first points)

  -- from where it rests to where it has not ended: the works that its steps begin are those of the
  -- units that they take
  abbrev pub RestsThenBegins : Type 0
  RestsThenBegins =
      (exact : Bool) (route : Route) (start : Point S) (points : List (Point S))
      → IsFair w route → kind_of (last_of start points).fed ≢ letter
      → IsStateOf w route start.fed start.written start.state → start.state.end ≡ None
      → start.state.in_work ≡ None → GoesThrough (GoesOn w t exact route) start points
      → (last_of start points).state.end ≡ None
      → AreWorksSince w route start (last_of start points) (begun_through start points)
