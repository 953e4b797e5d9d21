-- Where a connection stands in its session (ANSI/NISO Z39.50-2003, 4.2), or in its GET (SRU 1.2)
use Rattle.std.specs.Prelude.{◌≡◌, ℕ, ◌<◌, Bool, true, false, List, [], ◌∷◌, ◌++◌, length, All, Option, None, Some, IfSome, Ok}
use Rattle.std.specs.List.{AllByRecursion}
use Rattle.z_types.specs.declared.known_set.KnownSet.{KnownSet}
use Rattle.z_types.specs.declared.marks.Mark.{Mark}
use Rattle.z_types.specs.declared.marks.End.{End}
use Rattle.z_types.specs.declared.requests.Request.{Request}
use Rattle.z_types.specs.declared.sitting.Sitting as sitting
use Rattle.z_types.specs.declared.work.Work.{Work}
use Rattle.z_types.specs.declared.world.World as world
use Rattle.z_types.specs.Under.{under}
use Rattle.z_types.specs.Bounds.{within64}
use Rattle.route_config.specs.declared.route.Route.{Route}
use Rattle.front_z.specs.gateway_rules.Answers as kind
use Rattle.front_z.specs.gateway_rules.Answers.{IsReceived, kind_of}
use Rattle.front_z.specs.gateway_rules.Asking.{asked, works}
use Rattle.front_z.specs.gateway_rules.Course.{Received, due, met, octets_of}
use Rattle.front_z.specs.gateway_rules.Marks.{Cause}
use Rattle.front_z.specs.gateway_rules.Runs.{HasRunSoFar, marks_of, written_as}
use Rattle.front_z.specs.gateway_rules.Session.{Run, standing as stands_there}
use Rattle.front_z.specs.gateway_rules.Targets.{hits_of}
use Rattle.front_z.specs.front_session.Admitting.{waits}
use Rattle.front_z.specs.front_session.Sessions.{SessionState, Waiting, client_of, progress_of}
use Rattle.package.specs.steps.Packages.{IsPackageOf, PackageView}
use Rattle.front_http.specs.sru_rules.Answers.{Answers}
use Rattle.front_http.specs.front_sru.Gets.{work_of}
use Rattle.front_http.specs.front_sru.declared.state.SruStage.{SruStage}
use Rattle.front_http.specs.front_sru.declared.state.SruStage.TheVariants.{Idle}
use Rattle.front_http.specs.Gets.{StandsInGet}
use Rattle.front_conn.specs.declared.totals.Total.{Total}

-- a connection: its session, where its GET stands, the legs of the request in work, what the legs
-- of its other requests counted, the marks, what is to be written; the offset of the octets that
-- were not taken, these octets, whether the input has ended; and how it ended, if it did
pub record ConnectionState (S : Type 0) : Type 0 where
  pub session : SessionState
  pub stage : SruStage
  pub in_work : Option (PackageView S)
  pub totals : List Total
  pub marks : List Mark
  pub out : List ℕ
  pub at : ℕ
  pub left : List ℕ
  pub has_ended : Bool
  pub end : Option End

-- nothing has come
abbrev pub nothing_yet : {S : Type 0} → SessionState → ConnectionState S
nothing_yet session = record {
  session = session;
  stage = Idle;
  in_work = None;
  totals = [];
  marks = [];
  out = [];
  at = 0;
  left = [];
  has_ended = false;
  end = None;
}

-- the session's request waits for this work
abbrev pub IsWaitedFor : Option Waiting → Work → Type 0
IsWaitedFor None job = ⊥
IsWaitedFor (Some waiting) job = waiting.work ≡ job

-- and so does its GET, where it stands in one
abbrev pub IsWaitedAt : Route → Option Waiting → Work → SruStage → Type 0
IsWaitedAt route waiting job Idle = IsWaitedFor waiting job
IsWaitedAt route waiting job stage = work_of route stage ≡ Some job

-- a package in work is of the work that waits
abbrev pub IsOneWork : {S : Type 0} → Route → Option Waiting → SruStage
    → Option (PackageView S) → Type 0
IsOneWork route waiting stage None = Unit {0}
IsOneWork route waiting stage (Some view) = IsWaitedAt route waiting view.work stage

-- ---- of one route

-- the legs of a set are the route's
abbrev pub HasLegsOf : Route → KnownSet → Type 0
HasLegsOf route set = All (λ leg. leg < length route.legs) set.legs

-- the sets that are kept, and the package in work and the work that waits for it, are of the route
pub record IsOfRoute {W S : Type 0} (w : world.Ghosts W) (t : sitting.Ghosts S W)
    (route : Route) (most : ℕ) (session : SessionState) (stage : SruStage)
    (works : Option (PackageView S)) : Type 0 where
  pub sets : AllByRecursion (HasLegsOf route) session.sets
  pub in_work : IfSome works (IsPackageOf w t route most)
  pub one_work : IsOneWork route session.waiting stage works

-- a connection whose steps are all given the route, and doors that open so many sessions of a class
-- at most
abbrev pub IsConnOf : {W S : Type 0} → world.Ghosts W → sitting.Ghosts S W → Route → (most : ℕ)
    → ConnectionState S → Type 0
IsConnOf w t route most state =
    state.end ≡ None → IsOfRoute w t route most state.session state.stage state.in_work

-- ---- in its session

-- each set that is kept has the hits that the targets mean
abbrev pub HasMeantHits : {W : Type 0} → world.Ghosts W → Route → KnownSet → Type 0
HasMeantHits w route set = hits_of w route set.legs set.query ≡ Ok set.hits

-- before an Init is accepted no set is kept; behind it each has the hits that the targets mean
-- under the login that it settled
pub record HaveMeantHits {W : Type 0} (w : world.Ghosts W) (route : Route)
    (session : SessionState) : Type 0 where
  pub none_before : session.accepted ≡ false → session.sets ≡ []
  pub each : AllByRecursion (HasMeantHits (under session.agreed.login w) route) session.sets

-- Units were answered under causes that these marks are of, each allowed where it stands. The
-- replies were written, and the client is as they left it; its sets have the hits that the targets
-- mean.
pub record HasAnswered {W : Type 0} (w : world.Ghosts W) (route : Route) (units : List Received)
    (marks : List Mark) (written : List ℕ) (session : SessionState) : Type 0 where
  pub causes : List Cause
  pub of_marks : marks_of causes ≡ marks
  pub got : Run
  pub has_run : HasRunSoFar w route units causes got
  pub replies : written ≡ written_as got.replies
  pub client : got.client ≡ client_of session
  pub standing : got.stop ≡ stands_there (progress_of (length (octets_of units)) session)
  pub sets : HaveMeantHits w route session

-- octets that were units at first are those of a connection that begins with no letter
abbrev pub BeginsWithUnits : List Received → List ℕ → Type 0
BeginsWithUnits [] fed = Unit {0}
BeginsWithUnits (unit ∷ units) fed = kind_of fed ≡ kind.unit

-- octets that may still come: none behind the end of the input
abbrev pub MayCome : Bool → List ℕ → Type 0
MayCome true more = more ≡ []
MayCome false more = Unit {0}

module _ {W S : Type 0} (w : world.Ghosts W) (route : Route) (fed written : List ℕ)
    (state : ConnectionState S) where
  -- no request is in work: all units that were taken were answered; their replies were written, in
  -- part before and the others still to be. Of an HTTP connection none is taken.
  pub record Rests : Type 0 where
    pub units : List Received
    pub spelled : fed ≡ octets_of units ++ state.left
    pub kind : BeginsWithUnits units fed
    pub offset : state.at ≡ within64 (length (octets_of units))
    pub answered : HasAnswered w route units state.marks (written ++ state.out) state.session
    pub waits_not : state.session.waiting ≡ None

  -- the request of the last unit that was taken is in work, and the units before it were answered:
  -- the package is for what the request asks of the targets
  pub record Works (view : PackageView S) : Type 0 where
    pub units : List Received
    pub unit : Received
    pub received : IsReceived unit
    pub spelled : fed ≡ octets_of (units ++ unit ∷ []) ++ state.left
    pub kind : kind_of fed ≡ kind.unit
    pub offset : state.at ≡ within64 (length (octets_of (units ++ unit ∷ [])))
    pub before : SessionState
    pub answered : HasAnswered w route units state.marks (written ++ state.out) before
    pub request : Request
    pub is_due : met route (progress_of (length (octets_of units)) before) unit.request
        ≡ due request
    pub asks : asked w route (client_of before) request ≡ works view.work
    pub waits : state.session
        ≡ waits route before request (record { request = request; work = view.work })

  -- the octets begin with a GET, and the package is for the work that it waits for; nothing was
  -- written, and no mark listed
  pub record WorksOnGet (view : PackageView S) : Type 0 where
    pub kind : kind_of fed ≡ kind.letter
    pub stands : StandsInGet w route fed state.stage
    pub of_work : work_of route state.stage ≡ Some view.work
    pub no_marks : state.marks ≡ []
    pub unwritten : written ++ state.out ≡ []

  -- the session's request is in work, or the GET
  abbrev pub WorksAt : SruStage → PackageView S → Type 0
  WorksAt Idle view = Works view
  WorksAt stage view = WorksOnGet view

  -- the octets were answered whole, whatever may still come
  abbrev pub HasEnded : End → Type 0
  HasEnded end =
      (more : List ℕ) → MayCome state.has_ended more
      → Answers w route (fed ++ more) state.marks (written ++ state.out) end

  -- where a connection stands, or how it ended
  abbrev pub StandsOrEnded : Option End → Option (PackageView S) → Type 0
  StandsOrEnded None None = Rests
  StandsOrEnded None (Some view) = WorksAt state.stage view
  StandsOrEnded (Some end) in_work = HasEnded end

  -- of the octets that were fed, where so much was written before
  abbrev pub IsStateOf : Type 0
  IsStateOf = StandsOrEnded state.end state.in_work
