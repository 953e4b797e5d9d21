-- How a unit or a head is begun and its request answered (ANSI/NISO Z39.50-2003, 4.2; SRU 1.2)
use Rattle.std.specs.Prelude.{◌≡◌, ◌⊎◌, ℕ, ◌+◌, ◌||◌, Bool, List, [], ◌∷◌, ◌++◌, Option, None, Some, Result, Ok, Err, IfSome, option_to_list, take}
use Rattle.z_types.specs.declared.marks.End.{End}
use Rattle.z_types.specs.declared.marks.End.TheVariants as how
use Rattle.z_types.specs.declared.marks.End.TheVariants.{Closed, Malformed, Limited}
use Rattle.z_types.specs.declared.marks.Mark.{Mark}
use Rattle.z_types.specs.declared.memory.Memory.{Memory as NoMemory}
use Rattle.z_types.specs.declared.requests.Request.{Request}
use Rattle.z_types.specs.declared.sitting.Sitting as sitting
use Rattle.z_types.specs.declared.work.Work.{Work}
use Rattle.z_types.specs.declared.world.World as world
use Rattle.route_config.specs.declared.route.Route.{Route}
use Rattle.unit_forms.specs.Replies.{spell_reply}
use Rattle.front_z.specs.gateway_rules.Course.{accepts}
use Rattle.front_z.specs.gateway_rules.Marks.{Cause}
use Rattle.front_z.specs.gateway_rules.Session.{answered}
use Rattle.front_z.specs.front_session.Sessions.{SessionState, Waiting, client_of, new_session}
use Rattle.front_z.specs.Units.{IsBegun, IsEnded, Served}
use Rattle.front_z.specs.declared.units.Begun.{Begun}
use Rattle.front_z.specs.declared.units.Begun.TheVariants as begun
use Rattle.package.specs.leg.Deeds.{BackendView}
use Rattle.package.specs.leg.LegView.{LegView}
use Rattle.package.specs.leg.Turns.{DoorView}
use Rattle.package.specs.leg.declared.answers.Turned.{Turned}
use Rattle.package.specs.leg.declared.answers.Turned.TheVariants as turned
use Rattle.package.specs.steps.Ends.{cause_in, outcome_in}
use Rattle.package.specs.steps.Packages.{IsOver, IsPackageOf, PackageView, all_accounts, new_package}
use Rattle.package.specs.steps.Turns.{IsPackageTurn}
use Rattle.front_conn.specs.declared.stepped.Stepped.{Stepped}
use Rattle.front_conn.specs.declared.stepped.Stepped.TheVariants.{Memory, NotYet, Went}
use Rattle.front_conn.specs.declared.totals.Total.{Total}
use Rattle.sru_request.specs.declared.faults.HeadFault.{HeadFault}
use Rattle.sru_request.specs.declared.head.Get.{Get}
use Rattle.front_http.specs.front_sru.Gets as sru
use Rattle.front_http.specs.front_sru.declared.begun.Begun as sru_begun
use Rattle.front_http.specs.front_sru.declared.begun.Begun.TheVariants as get
use Rattle.front_http.specs.front_sru.declared.state.SruStage.{SruStage}
use Rattle.front_http.specs.front_sru.declared.state.SruStage.TheVariants.{Idle}
use Rattle.front_http.specs.Heads.{IsHeadBegun}
use Rattle.front_conn.specs.steps.States.{HaveMeantHits, IsOneWork}
use Rattle.front_conn.specs.steps.Totals.{totals_after, totals_for}

-- what answers a client: its session, where its GET stands, the request in work, what legs counted,
-- the marks, and what is to be written
pub record AnsweringState (S : Type 0) : Type 0 where
  pub session : SessionState
  pub stage : SruStage
  pub in_work : Option (PackageView S)
  pub totals : List Total
  pub marks : List Mark
  pub out : List ℕ

-- nothing was answered
abbrev pub nothing_answered : {S : Type 0} → AnsweringState S
nothing_answered = record {
  session = new_session;
  stage = Idle;
  in_work = None;
  totals = [];
  marks = [];
  out = [];
}

-- its session, and what was written
abbrev pub served : {S : Type 0} → AnsweringState S → Served
served state = record { session = state.session; out = state.out }

-- its GET, and what was written
abbrev pub get_served : {S : Type 0} → AnsweringState S → sru.Served
get_served state = record { stage = state.stage; out = state.out }

-- ---- a unit

-- a unit ends the connection by itself alone, if it does: it is a Close, none or out of its place,
-- or beyond the last
abbrev pub EndsByUnit : Option End → Type 0
EndsByUnit None = Unit {0}
EndsByUnit (Some Closed) = Unit {0}
EndsByUnit (Some (Malformed at)) = Unit {0}
EndsByUnit (Some Limited) = Unit {0}
EndsByUnit other = ⊥

-- how a connection has ended behind what was done, and what the step answers
abbrev pub IsEndAfter : Result (Option End) NoMemory → Option End → Stepped → Type 0
IsEndAfter (Ok ended) end answer = (end ≡ ended) × (answer ≡ Went)
IsEndAfter (Err memory) end answer = (end ≡ Some how.Memory) × (answer ≡ Memory)

-- the sums of a connection's classes are made, or not yet
abbrev pub AreMade : Route → (old new : List Total) → Type 0
AreMade route old new = (new ≡ old) ⊎ (new ≡ totals_for route old)

module _ {S : Type 0} where
  -- nothing was written, and no mark listed
  pub record IsUnwritten (old new : AnsweringState S) : Type 0 where
    pub out : new.out ≡ old.out
    pub marks : new.marks ≡ old.marks

  -- the same, and no package is begun
  pub record IsUnbegun (route : Route) (old new : AnsweringState S) : Type 0 where
    pub unwritten : IsUnwritten old new
    pub in_work : new.in_work ≡ None
    pub totals : AreMade route old.totals new.totals

-- the mark of a request is listed, and the connection ends so, if it does; without memory what was
-- written is taken back
abbrev pub IsListed : {S : Type 0} → Option Mark → Option End → (written : ℕ)
    → (old new : AnsweringState S) → Result (Option End) NoMemory → Type 0
IsListed mark end written old new (Ok ended) =
    (ended ≡ end) × (new ≡ record old { marks = old.marks ++ option_to_list mark })
IsListed mark end written old new (Err memory) = new ≡ record old { out = take written old.out }

module _ {S : Type 0} (route : Route) where
  -- what is kept behind a unit: it was answered at once, and has ended the connection so, if it
  -- did; or the package of its work is begun
  abbrev pub IsKeptBehind : (old new : AnsweringState S) → Option End → Begun → Type 0
  IsKeptBehind old new ended (begun.Write mark end) =
      (ended ≡ end) × (new.marks ≡ old.marks ++ option_to_list mark) × (new.in_work ≡ None)
      × (new.totals ≡ totals_for route old.totals)
  IsKeptBehind old new ended (begun.Work job) =
      (ended ≡ None) × (new.marks ≡ old.marks) × (new.in_work ≡ Some (new_package route job))
      × (new.totals ≡ totals_for route old.totals)
  IsKeptBehind old new ended begun.Memory = ⊥

  -- a unit at an offset was begun, and what is kept behind it; no GET waits
  pub record IsUnitBegun (at : ℕ) (unit : List ℕ) (old new : AnsweringState S)
      (ended : Option End) : Type 0 where
    pub answer : Begun
    pub begun : IsBegun route at unit (served old) (served new) answer
    pub kept : IsKeptBehind old new ended answer
    pub idle : new.stage ≡ Idle

  -- what is kept behind a head: it was answered at once, and has ended the connection so; or the
  -- package of the GET's search is begun
  abbrev pub IsKeptBehindHead : (old new : AnsweringState S) → Option End → sru_begun.Begun → Type 0
  IsKeptBehindHead old new ended (get.Write mark end) =
      (ended ≡ end) × (new.marks ≡ old.marks ++ option_to_list mark) × (new.in_work ≡ None)
      × (new.totals ≡ totals_for route old.totals)
  IsKeptBehindHead old new ended (get.Work job) =
      (ended ≡ None) × (new.marks ≡ old.marks) × (new.in_work ≡ Some (new_package route job))
      × (new.totals ≡ totals_for route old.totals)
  IsKeptBehindHead old new ended get.Memory = ⊥

  -- a head was begun, and what is kept behind it; the session is no part of this
  pub record IsHeadTaken (head : Result Get HeadFault) (old new : AnsweringState S)
      (ended : Option End) : Type 0 where
    pub answer : sru_begun.Begun
    pub begun : IsHeadBegun route head (get_served old) (get_served new) answer
    pub kept : IsKeptBehindHead old new ended answer
    pub session : new.session ≡ old.session

  -- the package of a work is begun
  abbrev pub with_package : Work → AnsweringState S → AnsweringState S
  with_package job old = record old { in_work = Some (new_package route job) }

  -- ---- a request in work

  -- the request that waited is answered by what came of its legs, under the mark of their cause
  pub record IsAnsweredBy (view : PackageView S) (old new : AnsweringState S) : Type 0 where
    pub waiting : Waiting
    pub waited : old.session.waiting ≡ Some waiting
    pub of_work : waiting.work ≡ view.work
    pub ended : IsEnded (served old) (served new) waiting (outcome_in route view)
    pub marks : new.marks ≡ old.marks ++ (cause_in route view).mark ∷ []

  -- where memory could be had; this ends no connection
  abbrev pub IsRequestEndedIf : PackageView S → (old new : AnsweringState S)
      → Result (Option End) NoMemory → Type 0
  IsRequestEndedIf view old new (Ok ended) =
      (ended ≡ None) × (new.in_work ≡ None) × (new.stage ≡ old.stage) × IsAnsweredBy view old new
  IsRequestEndedIf view old new (Err memory) = IsUnwritten old new × (new.in_work ≡ None)

  -- what is kept behind a work of a GET: the GET was answered under the mark of the cause of its
  -- legs, and has ended the connection so; or the package of its fetch is begun
  abbrev pub IsKeptBehindGet : PackageView S → (old new : AnsweringState S) → Option End
      → sru_begun.Begun → Type 0
  IsKeptBehindGet view old new ended (get.Write mark end) =
      (ended ≡ end) × (new.marks ≡ old.marks ++ (cause_in route view).mark ∷ [])
      × (new.in_work ≡ None)
  IsKeptBehindGet view old new ended (get.Work job) =
      (ended ≡ None) × (new.marks ≡ old.marks) × (new.in_work ≡ Some (new_package route job))
  IsKeptBehindGet view old new ended get.Memory = ⊥

  -- the work that a GET waited for was ended by what came of its legs; the session is no part of
  -- this
  pub record IsGetEnded (view : PackageView S) (old new : AnsweringState S)
      (ended : Option End) : Type 0 where
    pub answer : sru_begun.Begun
    pub went : sru.IsEnded route (outcome_in route view) (get_served old) (get_served new) answer
    pub kept : IsKeptBehindGet view old new ended answer
    pub session : new.session ≡ old.session

  -- where memory could be had
  abbrev pub IsGetEndedIf : PackageView S → (old new : AnsweringState S)
      → Result (Option End) NoMemory → Type 0
  IsGetEndedIf view old new (Ok ended) = IsGetEnded view old new ended
  IsGetEndedIf view old new (Err memory) = IsUnwritten old new × (new.in_work ≡ None)

  -- by where a GET stands that waits
  abbrev pub EndsAt : SruStage → PackageView S → (old new : AnsweringState S)
      → Result (Option End) NoMemory → Type 0
  EndsAt Idle view old new done = IsRequestEndedIf view old new done
  EndsAt stage view old new done = IsGetEndedIf view old new done

  -- a package that is over: what its legs counted is added to the sums, and its request is
  -- answered, or a GET goes on
  pub record EndsWork (view : PackageView S) (old new : AnsweringState S)
      (done : Result (Option End) NoMemory) : Type 0 where
    pub over : IsOver view
    pub totals : new.totals ≡ totals_after old.totals (all_accounts view)
    pub went : EndsAt old.stage view old new done

  -- and how the connection has ended, and what the step answers
  pub record IsOverThen (view : PackageView S) (old new : AnsweringState S) (answer : Stepped)
      (end : Option End) : Type 0 where
    pub done : Result (Option End) NoMemory
    pub ends : EndsWork view old new done
    pub after : IsEndAfter done end answer

  -- what a step answers, what is kept, and how the connection has ended, where the turn of the
  -- package in work answered this
  abbrev pub WorksOn : Turned → PackageView S → (old new : AnsweringState S) → Stepped
      → Option End → Type 0
  WorksOn turned.Went next old new answer end =
      (answer ≡ Went) × (new ≡ record old { in_work = Some next }) × (end ≡ None)
  WorksOn turned.NotYet next old new answer end =
      (answer ≡ NotYet) × (new ≡ record old { in_work = Some next }) × (end ≡ None)
  WorksOn turned.Done next old new answer end = IsOverThen next old new answer end
  WorksOn turned.Memory next old new answer end =
      (answer ≡ Memory) × (new ≡ record old { in_work = Some next }) × (end ≡ Some how.Memory)

module _ {W S : Type 0} (w : world.Ghosts W) (t : sitting.Ghosts S W) (route : Route) where
  -- a package of the route is begun; without memory nothing is
  abbrev pub IsWorkBegun : Work → (old new : AnsweringState S)
      → Result (Option End) NoMemory → Type 0
  IsWorkBegun job old new (Ok ended) =
      (ended ≡ None) × (new ≡ with_package route job old)
      × ((most : ℕ) → IsPackageOf w t route most (new_package route job))
  IsWorkBegun job old new (Err memory) = new ≡ old

  -- a package in work is one of the route, and of the work that waits
  pub record IsReady (new : AnsweringState S) : Type 0 where
    pub of : (most : ℕ) → IfSome new.in_work (IsPackageOf w t route most)
    pub one_work : IsOneWork route new.session.waiting new.stage new.in_work

  -- a unit was begun, and it is so behind it; without memory nothing was written
  abbrev pub IsBegunSo : (at : ℕ) → (unit : List ℕ) → (old new : AnsweringState S)
      → Result (Option End) NoMemory → Type 0
  IsBegunSo at unit old new (Ok ended) = IsUnitBegun route at unit old new ended × IsReady new
  IsBegunSo at unit old new (Err memory) = IsUnbegun route old new

  -- the same of a head
  abbrev pub IsHeadBegunSo : Result Get HeadFault → (old new : AnsweringState S)
      → Result (Option End) NoMemory → Type 0
  IsHeadBegunSo head old new (Ok ended) = IsHeadTaken route head old new ended × IsReady new
  IsHeadBegunSo head old new (Err memory) = IsUnbegun route old new

-- what stands outside of a connection: its door and its backend
pub record Outside (S : Type 0) : Type 0 where
  pub door : DoorView S
  pub backend : BackendView

-- the package in work had its turn, and all that was called is what its legs called; where the
-- connection goes on, a package in work is one of the route, and of the work that waits
pub record TurnsWork {W S : Type 0} (w : world.Ghosts W) (t : sitting.Ghosts S W) (exact : Bool)
    (route : Route) (now : ℕ) (view : PackageView S) (old new : AnsweringState S) (answer : Stepped)
    (end : Option End) (before behind : Outside S) : Type 0 where
  pub next : PackageView S
  pub turned : Turned
  pub law : IsPackageTurn w t exact route now view next turned before.door behind.door
      before.backend behind.backend
  pub of : IsPackageOf w t route behind.door.counts.most next
  pub works : WorksOn route turned next old new answer end
  pub ready : end ≡ None → IfSome new.in_work (IsPackageOf w t route behind.door.counts.most)
  pub one_work : end ≡ None → IsOneWork route new.session.waiting new.stage new.in_work

-- what the legs of a package in work counted is added to the sums
abbrev pub totals_of_all : {S : Type 0} → Option (PackageView S) → List Total → List Total
totals_of_all None totals = totals
totals_of_all (Some view) totals = totals_after totals (all_accounts view)

-- the legs in work
abbrev pub legs_in : {S : Type 0} → Option (PackageView S) → List (LegView S)
legs_in None = []
legs_in (Some view) = view.first ++ view.later

-- a connection that is given up: what the legs in work counted is added to the sums
abbrev pub given_up : {S : Type 0} → AnsweringState S → AnsweringState S
given_up state = record state { in_work = None; totals = totals_of_all state.in_work state.totals }

-- ---- the answer

-- a request was answered under a cause as the targets mean it, and the sets have the hits that they
-- mean
pub record IsAnsweredUnder {W : Type 0} (w : world.Ghosts W) (route : Route) (request : Request)
    (cause : Cause) (old new : Served) : Type 0 where
  pub written : new.out
      ≡ old.out ++ spell_reply (answered w route (client_of old.session) request cause).reply
  pub client : client_of new.session
      ≡ (answered w route (client_of old.session) request cause).client
  pub accepted : new.session.accepted ≡ (old.session.accepted || accepts route (Some request))
  pub units : new.session.units ≡ old.session.units + 1
  pub waits_not : new.session.waiting ≡ None
  pub sets : HaveMeantHits w route new.session
