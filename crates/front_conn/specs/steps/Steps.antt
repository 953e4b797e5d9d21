-- One step of a connection (this project's own)
use Rattle.std.specs.Prelude.{◌≡◌, ◌⊎◌, ℕ, ◌<◌, Bool, length, false, true, List, [], ◌∷◌, ◌++◌, Option, None, Some, Result, Ok, IsTrue}
use Rattle.std.specs.Char.{is_ascii_alphabetic}
use Rattle.z_types.specs.declared.marks.End.{End}
use Rattle.z_types.specs.declared.marks.End.TheVariants as how
use Rattle.z_types.specs.declared.sitting.Sitting as sitting
use Rattle.z_types.specs.declared.world.World as world
use Rattle.route_config.specs.declared.route.Route.{Route}
use Rattle.z_ber.specs.Frames.{IsFrame}
use Rattle.front_z.specs.gateway_rules.Answers.{IsOpen, kind_of, letter}
use Rattle.front_z.specs.gateway_rules.Fair.{IsFair}
use Rattle.package.specs.steps.Packages.{PackageView}
use Rattle.sru_request.specs.Request.{IsHeadAnswer}
use Rattle.sru_request.specs.declared.faults.HeadFault.{HeadFault}
use Rattle.sru_request.specs.declared.head.Get.{Get}
use Rattle.sru_request.specs.declared.head.HeadGot.TheVariants.{NeedMore}
use Rattle.front_http.specs.Seeking.{IsHeadOf}
use Rattle.front_conn.specs.steps.Answering.{AnsweringState, EndsByUnit, IsHeadTaken, IsUnbegun, IsUnitBegun, Outside, TurnsWork}
use Rattle.front_conn.specs.steps.States.{ConnectionState, IsStateOf}
use Rattle.front_conn.specs.declared.stepped.Stepped.{Stepped}
use Rattle.front_conn.specs.declared.stepped.Stepped.TheVariants.{Idle, NotYet, Went, Memory}

-- a connection ends without a unit: its input has ended, or begins none
abbrev pub EndsAtRest : (has_ended : Bool) → Option End → Type 0
EndsAtRest has_ended (Some how.Finished) = has_ended ≡ true
EndsAtRest has_ended (Some (how.Cut left)) = has_ended ≡ true
EndsAtRest has_ended (Some (how.Malformed at)) = Unit {0}
EndsAtRest has_ended end = ⊥

-- ---- what there is to do

module _ {S : Type 0} where
  -- the first octet of a connection is an ASCII letter, so that it speaks HTTP
  abbrev pub BeginsWithLetter : ConnectionState S → ℕ → Type 0
  BeginsWithLetter state octet = (state.at ≡ 0) × IsTrue (is_ascii_alphabetic octet)

  -- no whole unit stands in these octets, and more can make one; or behind a letter at the start no
  -- head, and more are needed
  pub record IsUnfinished (state : ConnectionState S) (octet : ℕ) (octets : List ℕ) : Type 0 where
    pub head : BeginsWithLetter state octet → IsHeadAnswer (octet ∷ octets) (Ok NeedMore)
    pub unit : ¬ BeginsWithLetter state octet → IsOpen (octet ∷ octets)

  abbrev pub AreUnfinished : ConnectionState S → List ℕ → Type 0
  AreUnfinished state [] = Unit {0}
  AreUnfinished state (octet ∷ octets) = IsUnfinished state octet octets

  -- no whole request, no head, no bad unit and no end waits
  pub record NothingWaits (state : ConnectionState S) : Type 0 where
    pub goes_on : state.has_ended ≡ false
    pub unfinished : AreUnfinished state state.left

  -- ---- what is done where no request is in work

  -- what answers the client
  abbrev pub answering_of : ConnectionState S → AnsweringState S
  answering_of state = record {
    session = state.session;
    stage = state.stage;
    in_work = state.in_work;
    totals = state.totals;
    marks = state.marks;
    out = state.out;
  }

  -- one whole unit was taken and begun, and has ended the connection by itself alone, if it has
  pub record TakesUnit (route : Route) (old new : ConnectionState S) : Type 0 where
    pub unit : List ℕ
    pub whole : IsFrame unit
    pub filled : 0 < length unit
    pub taken : old.left ≡ unit ++ new.left
    pub begun : IsUnitBegun route old.at unit (answering_of old) (answering_of new) new.end
    pub ended : EndsByUnit new.end

  -- the head of an HTTP connection was begun, of which no octets are taken away; it has ended the
  -- connection by itself alone, if it has
  pub record TakesHead (route : Route) (old new : ConnectionState S) : Type 0 where
    pub at_start : old.at ≡ 0
    pub first : kind_of old.left ≡ letter
    pub head : Result Get HeadFault
    pub is_head : IsHeadOf old.left head
    pub at : new.at ≡ old.at
    pub left : new.left ≡ old.left
    pub taken : IsHeadTaken route head (answering_of old) (answering_of new) new.end
    pub ended : EndsByUnit new.end

  -- no unit was taken, and the connection has ended by the end of its input, where that has come,
  -- or by octets that begin no unit
  pub record EndsByRest (old new : ConnectionState S) : Type 0 where
    pub left : new.left ≡ old.left
    pub at : new.at ≡ old.at
    pub session : new.session ≡ old.session
    pub in_work : new.in_work ≡ old.in_work
    pub totals : new.totals ≡ old.totals
    pub marks : new.marks ≡ old.marks
    pub ended : EndsAtRest old.has_ended new.end

  -- the connection has ended for want of memory: nothing was written, no mark listed, and no
  -- package begun
  pub record IsOutOfMemory (route : Route) (old new : ConnectionState S) : Type 0 where
    pub ended : new.end ≡ Some how.Memory
    pub has_ended : new.has_ended ≡ old.has_ended
    pub unbegun : IsUnbegun route (answering_of old) (answering_of new)

  -- it changed nothing, exactly where there is nothing to do; or it took one unit, one head or one
  -- end; without memory it ended the connection so
  abbrev pub GoesAhead : Route → (old new : ConnectionState S) → Stepped → Type 0
  GoesAhead route old new Idle = NothingWaits old × (new ≡ old)
  GoesAhead route old new NotYet = ⊥
  GoesAhead route old new Went =
      ¬ NothingWaits old × (new.has_ended ≡ old.has_ended)
      × (TakesUnit route old new ⊎ TakesHead route old new ⊎ EndsByRest old new)
  GoesAhead route old new Memory = IsOutOfMemory route old new

  -- ---- what is done where one is

  -- nothing was taken
  pub record IsInputKept (old new : ConnectionState S) : Type 0 where
    pub at : new.at ≡ old.at
    pub left : new.left ≡ old.left
    pub has_ended : new.has_ended ≡ old.has_ended

module _ {W S : Type 0} (w : world.Ghosts W) (t : sitting.Ghosts S W) (exact : Bool) (route : Route)
    (now : ℕ) where
  -- the request in work had its turn, and nothing was taken
  pub record HasTurned (view : PackageView S) (old new : ConnectionState S) (answer : Stepped)
      (before behind : Outside S)
      : Type 0 where
    pub turns : TurnsWork w t exact route now view (answering_of old)
        (answering_of new) answer new.end before behind
    pub input : IsInputKept old new

  -- a connection that has ended does nothing more; one with a request in work turns its package,
  -- and takes nothing; another goes ahead, and calls nothing
  abbrev pub IsStepFrom : Option End → Option (PackageView S)
      → (old new : ConnectionState S) → Stepped → (before behind : Outside S) → Type 0
  IsStepFrom (Some end) in_work old new answer before behind =
      (answer ≡ Idle) × (new ≡ old) × (behind ≡ before)
  IsStepFrom None None old new answer before behind =
      GoesAhead route old new answer × (behind ≡ before)
  IsStepFrom None (Some view) old new answer before behind =
      HasTurned view old new answer before behind

  abbrev pub IsStepped : (old new : ConnectionState S) → Stepped
      → (before behind : Outside S) → Type 0
  IsStepped old new answer before behind =
      IsStepFrom old.end old.in_work old new answer before behind

-- on a fair route, whatever was fed and written before, the connection stands in the session as
-- before, or has ended
abbrev pub KeepsState : {W S : Type 0} → world.Ghosts W → Route
    → (old new : ConnectionState S) → Type 0
KeepsState w route old new =
    IsFair w route → (fed written : List ℕ) → IsStateOf w route fed written old
    → IsStateOf w route fed written new

-- this holds of a step that did not run out of memory
abbrev pub UnlessMemory : Stepped → Type 0 → Type 0
UnlessMemory Memory fact = Unit {0}
UnlessMemory stepped fact = fact
