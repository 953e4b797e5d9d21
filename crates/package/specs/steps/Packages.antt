-- The legs of a request together (this project's own)
use Rattle.std.specs.Prelude.{◌≡◌, ℕ, Bool, true, false, List, [], ◌++◌, map, All, Option, None, Some, filter_map, option_map}
use Rattle.z_types.specs.declared.sitting.Sitting as sitting
use Rattle.z_types.specs.declared.work.Work.{Work}
use Rattle.z_types.specs.declared.world.World as world
use Rattle.route_config.specs.declared.route.Route.{Route}
use Rattle.gateway_rules.specs.Works.{CanBegin, IsAskable}
use Rattle.leg.specs.Accounts.{no_account}
use Rattle.leg.specs.LegView.{LegView}
use Rattle.leg.specs.Phases.{answered}
use Rattle.leg.specs.Right.{AnswerFits}
use Rattle.leg.specs.Turns.{IsLegOf}
use Rattle.leg.specs.declared.accounts.Account.{Account}
use Rattle.leg.specs.declared.answers.LegAnswer.{LegAnswer}
use Rattle.leg.specs.declared.phases.Phase.TheVariants.{Begin}
use Rattle.leg.specs.declared.tasks.Task.{Task}
use Rattle.package_rules.specs.declared.answered.Answered.{Answered}
use Rattle.package_rules.specs.Asked.{Asked, first_asked}
use Rattle.package_rules.specs.Planned.{AreThere, then_asked_by}

-- a request's work, the legs for what is asked first, the legs for what is asked then, and whether
-- it is known what that is
pub record PackageView (S : Type 0) : Type 0 where
  pub work : Work
  pub first : List (LegView S)
  pub later : List (LegView S)
  pub planned : Bool

-- there is an answer, and it fits
abbrev pub HasFitting : Task → Option LegAnswer → Type 0
HasFitting task None = ⊥
HasFitting task (Some said) = AnswerFits task said

module _ {S : Type 0} where
  -- ---- what its legs are asked, and what they answered

  -- a leg that is to do what is asked
  abbrev pub begun : Asked → LegView S
  begun asked = record {
    leg = asked.leg;
    login = asked.login;
    task = asked.task;
    phase = Begin;
    account = no_account;
  }

  abbrev pub asked_of : LegView S → Asked
  asked_of leg = record { leg = leg.leg; login = leg.login; task = leg.task }

  -- a package that is begun
  abbrev pub new_package : Route → Work → PackageView S
  new_package route work =
      record {
        work = work;
        first = map begun (first_asked route work);
        later = [];
        planned = false;
      }

  -- the accounts of legs
  abbrev pub accounts_of : List (LegView S) → List Account
  accounts_of legs = map (λ leg. leg.account) legs

  -- those of a package, for what is asked then behind those for what is asked first
  abbrev pub all_accounts : PackageView S → List Account
  all_accounts view = accounts_of (view.first ++ view.later)

  -- what legs answered that are done
  abbrev pub answer_of : LegView S → Option Answered
  answer_of leg = option_map (λ said. record { leg = leg.leg; answer = said }) (answered leg.phase)

  abbrev pub answers_of : List (LegView S) → List Answered
  answers_of legs = filter_map answer_of legs

  -- ---- legs that are done

  -- each leg is done
  abbrev pub AreDone : List (LegView S) → Type 0
  AreDone legs = All (λ leg. HasFitting leg.task (answered leg.phase)) legs

  -- all are, and nothing more is asked
  pub record IsOver (view : PackageView S) : Type 0 where
    pub planned : view.planned ≡ true
    pub first : AreDone view.first
    pub later : AreDone view.later

  -- ---- a package whose calls are all given one route

  -- what is asked then is known once the first legs are done, by what they answered
  abbrev pub IsPlanned : (planned : Bool) → Route → PackageView S → Type 0
  IsPlanned false route view = view.later ≡ []
  IsPlanned true route view =
      AreDone view.first
      × (map asked_of view.later ≡ then_asked_by route view.work (answers_of view.first))

  -- its legs are asked what its work asks, which may be begun and asked
  pub record AsksSo (route : Route) (view : PackageView S) : Type 0 where
    pub there : AreThere route view.work
    pub can_begin : CanBegin view.work
    pub askable : IsAskable view.work
    pub at_first : map asked_of view.first ≡ first_asked route view.work
    pub then : IsPlanned view.planned route view

-- and each is a leg of the route, at a door that opens so many sessions of a class at most
pub record IsPackageOf {W S : Type 0} (w : world.Ghosts W) (t : sitting.Ghosts S W)
    (route : Route) (most : ℕ) (view : PackageView S) : Type 0 where
  pub asks : AsksSo route view
  pub first : All (IsLegOf w t route most) view.first
  pub later : All (IsLegOf w t route most) view.later
