-- What comes of a request by its legs' answers is what its targets mean, and its cause is allowed
-- (this project's own)
use Rattle.std.specs.Prelude.{◌≡◌, ◌<◌, List, [], ◌∷◌, ◌++◌, length, All, Ok, None, Some}
use Rattle.z_types.specs.declared.marks.Mark.{Mark}
use Rattle.z_types.specs.declared.work.Work.{Work}
use Rattle.z_types.specs.declared.work.Work.TheVariants as work
use Rattle.z_types.specs.declared.world.World as world
use Rattle.z_types.specs.Under.{under}
use Rattle.route_config.specs.Sound.{IsSound}
use Rattle.route_config.specs.declared.route.Route.{Route}
use Rattle.gateway_rules.specs.Fair.{IsFair}
use Rattle.gateway_rules.specs.Marks.{IsAllowed}
use Rattle.gateway_rules.specs.Outcomes.{classes_asked, outcome_of}
use Rattle.gateway_rules.specs.Targets.{hits_of}
use Rattle.gateway_rules.specs.Works.{FitsWork, mark_of as mark_of_outcome}
use Rattle.leg.specs.Right.{AnswerFits, IsRight}
use Rattle.leg.specs.Terms.{terms_of}
use Rattle.package_rules.specs.declared.answered.Answered.{Answered}
use Rattle.package_rules.specs.Asked.{Asked, first_asked}
use Rattle.package_rules.specs.Planned.{AreThere, then_asked_by}
use Rattle.package_rules.specs.Said.{cause_of, class_name, finished, mark_of}

-- the hits that a fetch goes by are the world's under its login
abbrev pub HasWorldsHits : {W : Type 0} → world.Ghosts W → Route → Work → Type 0
HasWorldsHits w route (work.Fetch login legs query hits first count syntax element) =
    hits_of (under login w) route legs query ≡ Ok hits
HasWorldsHits w route other = Unit {0}

module _ {W : Type 0} (w : world.Ghosts W) (route : Route) where
  -- a leg answered what it was asked: what fits, and is the world's at one of its class's
  -- addresses inside the login of who asks
  pub record IsAnswerTo (asked : Asked) (answered : Answered) : Type 0 where
    pub leg : answered.leg ≡ asked.leg
    pub fits : AnswerFits asked.task answered.answer
    pub right : IsRight w (terms_of route asked.login asked.leg) asked.task answered.answer

  -- so did each
  abbrev pub AreAnswersTo : List Asked → List Answered → Type 0
  AreAnswersTo [] [] = Unit {0}
  AreAnswersTo (asked ∷ others) (answered ∷ answers) =
      IsAnswerTo asked answered × AreAnswersTo others answers
  AreAnswersTo asked answers = ⊥

  -- the legs of a work answered what they were asked
  pub record AreAnswered (asked : Work) (first later : List Answered) : Type 0 where
    pub at_first : AreAnswersTo (first_asked route asked) first
    pub then : AreAnswersTo (then_asked_by route asked first) later

-- on a fair route, what comes of a work by its legs' answers is what comes of it under the cause:
-- the mark of the first leg that is marked, with its class, or else what the targets mean
abbrev pub FinishedIsOutcome : {W : Type 0} → world.Ghosts W → Type 0
FinishedIsOutcome w =
    (route : Route) (asked : Work) (first later : List Answered) → IsFair w route → IsSound route
    → AreThere route asked → HasWorldsHits w route asked → AreAnswered w route asked first later
    → finished route asked first later ≡ outcome_of w route asked (cause_of route (first ++ later))

-- it has the mark of its cause
abbrev pub FinishedHasMark : Type 0
FinishedHasMark =
    (route : Route) (asked : Work) (first later : List Answered)
    → mark_of_outcome (finished route asked first later) ≡ (cause_of route (first ++ later)).mark

-- on every route it fits the work
abbrev pub FinishedFits : {W : Type 0} → world.Ghosts W → Type 0
FinishedFits w =
    (route : Route) (asked : Work) (first later : List Answered)
    → AreAnswered w route asked first later → FitsWork asked (finished route asked first later)

-- every class has a member
abbrev pub HaveMembers : Route → Type 0
HaveMembers route = All (λ class. 0 < length class.addresses) route.classes

-- the cause of a request is allowed: its mark is Plain, or names the class of a leg that the
-- request asks
abbrev pub CauseIsAllowed : {W : Type 0} → world.Ghosts W → Type 0
CauseIsAllowed w =
    (route : Route) (asked : Work) (first later : List Answered) → IsSound route → HaveMembers route
    → AreThere route asked → AreAnswered w route asked first later
    → IsAllowed
    (record { classes = classes_asked route asked; cause = cause_of route (first ++ later) })

-- the first leg that is marked decides with its class, whatever the others answered
abbrev pub FirstMarkDecides : Type 0
FirstMarkDecides =
    (route : Route) (first : Answered) (others : List Answered) (mark : Mark)
    → mark_of first.answer ≡ Some mark → cause_of route (first ∷ others) ≡ record {
      mark = mark;
      class = class_name route first.leg;
    }

-- and a leg that is not marked leaves it to the others
abbrev pub OthersDecide : Type 0
OthersDecide =
    (route : Route) (first : Answered) (others : List Answered) → mark_of first.answer ≡ None
    → cause_of route (first ∷ others) ≡ cause_of route others
