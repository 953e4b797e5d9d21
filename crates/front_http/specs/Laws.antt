-- For contracts alone: what heads and GETs lead to (this project's own)
use Rattle.std.specs.Prelude.{◌≡◌, ℕ, List, ◌++◌, Option, Some, option_to_list, Result}
use Rattle.z_types.specs.declared.marks.End.{End}
use Rattle.z_types.specs.declared.marks.Mark.{Mark}
use Rattle.z_types.specs.declared.outcome.Outcome.{Outcome}
use Rattle.z_types.specs.declared.work.Work.{Work}
use Rattle.z_types.specs.declared.world.World as world
use Rattle.route_config.specs.declared.route.Route.{Route}
use Rattle.front_sru.specs.gateway_rules.Answers.{kind_of, letter}
use Rattle.front_sru.specs.gateway_rules.Marks.{Cause, IsAllowed}
use Rattle.front_sru.specs.gateway_rules.Outcomes.{classes_asked, outcome_of}
use Rattle.sru_request.specs.declared.faults.HeadFault.{HeadFault}
use Rattle.sru_request.specs.declared.head.Get.{Get}
use Rattle.front_sru.specs.Gets.{IsEnded, Served, work_of}
use Rattle.front_sru.specs.declared.begun.Begun.{Begun}
use Rattle.front_sru.specs.declared.begun.Begun.TheVariants as begun
use Rattle.front_sru.specs.declared.state.SruStage.{SruStage}
use Rattle.front_http.specs.Gets.{GoesOnBehind, IsAnswered, StandsInGet}
use Rattle.front_http.specs.Heads.{IsHeadBegun}
use Rattle.front_http.specs.Seeking.{IsHeadOf}

module _ {W : Type 0} (w : world.Ghosts W) where
  -- what a head was answered at once is the answer to its connection, whatever comes behind it
  abbrev pub HeadsAnswer : Type 0
  HeadsAnswer =
      (route : Route) (octets : List ℕ) (head : Result Get HeadFault) (old new : Served)
      (mark : Option Mark) (end : Option End)
      → kind_of octets ≡ letter → IsHeadOf octets head
      → IsHeadBegun route head old new (begun.Write mark end)
      → IsAnswered w route octets (option_to_list mark) old.out new.out end

  -- a head for which a work is begun is a GET that waits for it
  abbrev pub HeadsStand : Type 0
  HeadsStand =
      (route : Route) (octets : List ℕ) (head : Result Get HeadFault) (old new : Served)
      (job : Work)
      → IsHeadOf octets head → IsHeadBegun route head old new (begun.Work job)
      → StandsInGet w route octets new.stage × (new.out ≡ old.out)

  -- behind a work that a GET waited for it goes on, under any cause that may come
  abbrev pub GetsGoOn : Type 0
  GetsGoOn =
      (route : Route) (octets : List ℕ) (old new : Served) (job : Work) (got : Outcome)
      (cause : Cause) (answer : Begun)
      → kind_of octets ≡ letter → StandsInGet w route octets old.stage
      → work_of route old.stage ≡ Some job → got ≡ outcome_of w route job cause
      → IsAllowed (record { classes = classes_asked route job; cause = cause })
      → IsEnded route got old new answer → GoesOnBehind w route octets cause old new answer

  -- and whatever follows the octets, it stands there
  abbrev pub GetsStand : Type 0
  GetsStand =
      (route : Route) (octets more : List ℕ) (stage : SruStage)
      → StandsInGet w route octets stage → StandsInGet w route (octets ++ more) stage
