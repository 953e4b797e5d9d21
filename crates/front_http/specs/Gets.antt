-- For contracts alone: where the GET of a connection stands in its works (SRU 1.2, searchRetrieve)
use Rattle.std.specs.Prelude.{◌≡◌, ℕ, List, [], ◌∷◌, ◌++◌, Option, Some}
use Rattle.z_types.specs.declared.marks.End.{End}
use Rattle.z_types.specs.declared.marks.Mark.{Mark}
use Rattle.z_types.specs.declared.world.World as world
use Rattle.route_config.specs.declared.route.Database.{Database}
use Rattle.route_config.specs.declared.route.Route.{Route}
use Rattle.front_sru.specs.gateway_rules.Marks.{Cause}
use Rattle.front_sru.specs.sru_rules.declared.retrieval.Retrieval.{Retrieval}
use Rattle.front_sru.specs.sru_rules.Answers.{Answers}
use Rattle.front_sru.specs.sru_rules.Course.{HasGet}
use Rattle.front_sru.specs.sru_rules.Reading.{Reading}
use Rattle.front_sru.specs.sru_rules.Run.{due, searches}
use Rattle.front_sru.specs.sru_rules.steps.Works.{HasFound}
use Rattle.front_sru.specs.Gets.{Served}
use Rattle.front_sru.specs.declared.begun.Begun.{Begun}
use Rattle.front_sru.specs.declared.begun.Begun.TheVariants as begun
use Rattle.front_sru.specs.declared.state.SruStage.{SruStage}
use Rattle.front_sru.specs.declared.state.SruStage.TheVariants.{Idle, Searching, Fetching}

module _ {W : Type 0} (w : world.Ghosts W) (route : Route) where
  -- a GET waits for the search of a retrieval, or for its fetch from the hits that the targets mean
  abbrev pub WaitsFor : Retrieval → SruStage → Type 0
  WaitsFor retrieval Idle = ⊥
  WaitsFor retrieval (Searching asked) = asked ≡ retrieval
  WaitsFor retrieval (Fetching asked hits) = (asked ≡ retrieval) × HasFound w route retrieval hits

  -- the octets begin with a GET that is due a search, and it waits so
  pub record StandsInGet (octets : List ℕ) (stage : SruStage) : Type 0 where
    pub database : Database
    pub reading : Reading
    pub has_get : HasGet route octets database reading
    pub retrieval : Retrieval
    pub is_due : due route database reading ≡ searches retrieval
    pub waits : WaitsFor retrieval stage

  -- a message was written that is the answer to a connection which begins with these octets, under
  -- these marks, and the connection has ended so
  pub record IsAnswered (octets : List ℕ) (marks : List Mark) (old new : List ℕ)
      (end : Option End) : Type 0 where
    pub message : List ℕ
    pub written : new ≡ old ++ message
    pub how : End
    pub ended : end ≡ Some how
    pub whole : (more : List ℕ) → Answers w route (octets ++ more) marks message how

  -- the GET goes on behind a work that ended under a cause: it is answered under its mark, or waits
  -- for its next work, and nothing was written
  abbrev pub GoesOnBehind : List ℕ → Cause → (old new : Served) → Begun → Type 0
  GoesOnBehind octets cause old new (begun.Write mark end) =
      (mark ≡ Some cause.mark) × IsAnswered octets (cause.mark ∷ []) old.out new.out end
  GoesOnBehind octets cause old new (begun.Work job) =
      StandsInGet octets new.stage × (new.out ≡ old.out)
  GoesOnBehind octets cause old new begun.Memory = new.out ≡ old.out
