-- For contracts alone: legs in flight together (this project's own)
use Rattle.std.specs.Prelude.{◌≡◌, ◌⊎◌, ℕ, Bool, true, false, List, [], map, All, Result, Ok, Err, IfOk}
use Rattle.z_types.specs.declared.memory.Memory.{Memory}
use Rattle.z_types.specs.declared.sitting.Sitting as sitting
use Rattle.z_types.specs.declared.world.World as world
use Rattle.route_config.specs.declared.route.Route.{Route}
use Rattle.futures.specs.declared.task.Poll.{Poll}
use Rattle.futures.specs.declared.task.Poll.TheVariants.{Ready, Pending}
use Rattle.leg.specs.Deeds.{BackendView}
use Rattle.leg.specs.LegView.{LegView}
use Rattle.leg.specs.Turns.{DoorView, IsLegOf}
use Rattle.leg.specs.declared.accounts.Account.{Account}
use Rattle.leg.specs.declared.answers.LegAnswer.{LegAnswer}
use Rattle.leg.specs.declared.phases.Phase.{Phase}
use Rattle.leg.specs.declared.phases.Phase.TheVariants.{Done}
use Rattle.package_rules.specs.Asked.{Asked}
use Rattle.package.specs.declared.turning.Round.{Round}
use Rattle.package.specs.steps.Packages.{AreDone, asked_of}
use Rattle.package.specs.steps.Turns.{HaveTurned, all_done, no_round}

-- ---- what legs that are done answer

-- the answer of a leg, and what it counted
abbrev pub Said : Type 0
Said = LegAnswer × Account

module _ {S : Type 0} where
  -- where a leg stands, with what it counted
  abbrev pub standing : LegView S → Phase S × Account
  standing leg = (leg.phase, leg.account)

  -- where a leg stands that is done
  abbrev pub ended : Said → Phase S × Account
  ended said = (Done said.0, said.1)

  -- one answer of each leg, in the order of the legs
  abbrev pub AreSaid : List (LegView S) → List Said → Type 0
  AreSaid legs said = map ended said ≡ map standing legs

-- ---- what a flight may give

module _ {W S : Type 0} (w : world.Ghosts W) (t : sitting.Ghosts S W) (route : Route)
    (most : ℕ) where
  -- the answers of legs of the route that are asked so and are all done, in their order
  pub record AreAnswers (asked : List Asked) (said : List Said) : Type 0 where
    pub legs : List (LegView S)
    pub same : map asked_of legs ≡ asked
    pub of : All (IsLegOf w t route most) legs
    pub done : AreDone legs
    pub right : AreSaid legs said

  -- so at Ok
  abbrev pub Gives : List Asked → Result (List Said) Memory → Type 0
  Gives asked out = IfOk out (AreAnswers asked)

-- ---- a poll

module _ {S : Type 0} where
  -- the legs that were turned stay in the list that was lent while some are not done, and without
  -- memory: where a leg lacked it in its turn, or all are done and there is no room for their
  -- answers; once all are done their answers are given, and none stays
  abbrev pub Leaves : (lacks : Bool) → (turned left : List (LegView S))
      → Poll (Result (List Said) Memory) → Type 0
  Leaves lacks turned left Pending = (left ≡ turned) × (lacks ≡ false) × (all_done turned ≡ false)
  Leaves lacks turned left (Ready (Ok said)) =
      (left ≡ []) × (lacks ≡ false) × AreDone turned × AreSaid turned said
  Leaves lacks turned left (Ready (Err memory)) =
      (left ≡ turned) × ((lacks ≡ true) ⊎ (all_done turned ≡ true))

module _ {W S : Type 0} (w : world.Ghosts W) (t : sitting.Ghosts S W) (exact : Bool)
    (route : Route) where
  -- at one moment each leg that is not done has one turn, one after another, and stays a leg of the
  -- route that is asked so
  pub record IsPoll (old new : List (LegView S)) (given : Poll (Result (List Said) Memory))
      (door after : DoorView S) (backend moved : BackendView) : Type 0 where
    pub now : ℕ
    pub turned : List (LegView S)
    pub round : Round
    pub turns : HaveTurned w t exact route now old turned no_round round door after backend moved
    pub same : map asked_of turned ≡ map asked_of old
    pub of : All (IsLegOf w t route after.counts.most) turned
    pub leaves : Leaves round.lacks turned new given
