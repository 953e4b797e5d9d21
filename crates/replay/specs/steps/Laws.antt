-- For contracts alone: the laws of connections, together, of what they cost, and of what a run of
-- them keeps (this project's own)
use Rattle.z_types.specs.declared.sitting.Sitting as sitting
use Rattle.z_types.specs.declared.world.World as world
use Rattle.front_conn_costs.specs.steps.Laws.{CostsNothing, CostsOn, MarksAreMet, StartsCostless, StaysSoCosted, StepsCost, SumsAtRest}
use Rattle.package_quiet.specs.steps.Laws.{PackagesGoWell}
use Rattle.front_conn_seats.specs.steps.Laws.{StepsKeepSeats, TurnsKeepSeats}
use Rattle.front_conn_costs.specs.front_conn.steps.Feeding.{EndsAnswered, StandsAtStart, StandsWhenEnded, StandsWhenFed, StandsWhenWritten, StaysOfRoute}

-- where a connection stands at its start, when it is fed, when its input has ended and when its
-- output was written; that it stays of its route; and that one that has ended was answered
pub record Laws {W S : Type 0} (w : world.Ghosts W) (t : sitting.Ghosts S W) : Type 0 where
  pub start : StandsAtStart w t
  pub fed : StandsWhenFed w t
  pub ended : StandsWhenEnded w t
  pub written : StandsWhenWritten w t
  pub of : StaysOfRoute w t
  pub answered : EndsAnswered w t

-- what steps cost: each, some and then others, and none; what comes and what is written cost
-- nothing; what a new connection has counted; what its marks came of; and what the sums are where
-- no request is in work
pub record CostLaws {W S : Type 0} (w : world.Ghosts W) (t : sitting.Ghosts S W) : Type 0 where
  pub step : StepsCost w t
  pub on : CostsOn S
  pub nothing : CostsNothing S
  pub stays : StaysSoCosted S
  pub start : StartsCostless S
  pub marks : MarksAreMet S
  pub rest : SumsAtRest S

-- what a run keeps: nothing goes wrong over a quiet backend, each seat that is out is held, over a
-- turn and over a step, and what a step costs
pub record RunLaws {W S : Type 0} (w : world.Ghosts W) (t : sitting.Ghosts S W) : Type 0 where
  pub packages : PackagesGoWell w t
  pub turns : TurnsKeepSeats w t
  pub seats : StepsKeepSeats w t
  pub costs : StepsCost w t
