use Rattle.replay.proofs.laws.run_laws.Goals as goal

pub returns : goal.returns
returns g c = record {
  packages = c.packages_go_well.ensures;
  turns = c.turns_keep_seats.ensures;
  seats = c.steps_keep_seats.ensures;
  costs = c.steps_cost.ensures;
}
