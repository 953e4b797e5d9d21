use Rattle.replay.proofs.laws.cost_laws.Goals as goal

pub returns : goal.returns
returns g c = record {
  step = c.steps_cost.ensures;
  on = c.costs_on.ensures;
  nothing = c.costs_nothing.ensures;
  stays = c.stays_costed.ensures;
  start = c.starts_costless.ensures;
  marks = c.marks_are_met.ensures;
  rest = c.sums_at_rest.ensures;
}
