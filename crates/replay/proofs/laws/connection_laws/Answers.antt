use Rattle.replay.proofs.laws.connection_laws.Goals as goal

pub returns : goal.returns
returns g c = record {
  start = c.stands_at_start.ensures;
  fed = c.stands_when_fed.ensures;
  ended = c.stands_when_ended.ensures;
  written = c.stands_when_written.ensures;
  of = c.stays_of_route.ensures;
  answered = c.ends_answered.ensures;
}
