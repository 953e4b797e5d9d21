use Rattle.conn_tests.proofs.plays.first_other.Goals as goal

pub take_steps-place-requires : goal.take_steps-place-requires
take_steps-place-requires g c = c.new-play.ensures _ _
