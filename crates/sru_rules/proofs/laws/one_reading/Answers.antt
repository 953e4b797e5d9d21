use Rattle.sru_rules.proofs.OneCourse.{one_course, one_reading}
use Rattle.sru_rules.proofs.laws.one_reading.Goals as goal

pub returns : goal.returns
returns c = record { reading = one_reading; course = one_course }
