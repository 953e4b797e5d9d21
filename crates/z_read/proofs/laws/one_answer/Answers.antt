use Rattle.unit_forms.specs.Reading.Units.{request_in, reply_in}
use Rattle.z_read.proofs.OneAnswer.{one_answer as one}
use Rattle.z_read.proofs.laws.one_answer.Goals as goal

pub returns : goal.returns
returns c = record { request = one request_in; reply = one reply_in }
