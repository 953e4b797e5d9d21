use Rattle.front_conn_works.proofs.MarkWorks.{works-by-marks}
use Rattle.front_conn_works.proofs.laws.marks_decide.Goals as goal

pub returns : goal.returns
returns g c = λ route client whole causes others same. works-by-marks g.W.World route client whole causes others same
