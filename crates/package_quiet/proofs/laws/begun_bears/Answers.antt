use Rattle.package_quiet.proofs.PackageBearing.{new-bears}
use Rattle.package_quiet.proofs.laws.begun_bears.Goals as goal

pub returns : goal.returns
returns g c = λ route work h bearable. new-bears g.W.World g.S.Sitting route work h bearable
