use Rattle.package_rules.proofs.Allowed.{cause-allowed}
use Rattle.package_rules.proofs.laws.cause_is_allowed.Goals as goal

pub returns : goal.returns
returns g c = cause-allowed g.W.World
