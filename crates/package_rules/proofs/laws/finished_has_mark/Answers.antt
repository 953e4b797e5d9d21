use Rattle.package_rules.proofs.MarkSaid.{finished-marked}
use Rattle.package_rules.proofs.laws.finished_has_mark.Goals as goal

pub returns : goal.returns
returns c = finished-marked
