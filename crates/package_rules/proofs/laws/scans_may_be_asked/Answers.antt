use Rattle.package_rules.proofs.AskedLemmas.{scans}
use Rattle.package_rules.proofs.laws.scans_may_be_asked.Goals as goal

pub returns : goal.returns
returns c = scans
