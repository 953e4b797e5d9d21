use Rattle.package_rules.proofs.AskedLemmas.{fetches}
use Rattle.package_rules.proofs.laws.fetches_may_be_asked.Goals as goal

pub returns : goal.returns
returns c = fetches
