use Rattle.package_rules.proofs.AskedLemmas.{searches}
use Rattle.package_rules.proofs.laws.searches_may_be_asked.Goals as goal

pub returns : goal.returns
returns c = searches
