use Rattle.sru_rules.proofs.Opened.{get-open}
use Rattle.sru_rules.proofs.works.get_is_open.Goals as goal

pub returns : goal.returns
returns c = get-open
