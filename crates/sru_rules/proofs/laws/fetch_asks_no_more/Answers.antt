use Rattle.sru_rules.proofs.Classes.{fetch_asks_no_more}
use Rattle.sru_rules.proofs.laws.fetch_asks_no_more.Goals as goal

pub returns : goal.returns
returns c = fetch_asks_no_more
