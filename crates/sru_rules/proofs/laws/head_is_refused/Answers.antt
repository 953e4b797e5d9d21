use Rattle.sru_rules.proofs.Stays.{head_is_refused, head_is_cut}
use Rattle.sru_rules.proofs.laws.head_is_refused.Goals as goal

pub returns : goal.returns
returns g c = record {
  refused = head_is_refused g.W.World c.head_stays.ensures;
  cut = head_is_cut g.W.World;
}
