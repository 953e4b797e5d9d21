use Rattle.sru_rules.proofs.Stays.{get_is_answered, get_stays}
use Rattle.sru_rules.proofs.laws.get_is_answered.Goals as goal

pub returns : goal.returns
returns g c = record {
  answered = get_is_answered g.W.World c.head_stays.ensures;
  stays = get_stays c.head_stays.ensures;
}
