use Rattle.front_http.proofs.Heads.{heads-answer, heads-stand}
use Rattle.front_http.proofs.laws.heads_answer.Goals as goal

pub returns : goal.returns
returns g c = record {
  answered = heads-answer g.W.World c.head_is_refused.ensures.refused c.get_is_answered.ensures.answered;
  stands = heads-stand g.W.World;
}
