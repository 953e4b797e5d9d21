use Rattle.replay_laws.proofs.RequestLemmas.{request-plain}
use Rattle.replay_laws.proofs.laws.uncaused_request_is_plain.Goals as goal

pub returns : goal.returns
returns g c = λ route most view of none. request-plain g.W.World g.S.Sitting route most view of none
