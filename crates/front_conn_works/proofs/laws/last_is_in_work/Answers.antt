use Rattle.front_conn_works.proofs.TurnWorks.{last-is-in-work}
use Rattle.front_conn_works.proofs.laws.last_is_in_work.Goals as goal

pub returns : goal.returns
returns g c = λ route fed written state view begun other stands goes is h.
    last-is-in-work g.W.World g.row.S.Denot route fed written state view begun other stands goes is h
