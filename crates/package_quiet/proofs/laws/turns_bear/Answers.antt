use Rattle.package_quiet.proofs.TurnBearing.{turn-bears}
use Rattle.package_quiet.proofs.laws.turns_bear.Goals as goal

pub returns : goal.returns
returns g c = λ exact terms task now old new a b answer door after backend moved e told turn go borne is.
    turn-bears g.W.World g.S.Sitting exact terms task now old new a b answer door after backend moved e told turn go borne is
