use Rattle.package_quiet.proofs.TurnLemmas.{turn-law}
use Rattle.package_quiet.proofs.laws.turns_go_well.Goals as goal

pub returns : goal.returns
returns g c = λ exact terms task now old new a b answer door after backend moved e told h calm is.
    turn-law g.W.World g.S.Sitting exact terms task now old new a b answer door after backend moved e told h calm is
