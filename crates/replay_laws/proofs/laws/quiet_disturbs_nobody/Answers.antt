use Rattle.replay_laws.proofs.BetweenLemmas.{disturbs-nobody}
use Rattle.replay_laws.proofs.laws.quiet_disturbs_nobody.Goals as goal

pub returns : goal.returns
returns g c = λ exact route events before behind report run quiet.
    disturbs-nobody g.W.World g.S.Sitting exact route events before behind report run quiet
