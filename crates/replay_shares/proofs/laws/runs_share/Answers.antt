use Rattle.replay_shares.proofs.UnitRuns.{runs-share}
use Rattle.replay_shares.proofs.laws.runs_share.Goals as goal

pub returns : goal.returns
returns g c =
    λ exact route now octets ended asked all before old new outside after is fair sound rests kept ask falls may run.
    runs-share g.W.World g.S.Sitting c.units_share.ensures c.gets_share.ensures exact route now octets ended asked all before old new
    outside after is fair sound rests kept ask falls may run
