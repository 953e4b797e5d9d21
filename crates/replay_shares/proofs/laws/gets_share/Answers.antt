use Rattle.replay_shares.proofs.GetRuns.{gets-share}
use Rattle.replay_shares.proofs.laws.gets_share.Goals as goal

pub returns : goal.returns
returns g c =
    λ exact route now octets ended asked all before old new outside after letter is fair sound rests kept ask falls may run.
    gets-share g.W.World g.S.Sitting
    (record {
      one = c.one_reading.ensures.course;
      stays = c.head_stays.ensures;
      outcome = c.package_outcome_is_true.ensures;
      written = c.stands_when_written.ensures;
      shares = c.requests_share.ensures;
    })
    exact route now octets ended asked all before old new outside after letter is fair sound rests kept ask falls may run
