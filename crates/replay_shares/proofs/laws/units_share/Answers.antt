use Rattle.replay_shares.proofs.UnitRuns.{units-share}
use Rattle.replay_shares.proofs.laws.units_share.Goals as goal

pub returns : goal.returns
returns g c =
    λ exact route now octets ended asked all before old new outside after other is fair sound rests kept ask falls may run.
    units-share g.W.World g.S.Sitting
    (record {
      written = c.stands_when_written.ensures;
      of = c.stays_of_route.ensures;
      begun = c.stays_begun.ensures;
      begins = c.steps_begin.ensures;
      ended = c.ended_is_whole.ensures;
      decide = c.marks_decide.ensures;
      shares = c.requests_share.ensures;
    })
    exact route now octets ended asked all before old new outside after other is fair sound rests kept ask falls may run
