use Rattle.replay_shares.proofs.ScriptLemmas.{scripts-share}
use Rattle.replay_shares.proofs.laws.scripts_share.Goals as goal

pub returns : goal.returns
returns g c =
    λ exact route targets events before after report is fair sound are kept run turns orderly.
    scripts-share g.W.World g.S.Sitting
    (record {
      start = c.stands_at_start.ensures;
      fed = c.stands_when_fed.ensures;
      ended = c.stands_when_ended.ensures;
      of = c.stays_of_route.ensures;
      none = c.begins_none.ensures;
      begun = c.stays_begun.ensures;
    })
    c.runs_share.ensures exact route targets events before after report is fair sound are kept run turns orderly
