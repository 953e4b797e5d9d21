use Rattle.links_tests.proofs.PlayLemmas.{heard_stage}
use Rattle.links_tests.proofs.plays.hear.Goals as goal

-- the session stands where its answer leads
pub returns : goal.returns
returns g c =
    rw c.stage_after.ensures
    (rw c.hits_after-play.ensures
    (heard_stage g.B.Session.Sitting (g.B.Session.Sitting.pending c.args.session) c.look-heard.new.session c.args.ask c.look-heard.result
    (g.B.Session.Sitting.made c.args.session) c.args.play.now.hits c.look-heard.ensures.pending c.requires.awaits.pending
    c.requires.awaits.own c.look-heard.ensures.made c.requires.awaits.has))
