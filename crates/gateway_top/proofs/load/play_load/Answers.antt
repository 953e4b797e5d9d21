use Rattle.replay_top.proofs.ReportLemmas.{played_as, played_ok}
use Rattle.gateway_top.proofs.load.play_load.Goals as goal

pub run-requires : goal.run-requires
run-requires g c = (1, c.in_ok-events.ensures.playable c.requires 1)

pub returns : goal.returns
returns g c =
    played_as g.W.World _ _ _ _ _ c.run.result c.in_ok-route.ensures c.in_ok-events.ensures.events
    (played_ok g.W.World _ _ _ c.run.result c.run.ensures.report c.run.ensures.counted c.run.ensures.full_paid c.run.ensures.untroubled
    c.run.ensures.through c.run.ensures.borne c.run.ensures.shared)
