use Rattle.std.proofs.Common.{arith}
use Rattle.event_loop.specs.Fronts.{front_view}
use Rattle.event_loop.proofs.FrontLemmas.{comes-since, goes-nothing}
use Rattle.event_loop.proofs.rounds.come_on.Goals as goal

pub returns-in-On-clause-keeps : goal.returns-in-On-clause-keeps
returns-in-On-clause-keeps g c = c.accept_more.ensures.keeps

pub returns-in-On-clause-comes : goal.returns-in-On-clause-comes
returns-in-On-clause-comes g c = λ from more h.
    comes-since c.accept_more.result from (g.A.EdgeAccept.faults c.args.accept.now) (g.A.EdgeAccept.faults c.accept_more.new.accept)
    (g.A.EdgeAccept.left c.accept_more.new.accept) more c.accept_more.ensures.comes

pub returns-in_default : goal.returns-in_default
returns-in_default g c = record {
  keeps = λ route served here. goes-nothing g.W.World g.S.Sitting g.A.In.EdgeSource g.A.Out.EdgeSink route c.args.places.now (front_view g.A.EdgeAccept served c.args.accept.now) here;
  comes = λ from more h. h;
  faults = omega arith;
}
