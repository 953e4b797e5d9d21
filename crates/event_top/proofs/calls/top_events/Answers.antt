use Rattle.gateway_config.specs.Outside.{file_reads, sink_writes}
use Rattle.event_top.proofs.Served.{named-printed}
use Rattle.event_top.proofs.calls.top_events.Goals as goal

pub returns-in-Some-clause-printed : goal.returns-in-Some-clause-printed
returns-in-Some-clause-printed g c =
    named-printed g.W.World g.A.In.EdgeSource g.A.Out.EdgeSink g.A.EdgeAccept g.P.Poller g.B.Watched _
    (file_reads g.F.Files c.args.files.now c.serve_named.new.files) (sink_writes g.K.Sink c.args.out.now c.serve_named.new.out)
    c.args.front.now c.serve_named.new.front c.serve_named.result c.serve_named.ensures
