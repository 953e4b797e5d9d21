use Rattle.std.proofs.Common.{inl, refl}
use Rattle.gateway_config.specs.Outside.{file_reads, sink_writes}
use Rattle.event_top.proofs.Served.{not-read, refused, taken-served}
use Rattle.event_top.proofs.calls.serve.Goals as goal

pub returns-in-Taken : goal.returns-in-Taken
returns-in-Taken g c =
    taken-served g.W.World g.A.In.EdgeSource g.A.Out.EdgeSink g.A.EdgeAccept g.P.Poller g.B.Watched c.args.config.now c.in-Taken.route
    (file_reads g.F.Files c.args.files.now c.read_config.new.files) (sink_writes g.K.Sink c.args.out.now c.serve_route.new.out)
    c.args.front.now c.serve_route.new.front c.serve_route.result c.in-Taken.ensures.read c.serve_route.ensures

pub returns-in-Refused : goal.returns-in-Refused
returns-in-Refused g c =
    refused g.W.World g.A.In.EdgeSource g.A.Out.EdgeSink g.A.EdgeAccept g.P.Poller g.B.Watched c.args.config.now c.in-Refused.fault
    (file_reads g.F.Files c.args.files.now c.read_config.new.files) (sink_writes g.K.Sink c.args.out.now c.refuse_config.new.out)
    c.args.front.now c.refuse_config.result c.in-Refused.ensures.read c.refuse_config.ensures

pub returns-in-Failed : goal.returns-in-Failed
returns-in-Failed g c =
    not-read g.W.World g.A.In.EdgeSource g.A.Out.EdgeSink g.A.EdgeAccept g.P.Poller g.B.Watched c.args.config.now
    (file_reads g.F.Files c.args.files.now c.read_config.new.files) (sink_writes g.K.Sink c.args.out.now c.unread.new.out)
    c.args.front.now c.unread.result c.in-Failed.ensures.read c.unread.ensures

pub returns-in-Memory : goal.returns-in-Memory
returns-in-Memory g c = inl (refl, refl)
