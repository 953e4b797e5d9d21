use Rattle.gateway_config.specs.Outside.{file_reads, sink_writes}
use Rattle.serve_top.proofs.Served.{printed}
use Rattle.serve_top.proofs.calls.top_serve.Goals as goal

pub returns-in-Some-clause-printed : goal.returns-in-Some-clause-printed
returns-in-Some-clause-printed g c =
    printed g.W.World g.A.In.Source g.A.Out.Sink g.A.Accept g.B.Watched c.in-Some.config.now
    (file_reads g.F.Files c.args.files.now c.serve.new.files) (sink_writes g.K.Sink c.args.out.now c.serve.new.out)
    c.args.workers.now.items c.serve.new.workers.items c.serve.result c.serve.ensures
