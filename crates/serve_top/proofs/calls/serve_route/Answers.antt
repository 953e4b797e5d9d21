use Rattle.std.proofs.Common.{refl}
use Rattle.serve_cached.specs.serve_threads.serve.declared.working.Worked.TheVariants.{Memory}
use Rattle.serve_top.proofs.Served.{told}
use Rattle.serve_top.proofs.calls.serve_route.Goals as goal

pub returns-in-Ended : goal.returns-in-Ended
returns-in-Ended g c =
    told g.W.World g.A.In.Source g.A.Out.Sink g.A.Accept g.B.Watched c.args.route.now _ _ _ _ _ _ c.tell_served.result c.in-Ended.ensures.served
    c.listed-before.ensures c.listed-after.ensures c.saturating_sub.ensures c.tell_served.ensures

pub returns-in-Failed : goal.returns-in-Failed
returns-in-Failed g c = (c.in-Failed.ensures.served, c.say.ensures)

pub returns-in-Memory : goal.returns-in-Memory
returns-in-Memory g c = (refl, (Memory, c.in-Memory.ensures.served))
