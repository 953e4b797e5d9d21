use Rattle.std.proofs.Common.{◌≡◌, ◌∙◌, ap, arith}
use Rattle.pool_locked.specs.Books.{counted}
use Rattle.pool_sets.specs.Counts.{DoorCounts}
use Rattle.serve_threads.specs.steps.Jobs.{amounts}
use Rattle.serve_threads.proofs.Dialled.{full-as, summed}
use Rattle.serve_threads.proofs.Searched.{booked-as, same-booked}
use Rattle.serve_threads.proofs.Together.{have-booked, have-served, same-workers}
use Rattle.serve_threads.proofs.serving.serve_over.Goals as goal

pub returns : goal.returns
returns g c =
    let most : c.audit.new.most.amount ≡ c.args.most = omega arith in record {
      served = have-served g.W.World g.A.In.Source g.A.Out.Sink g.A.Accept g.B.Watched c.args.route.now c.args.most (λ j. j.worker)
          (λ j. amounts j.fulls.amount j.opens.amount j.booked.amount) (λ j. j.worked) _ _ _ _ _ _
          c.in-Ok.ensures.moved c.in-Ok.ensures.left c.take_back.ensures.moved (rw c.as_slice.ensures.value at c.worst-worked.ensures)
          c.in-Ok.ensures.nothing (omega arith)
          (full-as most (summed c.audit.ensures.fulls.1 c.take_back.ensures.fulls c.in-Ok.ensures.none.1)
          (summed c.audit.ensures.opens.1 c.take_back.ensures.opens c.in-Ok.ensures.none.2) c.audit.ensures.full_opens)
          c.do_jobs.ensures.done;
      booked = booked-as g.B.Watched c.args.workers.now.items c.take_back.new.workers.items
          (ap (λ (d : DoorCounts). d.booked) (ap g.P.Door.counts c.into_door-2.ensures.same ∙ c.audit.ensures.counts)
          ∙ ap counted (summed c.audit.ensures.booked.1 c.take_back.ensures.booked c.in-Ok.ensures.none.0))
          (have-booked g.W.World g.A.In.Source g.A.Out.Sink g.A.Accept g.B.Watched c.args.route.now c.args.most (λ j. j.worker)
          (λ j. amounts j.fulls.amount j.opens.amount j.booked.amount) (λ j. j.worked) _ _ _ _ _
          c.in-Ok.ensures.moved c.in-Ok.ensures.left c.take_back.ensures.moved c.in-Ok.ensures.nothing c.do_jobs.ensures.done);
    }

pub returns-in_default : goal.returns-in_default
returns-in_default g c = record {
  served = same-workers g.W.World g.A.In.Source g.A.Out.Sink g.A.Accept g.B.Watched c.args.route.now c.args.most _ _ c.in_default.ensures.err;
  booked = same-booked g.B.Watched _ _ _ c.in_default.ensures.err;
}
