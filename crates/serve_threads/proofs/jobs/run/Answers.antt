use Rattle.std.proofs.Common.{◌≡◌, ◌∙◌, sym}
use Rattle.std.proofs.lemmas.List.{append_cancel_left}
use Rattle.pool_locked.specs.Books.{counts_of}
use Rattle.serve_threads.specs.steps.Jobs.{amounts}
use Rattle.serve_threads.proofs.Dialled.{all-marks, backend-causes, cost-as}
use Rattle.serve_threads.proofs.jobs.run.Goals as goal

pub returns : goal.returns
returns g c =
    let door = c.new-door.result in
    let after = c.work-job.new.door in
    let most : door.most ≡ c.args.most = c.new-door.ensures.most in
    let fulls : door.own.fulls.amount ≡ c.args.job.now.fulls.amount = cc (c.new-door.ensures.fulls, c.replace-fulls.ensures.value) in
    let opens : door.own.opens.amount ≡ c.args.job.now.opens.amount = cc (c.new-door.ensures.opens, c.replace-opens.ensures.value) in
    let booked : door.own.booked.amount ≡ c.args.job.now.booked.amount = cc (c.new-door.ensures.booked, c.replace-booked.ensures.value) in
    let most-then : after.most ≡ c.args.most = c.work-job.ensures.most ∙ most in
    let fulls-then : after.own.fulls.amount ≡ c.shares-booked.result.1.amount = cc (c.shares-booked.ensures.fulls) in
    let opens-then : after.own.opens.amount ≡ c.shares-booked.result.2.amount = cc (c.shares-booked.ensures.opens) in
    let booked-then : after.own.booked.amount ≡ c.shares-booked.result.0.amount = cc (c.shares-booked.ensures.booked) in
    let before = amounts c.args.job.now.fulls.amount c.args.job.now.opens.amount c.args.job.now.booked.amount in
    let behind = amounts c.shares-booked.result.1.amount c.shares-booked.result.2.amount c.shares-booked.result.0.amount in
    let cost = cost-as c.args.route.now.pool
    (λ i. record {
      door = counts_of (most i) (fulls i) (opens i) (booked i);
      backend = g.B.Watched.counts c.args.job.now.worker.backend;
    })
    (λ i. record {
      door = counts_of (most-then i) (fulls-then i) (opens-then i) (booked-then i);
      backend = g.B.Watched.counts c.work-job.new.worker.backend;
    }) c.work-job.ensures.cost in
    let worked = c.work-job.ensures.worked in
    let same : worked.others ≡ cost.others =
    append_cancel_left c.args.job.now.worker.served worked.others cost.others (sym worked.served ∙ cost.served) in record {
      done = record {
        served = record {
          worked = worked;
          causes = backend-causes g.B.Watched c.args.route.now.pool c.args.most c.args.job.now.worker c.work-job.new.worker before behind cost
              worked.others same;
          marks = all-marks g.B.Watched c.args.route.now.pool c.args.most c.args.job.now.worker c.work-job.new.worker before behind cost
              worked.others same;
          faults = c.work-job.ensures.faults;
        };
        cost = cost;
        ended = c.work-job.ensures.ended;
        failed = c.work-job.ensures.failed;
      };
    }
