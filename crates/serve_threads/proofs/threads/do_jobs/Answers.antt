use Rattle.std.proofs.Common.{arith, ap, length}
use Rattle.serve_threads.proofs.Lists.{take-front, zip-from}
use Rattle.serve_threads.proofs.threads.do_jobs.Goals as goal

pub returns-clause-done : goal.returns-clause-done
returns-clause-done g c =
    let v = c.as_mut_slice.ensures.value in
    let s = rw v at c.run_all.ensures.done in
    rw (take-front c.args.jobs.now.len c.run_all.new.jobs _ (omega (arith, c.run_all.auto.jobs, c.as_mut_slice.ensures.len)))
    (zip-from _ c.args.jobs.now.items c.run_all.new.jobs (omega (arith, c.run_all.auto.jobs, ap length v)) s)
