use Rattle.std.proofs.Common.{rules, arith, ◌∙◌}
use Rattle.serve_threads.specs.steps.Jobs.{amounts}
use Rattle.serve_threads.proofs.Lists.{all-push}
use Rattle.serve_threads.proofs.MovedOver.{moved_over}
use Rattle.serve_threads.proofs.moving.make_jobs.Goals as goal

pub loop-worker-preserved : goal.loop-worker-preserved
loop-worker-preserved g c =
    let len = c.in-Some.ensures.len in
    record {
      moved = moved_over (λ j. j.worker) _ _ _ _ _ c.in-Some.ensures.items c.push_reserved.ensures.items ∙ c.loop-worker.invariant.moved;
      room = omega (arith, len);
      kept = search rules;
      nothing = all-push _ _ _ _ c.push_reserved.ensures.items c.loop-worker.invariant.nothing
          (λ i. amounts (c.split_off-in-Some.ensures.amount i) (c.split_off-in-Some-2.ensures.amount i) (c.split_off.ensures.amount i));
      amounts = search rules;
      booked_parts = omega (arith, len);
      fulls_parts = omega (arith, len);
      opens_parts = omega (arith, len);
    }
