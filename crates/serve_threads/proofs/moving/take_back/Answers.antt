use Rattle.std.proofs.Common.{rules, arith, ◌∙◌, sym}
use Rattle.serve_threads.proofs.Lists.{sum-last}
use Rattle.serve_threads.proofs.MovedOver.{moved_over}
use Rattle.serve_threads.proofs.moving.take_back.Goals as goal

pub loop-job-preserved : goal.loop-job-preserved
loop-job-preserved g c =
    let len = c.in-Some.ensures.len in
    let booked = sum-last _ _ _ c.in-Some.ensures.items (λ j. j.booked.amount) in
    let fulls = sum-last _ _ _ c.in-Some.ensures.items (λ j. j.fulls.amount) in
    let opens = sum-last _ _ _ c.in-Some.ensures.items (λ j. j.opens.amount) in
    record {
      moved = sym (moved_over (λ j. j.worker) _ _ _ _ _ c.push_reserved.ensures.items c.in-Some.ensures.items) ∙ c.loop-job.invariant.moved;
      room = omega (arith, len);
      booked = omega (arith, booked);
      fulls = omega (arith, fulls);
      opens = omega (arith, opens);
      booked_parts = omega (arith, len);
      fulls_parts = omega (arith, len);
      opens_parts = omega (arith, len);
      bound = search rules;
    }
