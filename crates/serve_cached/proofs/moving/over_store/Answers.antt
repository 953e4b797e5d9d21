use Rattle.std.proofs.Common.{rules, arith, ◌∙◌}
use Rattle.serve_cached.specs.Beneath.{beneath}
use Rattle.serve_cached.proofs.BeneathLemmas.{moved}
use Rattle.serve_cached.proofs.moving.over_store.Goals as goal

pub loop-worker-preserved : goal.loop-worker-preserved
loop-worker-preserved g c =
    let len = c.in-Some.ensures.len in
    record {
      moved = moved beneath _ _ _ _ _ _ c.in-Some.ensures.items c.push_reserved.ensures.items c.put_over.ensures ∙ c.loop-worker.invariant.moved;
      room = omega (arith, len);
      long = omega (arith, len);
      kept = search rules;
    }
