use Rattle.std.proofs.Common.{arith, ◌∙◌, sym}
use Rattle.serve_cached.specs.Beneath.{beneath}
use Rattle.serve_cached.proofs.BeneathLemmas.{moved}
use Rattle.serve_cached.proofs.moving.take_back.Goals as goal

pub loop-worker-preserved : goal.loop-worker-preserved
loop-worker-preserved g c =
    let len = c.in-Some.ensures.len in
    record {
      moved = sym (moved beneath _ _ _ _ _ _ c.push_reserved.ensures.items c.in-Some.ensures.items (sym c.take_out.ensures)) ∙ c.loop-worker.invariant.moved;
      room = omega (arith, len);
    }
