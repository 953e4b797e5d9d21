use Rattle.std.proofs.Common.{arith}
use Rattle.z_ber.proofs.Closing.{carry, carry_fault, carry_end}
use Rattle.z_ber.proofs.extent.close.Goals as goal

pub loop-opened-preserved : goal.loop-opened-preserved
loop-opened-preserved c = record {
  few = c.in-Ok.ensures.few;
  on = let r = c.loop-opened.invariant.on in carry _ r.0 _ _ _ _ _ _ r.1 c.in-Ok.ensures.shorter r.2 c.in-Ok.ensures.step;
}

pub returns-in-Err : goal.returns-in-Err
returns-in-Err c = let r = c.loop-opened.invariant.on in carry_fault _ r.0 _ _ _ _ r.1 r.2 c.in-Err.ensures.step

pub returns : goal.returns
returns c = let r = c.loop-opened.invariant.on in carry_end _ r.0 _ _ _ (omega arith) r.2
