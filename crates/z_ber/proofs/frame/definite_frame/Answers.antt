use Rattle.std.proofs.Common.{◌∙◌, subst, sym, Result, ℕ, arith}
use Rattle.z_ber.specs.declared.fault.BerFault.{BerFault}
use Rattle.z_ber.specs.FrameAnswer.{IsDefiniteAnswer}
use Rattle.z_ber.proofs.FrameReading.{frame_at-read}
use Rattle.z_ber.proofs.LargeReading.{frame_at-large}
use Rattle.z_ber.proofs.frame.definite_frame.Goals as goal

pub returns : goal.returns
returns c = record {
  answer = subst (λ (r : Result ℕ BerFault). IsDefiniteAnswer c.args.bytes.now r) (sym c.read_frame.ensures) (frame_at-read c.args.bytes.now (λ i. omega (arith, c.type_inv.bytes i)));
  large = λ n l. c.read_frame.ensures ∙ frame_at-large c.args.bytes.now n l;
}
