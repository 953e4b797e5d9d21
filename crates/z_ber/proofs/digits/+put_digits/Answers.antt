use Rattle.std.proofs.Common.{lit≤, arith}
use Rattle.std.proofs.lemmas.Result.{on_ok_weaker}
use Rattle.std.proofs.lemmas.Int.Digits.{digits_of_step}
use Rattle.z_ber.proofs.FrontStays.{put_then}
use Rattle.z_ber.proofs.digits.+put_digits.Goals as goal

pub returns-clause-ok : goal.returns-clause-ok
returns-clause-ok t c =
    on_ok_weaker _ (put_then _ _ _ _ _ _ c.in_ok-put_digits.ensures.ok (digits_of_step 256 c.args.number (lit≤ tt) (omega arith))) c.push.ensures.ok
