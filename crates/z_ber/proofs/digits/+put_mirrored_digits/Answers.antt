use Rattle.std.proofs.Common.{lit≤, arith}
use Rattle.std.proofs.lemmas.Result.{on_ok_weaker, on_err_weaker}
use Rattle.z_ber.specs.Written.{mirror}
use Rattle.z_ber.proofs.DigitSteps.{mirrored_step}
use Rattle.z_ber.proofs.FrontStays.{put_then, kept_on}
use Rattle.z_ber.proofs.digits.+put_mirrored_digits.Goals as goal

pub returns-clause-ok : goal.returns-clause-ok
returns-clause-ok t c =
    on_ok_weaker _ (put_then _ _ _ _ _ _ c.in_ok-push.ensures.ok (mirrored_step mirror 256 c.args.number _ (lit≤ tt) (omega arith) c.mirror.ensures)) c.put_mirrored_digits.ensures.ok

pub returns-clause-err : goal.returns-clause-err
returns-clause-err t c = on_err_weaker _ (kept_on _ _ _ _ c.in_ok-push.ensures.ok) c.put_mirrored_digits.ensures.err
