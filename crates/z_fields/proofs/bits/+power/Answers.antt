use Rattle.std.proofs.Common.{◌≡◌, ◌∙◌, ◌-◌, ◌*◌, ◌^◌, suc, sym, ap, arith}
use Rattle.std.proofs.Math.Nat.{pow-succ'}
use Rattle.z_fields.proofs.bits.+power.Goals as goal

pub returns-clause-value : goal.returns-clause-value
returns-clause-value t c =
    let e : c.args.count ≡ suc (c.args.count - 1) = omega arith in
    ap (λ p. 2 * p) c.power.ensures.value ∙ sym (ap (λ j. 2 ^ j) e ∙ pow-succ' 2 (c.args.count - 1))
