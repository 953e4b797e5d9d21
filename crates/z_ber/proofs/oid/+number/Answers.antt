use Rattle.std.proofs.Common.{◌<◌, ℕ, List, get_or, sym, subst, arith}
use Rattle.z_types.specs.ReadAs.{IsReadInFront}
use Rattle.z_ber.specs.Values.{IsSubidentifier}
use Rattle.z_ber.specs.Written.{septets}
use Rattle.z_ber.proofs.OidReading.{number-open, number-zero, number-more, number-large, number-end}
use Rattle.z_ber.proofs.oid.+number.Goals as goal
use Rattle.z_ber.proofs.oid.+number.Goals.{then-more-eq0-via-then-more-eq0, then-more-eq0-via-else-more-eq0+then-more-gt67108863}

pub returns-then-octet-lt128-clause-read : goal.returns-then-octet-lt128-clause-read
returns-then-octet-lt128-clause-read t c =
    (omega (arith, c.from.ensures, c.if-octet-lt128.true, c.requires), number-end c.args.high c.from.result c.args.bytes.now c.in-len1-up.len_at_least c.if-octet-lt128.true c.from.ensures)

pub returns-then-more-eq0-clause-read : goal.returns-then-more-eq0-clause-read
returns-then-more-eq0-clause-read t c = λ n rest small s.
    let octet : get_or c.args.bytes.now 0 0 < 256 = omega (arith, c.type_inv.bytes 0) in
    elim c.then-more-eq0.branch [
      | then-more-eq0-via-then-more-eq0 w ↦
          number-zero c.args.high c.from-in-len1-up.result n c.args.bytes.now rest c.if-octet-lt128.false c.from-in-len1-up.ensures w.if-more-eq0.true s
      | then-more-eq0-via-else-more-eq0+then-more-gt67108863 w ↦
          number-large c.args.high c.from-in-len1-up.result n c.args.bytes.now rest octet c.if-octet-lt128.false c.from-in-len1-up.ensures w.if-more-gt67108863.true small s
    ]

pub returns-in-empty-clause-read : goal.returns-in-empty-clause-read
returns-in-empty-clause-read t c = λ n rest small s. number-open c.args.high n c.args.bytes.now rest c.in-empty.len_below s

pub returns-else-more-gt67108863-clause-read : goal.returns-else-more-gt67108863-clause-read
returns-else-more-gt67108863-clause-read t c =
    let octet : get_or c.args.bytes.now 0 0 < 256 = omega (arith, c.type_inv.bytes 0) in
    let same = number-more c.args.high c.from-in-len1-up.result c.args.bytes.now octet c.if-octet-lt128.false c.from-in-len1-up.ensures (omega arith) in
    subst (λ (l : List ℕ). IsReadInFront IsSubidentifier septets l c.number.result) (sym same) c.number.ensures.read
