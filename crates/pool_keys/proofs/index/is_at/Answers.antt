use Rattle.std.proofs.Common.{arith, rules, get_or, sym}
use Rattle.std.proofs.lemmas.List.{get_or_default}
use Rattle.pool_keys.specs.Pairs.{pair}
use Rattle.pool_keys.proofs.PairLemmas.{there, other_digest, other_number}
use Rattle.pool_keys.proofs.index.is_at.Goals as goal

pub returns-then-there-pair-clause-at : goal.returns-then-there-pair-clause-at
returns-then-there-pair-clause-at c = λ h. there c.args.pairs.now c.args.place _ c.args.pair (omega arith) c.if-there-pair.true h

pub returns-then-there-pair-clause-nowhere : goal.returns-then-there-pair-clause-nowhere
returns-then-there-pair-clause-nowhere c =
    let ps = c.args.pairs.now in
    let p = get_or ps c.args.place (pair 0 0) in
    λ other. other_number ps c.args.pair.digest c.args.pair.number c.args.place c.requires.point c.requires.order p (omega arith) (sym (get_or_default ps c.args.place p (pair 0 0) (omega arith))) (search rules) (search rules) other

pub returns-else-there-pair-clause-nowhere : goal.returns-else-there-pair-clause-nowhere
returns-else-there-pair-clause-nowhere c =
    let ps = c.args.pairs.now in
    let p = get_or ps c.args.place (pair 0 0) in
    λ other. other_digest ps c.args.pair.digest c.args.pair.number c.args.place c.requires.point c.requires.order p (omega arith) (sym (get_or_default ps c.args.place p (pair 0 0) (omega arith))) (search rules) (search rules) other
