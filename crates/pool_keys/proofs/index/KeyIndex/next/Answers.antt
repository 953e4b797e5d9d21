use Rattle.std.proofs.Common.{arith, rules, subst}
use Rattle.pool_keys.specs.Pairs.{pair}
use Rattle.pool_keys.proofs.PairLemmas.{Point, other_next, this_next}
use Rattle.pool_keys.proofs.index.KeyIndex.next.Goals as goal

pub returns-then-there-digest : goal.returns-then-there-digest
returns-then-there-digest c =
    let ps = c.self.inside.pairs.items in
    let point = subst (λ xs. Point (pair c.args.digest c.args.from) xs c.place-place.result) c.as_slice.ensures.value c.place-place.ensures.point in
    rw (← c.self.view_is) (other_next ps c.args.digest c.args.from c.place-place.result point c.self.invariant c.index-there.result.now (omega arith) c.index-there.ensures (search rules) c.self.inside.whole (search rules))

pub returns : goal.returns
returns c =
    let ps = c.self.inside.pairs.items in
    let point = subst (λ xs. Point (pair c.args.digest c.args.from) xs c.place-place.result) c.as_slice.ensures.value c.place-place.ensures.point in
    rw (← c.self.view_is) (this_next ps c.args.digest c.args.from c.place-place.result point c.self.invariant c.index-there.result.now (omega arith) c.index-there.ensures (search rules) c.self.inside.whole (search rules))
