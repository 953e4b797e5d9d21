use Rattle.std.proofs.Common.{subst, Contains, arith}
use Rattle.pool_keys.proofs.PairLemmas.{Point, in_put, put_holds, put_grows, put_order}
use Rattle.pool_keys.proofs.index.KeyIndex.admit.Goals as goal

pub invariant_of-self : goal.invariant_of-self
invariant_of-self c =
    let put = c.put_in-self-inside in
    let ps = c.self.inside.pairs.items in
    let point = subst (λ xs. Point c.args.pair xs c.place-place.result) c.as_slice.ensures.value c.place-place.ensures.point in
    rw put.ensures (put_order put.result ps c.place-place.result c.args.pair (omega arith) point c.self.invariant)

pub returns-clause-holds : goal.returns-clause-holds
returns-clause-holds c =
    let put = c.put_in-self-inside in
    λ h. rw put.ensures (put_holds put.result c.self.inside.pairs.items c.place-place.result c.args.pair h)

pub returns-clause-grows : goal.returns-clause-grows
returns-clause-grows c =
    let put = c.put_in-self-inside in
    λ p h whole. rw put.ensures (put_grows put.result c.self.inside.pairs.items c.place-place.result c.args.pair p ((rw (← c.self.view_is) at h) c.if-not-self.false))

pub returns-clause-only : goal.returns-clause-only
returns-clause-only c =
    let put = c.put_in-self-inside in
    λ p h. rw (← c.self.view_is) (in_put put.result c.self.inside.pairs.items c.place-place.result c.args.pair p (subst (λ zs. Contains zs p) put.ensures h))
