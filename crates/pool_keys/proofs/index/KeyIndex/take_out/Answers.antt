use Rattle.std.proofs.Common.{subst, refl}
use Rattle.std.proofs.lemmas.List.Sorted.{IsPermutation-remove}
use Rattle.pool_keys.specs.Pairs.{IsAt}
use Rattle.pool_keys.proofs.PairLemmas.{removed_order}
use Rattle.pool_keys.proofs.index.KeyIndex.take_out.Goals as goal

pub invariant_of-self : goal.invariant_of-self
invariant_of-self c =
    let ps = c.self.inside.pairs.items in
    let at = subst (λ xs. IsAt xs c.place-place.result c.args.pair) c.as_slice-2.ensures.value (c.if-not-is_at.ensures.at refl) in
    rw c.remove.ensures.items (removed_order ps c.place-place.result at.within c.self.invariant)

pub returns-clause-taken : goal.returns-clause-taken
returns-clause-taken c =
    let ps = c.self.inside.pairs.items in
    let at = subst (λ xs. IsAt xs c.place-place.result c.args.pair) c.as_slice-2.ensures.value (c.if-not-is_at.ensures.at refl) in
    λ e. rw (← c.self.view_is, c.remove.ensures.items) (IsPermutation-remove ps c.place-place.result c.args.pair at.within at.there)
