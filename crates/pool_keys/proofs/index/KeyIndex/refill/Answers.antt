use Rattle.std.proofs.Common.{◌≡◌, ◌∙◌, drop, length, sym, subst}
use Rattle.std.specs.List.Sorted.{IsNonDecreasingBy, IsPermutation}
use Rattle.std.proofs.lemmas.List.{take_at}
use Rattle.std.proofs.lemmas.List.Sorted.{length_permutation}
use Rattle.pool_keys.specs.Pairs.{rank}
use Rattle.pool_keys.proofs.index.KeyIndex.refill.Goals as goal

pub invariant_of-self : goal.invariant_of-self
invariant_of-self c =
    let ys = c.sort.new.pairs in
    let long : length ys ≡ c.args.pairs.len = length_permutation c.as_mut_slice.result.now ys c.sort.ensures.same ∙ c.as_mut_slice.ensures.len in
    subst (IsNonDecreasingBy rank) (sym (take_at ys (drop (length ys) c.args.pairs.items) c.args.pairs.len long)) c.sort.ensures.order

pub returns-clause-pairs : goal.returns-clause-pairs
returns-clause-pairs c =
    let ys = c.sort.new.pairs in
    let xs = c.args.pairs.items in
    let long : length ys ≡ c.args.pairs.len = length_permutation c.as_mut_slice.result.now ys c.sort.ensures.same ∙ c.as_mut_slice.ensures.len in
    let moved = subst (λ zs. IsPermutation zs ys) c.as_mut_slice.ensures.value c.sort.ensures.same in
    subst (IsPermutation xs) (sym (take_at ys (drop (length ys) xs) c.args.pairs.len long)) moved
