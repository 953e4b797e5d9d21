use Rattle.std.proofs.Common.{◌-◌, arith}
use Rattle.std.proofs.lemmas.List.Sorted.{IsNonDecreasingBy-from_sort, sum_by-IsPermutation}
use Rattle.multi_merge.proofs.UpTo.{reordered, rank_reordered}
use Rattle.multi_merge.proofs.places.rank_of.Goals as goal

pub rank_at-requires-clause-ascending : goal.rank_at-requires-clause-ascending
rank_at-requires-clause-ascending c = IsNonDecreasingBy-from_sort (λ x. x) _ c.sort_unstable.ensures.sorted

pub rank_at-requires-clause-within : goal.rank_at-requires-clause-within
rank_at-requires-clause-within c =
    omega (arith, c.requires.within, sum_by-IsPermutation (λ x. x) _ _ (rw c.copy_from_slice.ensures.after at c.sort_unstable.ensures.permutation))

pub returns-clause-rank : goal.returns-clause-rank
returns-clause-rank c =
    rank_reordered _ _ _ _ (rw c.copy_from_slice.ensures.after at c.sort_unstable.ensures.permutation) c.rank_at.ensures.rank

pub returns-clause-before : goal.returns-clause-before
returns-clause-before c =
    omega (arith, c.rank_at.ensures.before, reordered (c.rank_at.result.number - 1) _ _ (rw c.copy_from_slice.ensures.after at c.sort_unstable.ensures.permutation))
