use Rattle.multi_merge.proofs.Merged.{at_rank, within_rank}
use Rattle.multi_merge.proofs.places.locate.Goals as goal

pub leg_at-requires-clause-within : goal.leg_at-requires-clause-within
leg_at-requires-clause-within c = within_rank _ _ _ _ c.rank_of-rank.ensures.rank c.rank_of-rank.ensures.before

pub returns : goal.returns
returns c = at_rank _ _ _ _ _ c.rank_of-rank.ensures.rank c.rank_of-rank.ensures.before c.leg_at.ensures
