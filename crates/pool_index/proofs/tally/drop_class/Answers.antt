use Rattle.std.proofs.Common.{rules, not, ◌==◌}
use Rattle.std.proofs.lemmas.Fn.{filter_same}
use Rattle.pool_index.proofs.tally.drop_class.Goals as goal

pub returns : goal.returns
returns c = filter_same _ (λ t. not (t.class == c.args.class)) _ (λ x b q h. search rules) _ _ c.retain.ensures.filtered
