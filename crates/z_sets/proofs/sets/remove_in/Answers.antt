use Rattle.std.proofs.Common.{rules, not}
use Rattle.std.proofs.lemmas.Fn.{filter_same}
use Rattle.z_types.specs.Same.{is_same}
use Rattle.z_sets.proofs.sets.remove_in.Goals as goal

pub returns-clause-others : goal.returns-clause-others
returns-clause-others c =
    filter_same _ (λ set. not (is_same set.name c.args.name.now)) _ (λ x b q h. search rules) _ _ c.retain.ensures.filtered
