use Rattle.std.proofs.Common.{rules, not}
use Rattle.std.proofs.lemmas.Fn.{filter_same}
use Rattle.z_types.specs.Same.{is_same}
use Rattle.z_client.specs.declared.sets.FoundSet.{FoundSet}
use Rattle.z_client.proofs.sets.forget.Goals as goal

pub returns-clause-sets : goal.returns-clause-sets
returns-clause-sets c =
    filter_same _ (λ (set : FoundSet). not (is_same set.name c.args.name.now)) _ (λ x b q h. search rules) _ _ c.retain.ensures.filtered
