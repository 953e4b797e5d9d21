use Rattle.std.proofs.Common.{rules, ap, ◌∙◌, ◌≡◌, ◌++◌, ◌∷◌, []}
use Rattle.z_sets.specs.Operands.{others_than}
use Rattle.z_sets.proofs.SetLemmas.{map-stored-put, on_ok}
use Rattle.z_sets.proofs.sets.store_set.Goals as goal

pub returns-clause-stored : goal.returns-clause-stored
returns-clause-stored c =
    let old : c.into_vec-items.result.items ≡ c.args.sets.now = search rules in
    on_ok c.store_in-put.result
    (λ h. map-stored-put c.args.set c.args.sets.now c.from_vec.result
    (c.from_vec.ensures ∙ h ∙ ap (λ sets. others_than c.args.set.name sets ++ c.args.set ∷ []) old))
    c.store_in-put.ensures.ok
