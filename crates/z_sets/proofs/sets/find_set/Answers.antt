use Rattle.z_sets.proofs.SetLemmas.{set_named-map-stored}
use Rattle.z_sets.proofs.sets.find_set.Goals as goal

pub returns-clause-named : goal.returns-clause-named
returns-clause-named c =
    let e = set_named-map-stored c.args.name.now c.args.sets.now in cc
