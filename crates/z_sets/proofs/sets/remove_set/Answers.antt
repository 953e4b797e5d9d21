use Rattle.std.proofs.Common.{rules, map, ap, ◌∙◌, ◌≡◌}
use Rattle.z_sets.specs.Sets.{stored}
use Rattle.z_sets.specs.Operands.{others_than}
use Rattle.z_sets.proofs.SetLemmas.{map-stored-others_than}
use Rattle.z_sets.proofs.sets.remove_set.Goals as goal

pub returns-clause-stored : goal.returns-clause-stored
returns-clause-stored c =
    let left : c.from_vec.result ≡ others_than c.args.name.now c.args.sets.now = search rules in
    ap (map stored) left ∙ map-stored-others_than c.args.name.now c.args.sets.now
