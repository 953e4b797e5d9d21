use Rattle.z_fields.proofs.TakeLemmas.{root_of}
use Rattle.z_fields.proofs.elements.Field.of_unit.Goals as goal

pub returns-in-Ok : goal.returns-in-Ok
returns-in-Ok c = (root_of c.args.octets.now c.in-Ok.lent c.in-Ok.ensures).root
