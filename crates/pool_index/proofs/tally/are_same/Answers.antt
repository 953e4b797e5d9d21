use Rattle.std.proofs.Common.{◌∙◌, sym}
use Rattle.z_types.specs.equality.Tests.{lists_exact}
use Rattle.z_types.specs.equality.Address.{address_exact}
use Rattle.pool_index.proofs.tally.are_same.Goals as goal

pub returns : goal.returns
returns c = λ h. lists_exact address_exact c.args.own.now c.args.at.now (sym c.eq.ensures ∙ h)
