use Rattle.std.proofs.Common.{rules}
use Rattle.z_sets.proofs.OperandLemmas.{operand_faults, operand_placed}
use Rattle.z_sets.proofs.expansion.build_operand.Goals as goal

pub returns-in_err-set : goal.returns-in_err-set
returns-in_err-set c = search (rules, operand_faults)

pub returns : goal.returns
returns c =
    let e = operand_placed c.args.arcs.now c.args.legs.now c.args.sets.now c.args.name.now c.in_ok-set.set.now (search rules) in search (rules, e)
