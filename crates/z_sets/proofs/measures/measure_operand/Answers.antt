use Rattle.std.proofs.Common.{rules}
use Rattle.z_sets.proofs.MeasureLemmas.{measures-of-known}
use Rattle.z_sets.proofs.OperandLemmas.{operand_measure_faults}
use Rattle.z_sets.proofs.measures.measure_operand.Goals as goal

pub returns-in_err-set : goal.returns-in_err-set
returns-in_err-set c = search (rules, operand_measure_faults)

pub returns-in-Some : goal.returns-in-Some
returns-in-Some c =
    let e = measures-of-known c.args.legs.now c.args.sets.now c.args.name.now c.in_ok-set.set.now (search rules) in search (rules, e)
