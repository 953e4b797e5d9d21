use Rattle.std.proofs.Common.{◌≡◌, take}
use Rattle.z_sets.specs.Measured.{measures_of_sets}
use Rattle.z_sets.proofs.measures.measure_sets.Given as goal

abbrev pub invariant-loop-set : goal.invariant-loop-set
invariant-loop-set l = l.measures ≡ measures_of_sets (take l.set-index l.sets)
