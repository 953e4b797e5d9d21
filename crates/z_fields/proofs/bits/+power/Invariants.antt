use Rattle.z_fields.proofs.bits.+power.Given as goal

abbrev pub decreases-power : goal.decreases-power
decreases-power l = l.count
