use Rattle.z_ber.proofs.read.+padded_number.Given as goal

abbrev pub decreases-padded_number : goal.decreases-padded_number
decreases-padded_number l = l.count
