use Rattle.z_ber.proofs.values.+turned_number.Given as goal

abbrev pub decreases-turned_number : goal.decreases-turned_number
decreases-turned_number l = l.count
