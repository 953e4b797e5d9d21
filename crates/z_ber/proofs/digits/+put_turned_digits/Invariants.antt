use Rattle.z_ber.proofs.digits.+put_turned_digits.Given as goal

abbrev pub decreases-put_turned_digits : goal.decreases-put_turned_digits
decreases-put_turned_digits l = l.number
