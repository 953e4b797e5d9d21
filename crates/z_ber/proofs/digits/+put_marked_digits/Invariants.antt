use Rattle.z_ber.proofs.digits.+put_marked_digits.Given as goal

abbrev pub decreases-put_marked_digits : goal.decreases-put_marked_digits
decreases-put_marked_digits l = l.number
