use Rattle.z_ber.proofs.digits.+put_mirrored_digits.Given as goal

abbrev pub decreases-put_mirrored_digits : goal.decreases-put_mirrored_digits
decreases-put_mirrored_digits l = l.number
