use Rattle.test_target.proofs.presents.+give.Given as goal

abbrev pub decreases-give : goal.decreases-give
decreases-give l = l.left
