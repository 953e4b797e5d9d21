use Rattle.std.proofs.Common.{length}
use Rattle.route_text.proofs.address.+number_within.Given as goal

abbrev pub decreases-number_within : goal.decreases-number_within
decreases-number_within l = length l.digits.now
