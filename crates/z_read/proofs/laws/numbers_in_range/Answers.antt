use Rattle.z_read.proofs.NumbersRead.{tree_numbers}
use Rattle.z_read.proofs.laws.numbers_in_range.Goals as goal

pub returns : goal.returns
returns c = tree_numbers
