use Rattle.z_read.specs.Structures.{size_of}
use Rattle.z_read.proofs.queries.+structure_of.Given as goal

abbrev pub decreases-structure_of : goal.decreases-structure_of
decreases-structure_of l = size_of l.found
