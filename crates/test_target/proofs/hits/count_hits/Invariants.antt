use Rattle.std.proofs.Common.{◌≡◌, sum_by, take, min}
use Rattle.test_target.specs.Searches.{found_of}
use Rattle.test_target.proofs.hits.count_hits.Given as goal

abbrev pub invariant-loop-name : goal.invariant-loop-name
invariant-loop-name l = l.hits ≡ min (sum_by (found_of l.target l.found) (take l.name-index l.name-items)) 2147483647
