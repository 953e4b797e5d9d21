use Rattle.std.proofs.Common.{◌≡◌, ◌+◌, take}
use Rattle.test_target.specs.Places.{marked}
use Rattle.test_target.proofs.places.numbers.Given as goal

abbrev pub invariant-loop-is_found : goal.invariant-loop-is_found
invariant-loop-is_found l = record {
  counted : l.number ≡ l.is_found-index + 1;
  so_far : l.numbers.items ≡ marked 1 (take l.is_found-index l.found);
}
