use Rattle.std.proofs.Common.{◌≡◌, map, take}
use Rattle.test_target.specs.Scans.{entry_of}
use Rattle.test_target.proofs.scans.entries_of.Given as goal

abbrev pub invariant-loop-letter : goal.invariant-loop-letter
invariant-loop-letter l = l.entries ≡ map (entry_of l.target l.names l.attrs) (take l.letter-index l.letters)
