use Rattle.std.proofs.Common.{◌≡◌, ◌+◌, ◌≤◌, length}
use Rattle.cql_map.specs.Terms.{words}
use Rattle.cql_map.specs.Faults.{more_words_faults}
use Rattle.cql_map.proofs.checks.check_more.Given as goal

-- the words that were taken, and those that are left, are all of them
abbrev pub invariant-words : goal.invariant-words
invariant-words l =
    (l.count + length (words l.rest) ≡ length (words l.term)) × (l.count + length l.rest ≤ length l.term)
    × (more_words_faults (words l.rest) ≡ more_words_faults (words l.term))

abbrev pub decreases-words : goal.decreases-words
decreases-words l = length l.rest
