use Rattle.std.proofs.Common.{◌≡◌, length}
use Rattle.cql_map.specs.Terms.{words}
use Rattle.cql_map.specs.Mapped.{words_joined}
use Rattle.cql_map.specs.Faults.{more_words_faults}
use Rattle.cql_map.proofs.words.join_words.Given as goal

-- the words that are left, joined to what is joined so far, are all of them joined to the first
abbrev pub invariant-words : goal.invariant-words
invariant-words l =
    (words_joined l.joint l.value l.joined (words l.rest) ≡ words_joined l.joint l.value l.fn.first (words l.term)) × (more_words_faults (words l.rest) ≡ more_words_faults (words l.term))

abbrev pub decreases-words : goal.decreases-words
decreases-words l = length l.rest
