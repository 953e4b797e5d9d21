use Rattle.std.proofs.Common.{◌≡◌, ◌≤◌, length}
use Rattle.cql_map.specs.Terms.{words}
use Rattle.cql_map.proofs.term.behind_space.Given as goal

-- what is passed parts words
abbrev pub invariant-spaces : goal.invariant-spaces
invariant-spaces l = (words l.rest ≡ words l.characters) × (length l.rest ≤ length l.characters)

abbrev pub decreases-spaces : goal.decreases-spaces
decreases-spaces l = length l.rest
