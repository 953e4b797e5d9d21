use Rattle.std.proofs.Common.{◌≡◌, drop}
use Rattle.cql_map.specs.Terms.{has_space}
use Rattle.cql_map.proofs.term.has_space.Given as goal

-- no white space is passed
abbrev pub invariant-loop-character : goal.invariant-loop-character
invariant-loop-character l = has_space (drop l.character-index l.characters) ≡ has_space l.characters
