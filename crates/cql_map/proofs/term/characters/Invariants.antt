use Rattle.std.proofs.Common.{◌≡◌, ◌++◌, drop, false}
use Rattle.cql_map.specs.Terms.{characters}
use Rattle.cql_map.proofs.term.characters.Given as goal

-- what is read, and what is left to read
abbrev pub invariant-loop-octet : goal.invariant-loop-octet
invariant-loop-octet l = l.found.items ++ characters l.taken (drop l.octet-index l.term) ≡ characters false l.term
