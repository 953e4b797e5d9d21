use Rattle.std.proofs.Common.{◌≡◌, drop}
use Rattle.cql_map.specs.Faults.{sign_faults}
use Rattle.cql_map.proofs.term.refuse_signs.Given as goal

-- no sign is passed
abbrev pub invariant-loop-character : goal.invariant-loop-character
invariant-loop-character l = sign_faults (drop l.character-index l.characters) ≡ sign_faults l.characters
