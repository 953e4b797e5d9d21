use Rattle.std.proofs.Common.{◌≡◌, ◌++◌, drop}
use Rattle.cql_parse.specs.Written.{modifiers_text}
use Rattle.cql_parse.proofs.writer.modifiers_to.Given as goal

-- what is written so far, and what is left to write
abbrev pub invariant-loop-modifier : goal.invariant-loop-modifier
invariant-loop-modifier l = l.out ++ modifiers_text (drop l.modifier-index l.modifier-items) ≡ l.fn.out ++ modifiers_text l.modifier-items
