use Rattle.std.proofs.Common.{◌≡◌, ◌++◌, drop}
use Rattle.cql_parse.specs.Written.{keys_text}
use Rattle.cql_parse.proofs.writer.keys_to.Given as goal

-- what is written so far, and what is left to write
abbrev pub invariant-loop-key : goal.invariant-loop-key
invariant-loop-key l = l.out ++ keys_text (drop l.key-index l.key-items) ≡ l.fn.out ++ keys_text l.key-items
