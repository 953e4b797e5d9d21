use Rattle.std.proofs.Common.{◌≤◌, ◌-◌, length}
use Rattle.cql_lex.specs.Tokens.{LeadsTo}
use Rattle.cql_lex.proofs.lexer.split.Given as goal

-- the tokens so far lead to this offset
abbrev pub invariant-loop-found : goal.invariant-loop-found
invariant-loop-found l = (l.at ≤ length l.text) × LeadsTo l.text 0 l.found l.at

abbrev pub decreases-loop-found : goal.decreases-loop-found
decreases-loop-found l = length l.text - l.at
