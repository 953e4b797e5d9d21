use Rattle.std.proofs.Common.{◌≡◌, ◌+◌, ◌-◌, ◌≤◌, length, drop}
use Rattle.cql_lex.specs.Characters.{spaces}
use Rattle.cql_lex.proofs.next_token.next_start.Given as goal

-- what is passed is white space
abbrev pub invariant-loop-start : goal.invariant-loop-start
invariant-loop-start l =
    (l.fn.at ≤ l.start) × (l.start ≤ length l.text) × (l.start + spaces (drop l.start l.text) ≡ l.fn.at + spaces (drop l.fn.at l.text))

abbrev pub decreases-loop-start : goal.decreases-loop-start
decreases-loop-start l = length l.text - l.start
