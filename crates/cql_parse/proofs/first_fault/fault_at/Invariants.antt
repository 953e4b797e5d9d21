use Rattle.std.proofs.Common.{◌≡◌, ◌+◌, ◌-◌, ◌≤◌, length, option_map}
use Rattle.cql_parse.specs.declared.first_fault.Phase.TheVariants.{Clause}
use Rattle.cql_parse.specs.Lexemes.{lexemes}
use Rattle.cql_parse.specs.ParserPhases.{fault_at}
use Rattle.cql_parse.proofs.first_fault.fault_at.Given as goal

-- the tokens that are left have the fault, behind those that are passed
abbrev pub invariant-tokens : goal.invariant-tokens
invariant-tokens l =
    (length l.rest + l.«open» ≤ length l.tokens)
    × (option_map (λ at. (length l.tokens - length l.rest) + at) (fault_at l.phase l.«open» (lexemes l.text l.rest)) ≡ fault_at Clause 0 (lexemes l.text l.tokens))

abbrev pub decreases-tokens : goal.decreases-tokens
decreases-tokens l = length l.rest
