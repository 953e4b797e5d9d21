use Rattle.std.proofs.Common.{◌≡◌, ◌+◌, drop, false, option_map}
use Rattle.cql_lex.specs.Characters.{quoted_length}
use Rattle.cql_lex.proofs.characters.quoted_length.Given as goal

-- what is left to the quote, and what is passed
abbrev pub invariant-loop-index : goal.invariant-loop-index
invariant-loop-index l =
    option_map (λ len. l.index + len) (quoted_length l.taken (drop l.index l.octets)) ≡ quoted_length false l.octets
