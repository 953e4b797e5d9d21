use Rattle.std.proofs.Common.{◌≡◌, ◌+◌, drop, false, option_map}
use Rattle.cql_lex.specs.Characters.{word_length}
use Rattle.cql_lex.proofs.characters.word_length.Given as goal

-- what is left of the word, and what is passed
abbrev pub invariant-loop-index : goal.invariant-loop-index
invariant-loop-index l =
    option_map (λ len. l.index + len) (word_length l.taken (drop l.index l.octets)) ≡ word_length false l.octets
