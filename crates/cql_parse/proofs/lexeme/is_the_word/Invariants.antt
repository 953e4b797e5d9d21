use Rattle.std.proofs.Common.{◌≡◌, length, drop}
use Rattle.std.specs.Str.{bytes_eq}
use Rattle.cql_parse.specs.Classes.{lower}
use Rattle.cql_parse.proofs.lexeme.is_the_word.Given as goal

-- what is passed is alike
abbrev pub invariant-loop-index : goal.invariant-loop-index
invariant-loop-index l =
    (length l.word ≡ length l.small) × (bytes_eq (lower (drop l.index l.word)) (drop l.index l.small) ≡ bytes_eq (lower l.word) l.small)
