use Rattle.std.proofs.Common.{◌≡◌, true, take}
use Rattle.std.specs.List.{list_all}
use Rattle.cql_map.specs.Terms.{is_of_word}
use Rattle.cql_map.proofs.term.word_len.Given as goal

-- what is passed belongs to the word
abbrev pub invariant-loop-index : goal.invariant-loop-index
invariant-loop-index l = list_all is_of_word (take l.index l.characters) ≡ true
