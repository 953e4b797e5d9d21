use Rattle.std.proofs.Common.{◌≡◌, ◌-◌, take, drop, length, sym, ◌∙◌, arith, length-drop}
use Rattle.std.proofs.lemmas.List.{take_all}
use Rattle.cql_map.proofs.TermLemmas.{next_word_cut, positive_length}
use Rattle.cql_map.proofs.term.next_word.Goals as goal

pub returns : goal.returns
returns c =
    let rest = c.behind_space-rest.result.now in
    let n = c.word_len-len.result in
    let whole : take (length rest - n) (drop n rest) ≡ drop n rest = take_all (length rest - n) (drop n rest) (omega (arith, length-drop n rest)) in
    let some = positive_length rest (sym c.is_empty.ensures ∙ c.if-is_empty.false) in
    let w = c.word_len-len.ensures in
    rw whole (next_word_cut c.args.characters.now rest n c.behind_space-rest.ensures.words c.behind_space-rest.ensures.shorter c.behind_space-rest.ensures.word some w.within w.word w.end)
