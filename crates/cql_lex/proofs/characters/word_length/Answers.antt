use Rattle.std.proofs.Common.{sym, ◌∙◌, arith}
use Rattle.cql_lex.proofs.LengthLemmas.{word_length_more}
use Rattle.cql_lex.proofs.characters.word_length.Goals as goal

pub loop-index-preserved : goal.loop-index-preserved
loop-index-preserved c =
    let more = word_length_more c.args.octets.now c.loop-index.index c.loop-index.taken (omega arith) (sym c.ends_run.ensures ∙ c.if-ends_run.false) in
    rw c.takes_next-taken.ensures (sym more ∙ c.loop-index.invariant)
