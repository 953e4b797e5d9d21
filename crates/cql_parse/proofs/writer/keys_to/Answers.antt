use Rattle.std.proofs.Common.{◌∙◌, arith}
use Rattle.cql_parse.proofs.Writing.{keys_more}
use Rattle.cql_parse.proofs.writer.keys_to.Goals as goal

pub loop-key-preserved : goal.loop-key-preserved
loop-key-preserved c =
    let l = c.loop-key in
    keys_more c.as_slice-key-items.result.now l.key-index c.key-item.result l.out c.push.new.self c.index_to.new.out c.modifiers_to.new.out (omega arith) c.key-item.is c.in_ok-push.ensures.ok c.in_ok-index_to.ensures c.in_ok-modifiers_to.ensures ∙ l.invariant
