use Rattle.std.proofs.Common.{ℕ, List, ◌++◌, ap, ◌∙◌, arith}
use Rattle.cql_parse.proofs.Writing.{modifiers_more}
use Rattle.cql_parse.proofs.writer.modifiers_to.Goals as goal

pub loop-modifier-preserved : goal.loop-modifier-preserved
loop-modifier-preserved c =
    let l = c.loop-modifier in
    modifiers_more c.as_slice-modifier-items.result.now l.modifier-index c.modifier-item.result l.out c.push.new.self c.append.new.self c.value_to.new.out (omega arith) c.modifier-item.is c.in_ok-push.ensures.ok (c.in_ok-append.ensures.ok ∙ ap (λ (t : List ℕ). c.push.new.self ++ t) c.as_slice.ensures) c.in_ok-value_to.ensures ∙ l.invariant
