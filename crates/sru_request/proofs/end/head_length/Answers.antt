use Rattle.std.proofs.Common.{◌+◌, sym, ◌∙◌, arith}
use Rattle.std.proofs.lemmas.List.{take_rest}
use Rattle.sru_request.proofs.EndLemmas.{head_more}
use Rattle.sru_request.proofs.end.head_length.Goals as goal

pub loop-index-preserved : goal.loop-index-preserved
loop-index-preserved c =
    let none = sym c.line_behind.ensures.value ∙ c.in_default.is in
    let octets = c.args.octets.now in
    sym (head_more octets c.loop-index.index (omega arith) (rw (take_rest octets (c.loop-index.index + 1)) at none)) ∙ c.loop-index.invariant
