use Rattle.std.proofs.Common.{sym, ◌∙◌, arith}
use Rattle.std.proofs.lemmas.List.{take_rest}
use Rattle.front_http.proofs.Seeking.{ends-more}
use Rattle.front_http.proofs.seek.has_end.Goals as goal

pub loop-index-preserved : goal.loop-index-preserved
loop-index-preserved c =
    let none = sym c.ends_here.ensures ∙ c.if-ends_here.false in
    let octets = c.args.octets.now in
    sym (ends-more octets c.loop-index.index (omega arith) (rw (take_rest octets c.loop-index.index) at none)) ∙ c.loop-index.invariant
