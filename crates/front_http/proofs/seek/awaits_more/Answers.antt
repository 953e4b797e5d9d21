use Rattle.std.proofs.Common.{sym, ◌∙◌, arith}
use Rattle.front_http.proofs.Seeking.{wants-more}
use Rattle.front_http.proofs.seek.awaits_more.Goals as goal

pub returns-clause-more : goal.returns-clause-more
returns-clause-more c = λ is.
    wants-more c.args.octets.now (sym c.has_new_end-ends.ensures ∙ c.if-ends.false) (omega arith)
