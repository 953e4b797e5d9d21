use Rattle.std.proofs.Common.{ap, sym, ◌∙◌}
use Rattle.std.specs.Prelude.{is_some}
use Rattle.std.proofs.lemmas.List.{take_rest}
use Rattle.front_http.proofs.Seeking.{no-new-end}
use Rattle.front_http.proofs.seek.has_new_end.Goals as goal

pub returns-else-has_line_feed : goal.returns-else-has_line_feed
returns-else-has_line_feed c =
    let none = rw (take_rest c.args.octets.now c.args.passed) at (sym c.has_line_feed.ensures ∙ c.if-has_line_feed.false) in
    c.if-has_line_feed.false ∙ sym (ap is_some (no-new-end c.args.passed c.args.octets.now c.requires.endless none))
