use Rattle.std.proofs.Common.{◌≡◌, ◌∙◌, get_or, rules, arith}
use Rattle.std.specs.Fmt.{decimal}
use Rattle.test_target.proofs.Dotted.{dotted_from}
use Rattle.test_target.proofs.syntaxes.dotted_text.Goals as goal

pub returns : goal.returns
returns c =
    let text : c.from_vec-text.result ≡ decimal (get_or c.args.arcs.now 0 0) = search rules in
    c.in_ok-put_dotted.ensures ∙ dotted_from c.args.arcs.now c.from_vec-text.result (omega (arith, c.in-len1-up.len_at_least)) text
