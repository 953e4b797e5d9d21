use Rattle.std.proofs.Common.{true, false, Some, sym, ap, ◌∙◌}
use Rattle.sru_request.specs.Firsts.{is_other_in}
use Rattle.sru_request.proofs.FirstLemmas.{other_in, other_by}
use Rattle.sru_request.proofs.others.first_other_in.Goals as goal

pub returns-then-is_other_in : goal.returns-then-is_other_in
returns-then-is_other_in c =
    let item = c.parameter-item.result in
    let given = c.args.given.now in
    let other = sym (other_in c.args.firsts.now given c.requires item.name) ∙ ap (is_other_in c.args.firsts.now) (sym c.as_slice.ensures) ∙ sym c.is_other_in.ensures ∙ c.if-is_other_in.true in
    ap Some c.as_slice-then-is_other_in.ensures ∙ sym (other_by given given c.loop-parameter.parameter-index item true c.loop-parameter-test.true c.parameter-item.is other) ∙ c.loop-parameter.invariant

pub loop-parameter-preserved : goal.loop-parameter-preserved
loop-parameter-preserved c =
    let item = c.parameter-item.result in
    let given = c.args.given.now in
    let other = sym (other_in c.args.firsts.now given c.requires item.name) ∙ ap (is_other_in c.args.firsts.now) (sym c.as_slice.ensures) ∙ sym c.is_other_in.ensures ∙ c.if-is_other_in.false in
    sym (other_by given given c.loop-parameter.parameter-index item false c.loop-parameter-test.true c.parameter-item.is other) ∙ c.loop-parameter.invariant
