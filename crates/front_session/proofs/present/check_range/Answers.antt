use Rattle.std.proofs.Common.{◌≡◌, ◌∙◌, ap}
use Rattle.z_types.specs.MergedOrder.{total}
use Rattle.gateway_rules.specs.Checks.{is_out_of_range}
use Rattle.front_session.proofs.present.check_range.Goals as goal

pub returns : goal.returns
returns c =
    let count : c.total.result ≡ total c.args.set.now.hits = c.total.ensures ∙ ap total c.as_slice.ensures in
    let test = c.is_out_of_range-is_out.ensures ∙ ap (is_out_of_range c.args.present.now) count in
    rw (← test) c.refuse_where.ensures
