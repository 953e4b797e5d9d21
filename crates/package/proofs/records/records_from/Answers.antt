use Rattle.std.proofs.Common.{◌≡◌, ◌∙◌, ◌+◌, ℕ, ap, refl, arith}
use Rattle.std.specs.Prelude.{filter_map}
use Rattle.std.specs.Option.{option_copied}
use Rattle.z_types.specs.Under.{under}
use Rattle.gateway_rules.specs.Targets.{all_or_first, record_at}
use Rattle.gateway_rules.specs.Outcomes.{places_from}
use Rattle.package_rules.proofs.AllOrFirst.{all_or_first-goods}
use Rattle.package_rules.proofs.Taken.{records_more, records_end}
use Rattle.package.proofs.records.records_from.Goals as goal

pub returns-in-Refused : goal.returns-in-Refused
returns-in-Refused g c =
    let w = c.args.wanted in
    let f = record_at (under w.login.now g.T.World) c.args.route.now w.legs.now w.query.now (option_copied w.syntax) (option_copied w.element) in
    records_end f c.args.hits.now c.args.first c.loop-behind.behind c.args.count (c.args.first + c.loop-behind.behind) _ c.loop-behind.records
    c.in-Refused.diag c.requires.counted c.loop-behind-test.true refl
    (rw c.as_slice.ensures at c.locate-leg.ensures) c.loop-behind.invariant c.in-Refused.ensures

pub loop-behind-preserved : goal.loop-behind-preserved
loop-behind-preserved g c =
    let w = c.args.wanted in
    let f = record_at (under w.login.now g.T.World) c.args.route.now w.legs.now w.query.now (option_copied w.syntax) (option_copied w.element) in
    records_more f c.args.hits.now c.args.first c.loop-behind.behind (c.args.first + c.loop-behind.behind) _ c.loop-behind.records
    c.push_next.new.records c.in-Good.record c.requires.counted refl (rw c.as_slice.ensures at c.locate-leg.ensures)
    c.loop-behind.invariant c.in-Good.ensures c.in-Ok.ensures

pub returns : goal.returns
returns g c =
    let w = c.args.wanted in
    let f = record_at (under w.login.now g.T.World) c.args.route.now w.legs.now w.query.now (option_copied w.syntax) (option_copied w.element) in
    let end : c.args.count ≡ c.loop-behind.behind = omega arith in
    ap (λ (n : ℕ). all_or_first (filter_map f (places_from c.args.hits.now c.args.first n))) end
    ∙ ap all_or_first c.loop-behind.invariant ∙ all_or_first-goods c.loop-behind.records
