use Rattle.std.proofs.Common.{◌≡◌, ◌∙◌, length, map, take, ap, sym, arith}
use Rattle.std.proofs.Math.Seq.{take-length}
use Rattle.gateway_rules.specs.Targets.{all_or_first}
use Rattle.package_rules.proofs.AllOrFirst.{all_or_first-goods}
use Rattle.package_rules.proofs.Taken.{goods_more, goods_end}
use Rattle.package.specs.steps.Ends.{hits_in}
use Rattle.package.proofs.SaidLemmas.{hits_are}
use Rattle.package.proofs.said.all_hits.Goals as goal

pub returns-in-Refused : goal.returns-in-Refused
returns-in-Refused g c =
    let route = c.args.route.now in
    let legs = c.args.legs.now in
    ap all_or_first (sym (hits_are route legs c.requires))
    ∙ goods_end (hits_in route) legs c.loop-leg.leg-index c.leg-item.result c.leg-item.result c.loop-leg.hits c.in-Refused.diag c.loop-leg-test.true (sym c.leg-item.is)
    c.loop-leg.invariant c.in-Refused.ensures

pub loop-leg-preserved : goal.loop-leg-preserved
loop-leg-preserved g c =
    goods_more (hits_in c.args.route.now) c.args.legs.now c.loop-leg.leg-index c.leg-item.result c.leg-item.result c.loop-leg.hits c.push.new.self c.in-Good.count
    c.loop-leg-test.true (sym c.leg-item.is) c.loop-leg.invariant c.in-Good.ensures c.in-Ok.ensures.ok

pub returns : goal.returns
returns g c =
    let route = c.args.route.now in
    let legs = c.args.legs.now in
    let end : c.loop-leg.leg-index ≡ length legs = omega arith in
    let all : take c.loop-leg.leg-index legs ≡ legs = ap (λ i. take i legs) end ∙ take-length legs in
    ap all_or_first (sym (hits_are route legs c.requires))
    ∙ ap (λ ls. all_or_first (map (hits_in route) ls)) (sym all) ∙ ap all_or_first c.loop-leg.invariant
    ∙ all_or_first-goods c.loop-leg.hits
