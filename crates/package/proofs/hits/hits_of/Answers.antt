use Rattle.std.proofs.Common.{◌≡◌, ◌∙◌, ℕ, List, length, take, map, ap, sym, refl, arith}
use Rattle.std.proofs.Math.Seq.{take-length}
use Rattle.z_types.specs.Under.{under}
use Rattle.virt_db.specs.Legs.{leg_at}
use Rattle.gateway_rules.specs.Targets.{hits_of, hits_at, all_or_first}
use Rattle.package_rules.proofs.AllOrFirst.{all_or_first-goods}
use Rattle.package_rules.proofs.Taken.{goods_more, goods_end}
use Rattle.package.proofs.hits.hits_of.Goals as goal

pub returns-in-Refused : goal.returns-in-Refused
returns-in-Refused g c =
    let legs : List ℕ = c.as_slice-leg-items.result.now in
    let f = λ (leg : ℕ). hits_at (under c.args.login.now g.T.World) c.args.query.now (leg_at c.args.route.now leg) in
    ap (λ (ls : List ℕ). hits_of (under c.args.login.now g.T.World) c.args.route.now ls c.args.query.now) (sym c.as_slice-leg-items.ensures)
    ∙ goods_end f legs c.loop-leg.leg-index 0 _ c.loop-leg.hits c.in-Refused.diag c.loop-leg-test.true refl
    c.loop-leg.invariant c.in-Refused.ensures

pub loop-leg-preserved : goal.loop-leg-preserved
loop-leg-preserved g c =
    let f = λ (leg : ℕ). hits_at (under c.args.login.now g.T.World) c.args.query.now (leg_at c.args.route.now leg) in
    goods_more f c.as_slice-leg-items.result.now c.loop-leg.leg-index 0 _ c.loop-leg.hits c.push.new.self c.in-Good.count
    c.loop-leg-test.true refl c.loop-leg.invariant c.in-Good.ensures c.in-Ok.ensures.ok

pub returns : goal.returns
returns g c =
    let legs : List ℕ = c.as_slice-leg-items.result.now in
    let f = λ (leg : ℕ). hits_at (under c.args.login.now g.T.World) c.args.query.now (leg_at c.args.route.now leg) in
    let end : c.loop-leg.leg-index ≡ length legs = omega arith in
    let all : take c.loop-leg.leg-index legs ≡ legs = ap (λ (i : ℕ). take i legs) end ∙ take-length legs in
    ap (λ (ls : List ℕ). hits_of (under c.args.login.now g.T.World) c.args.route.now ls c.args.query.now) (sym c.as_slice-leg-items.ensures)
    ∙ ap (λ (ls : List ℕ). all_or_first (map f ls)) (sym all) ∙ ap all_or_first c.loop-leg.invariant
    ∙ all_or_first-goods c.loop-leg.hits
