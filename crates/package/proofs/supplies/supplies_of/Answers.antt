use Rattle.std.proofs.Common.{◌≡◌, ◌∙◌, ◌<◌, ◌+◌, ◌++◌, ℕ, List, [], ◌∷◌, length, drop, get_or, ap, sym, subst, arith}
use Rattle.std.specs.List.{zip}
use Rattle.std.proofs.Math.Seq.{take-length}
use Rattle.std.proofs.lemmas.List.{drop_all, length-append}
use Rattle.leg.specs.LegView.{LegView}
use Rattle.leg.specs.Phases.{answered}
use Rattle.package_rules.specs.declared.spans.Span.{Span}
use Rattle.package.specs.steps.Ends.{SupplyView, fetch_of, no_supply, supply_of}
use Rattle.package.specs.steps.Packages.{HasFitting, answers_of}
use Rattle.package.proofs.SuppliesLemmas.{IsPopped, default_behind, none_handed, popped, supplies_kept}
use Rattle.package.proofs.supplies.supplies_of.Goals as goal

abbrev none_span : Span
none_span = record { leg = 0; first = 0; count = 0 }

pub loop-preserved : goal.loop-preserved
loop-preserved g c =
    let items : c.push.new.self.items ≡ c.loop.supplies.items ++ no_supply ∷ [] =
    c.in_ok-push.ensures.items ∙ ap (λ (x : SupplyView). c.loop.supplies.items ++ x ∷ []) c.none.ensures in (
      ap (λ (xs : List SupplyView). length xs) items ∙ length-append c.loop.supplies.items (no_supply ∷ [])
          ∙ ap (λ (n : ℕ). n + 1) c.loop.invariant.0,
      λ leg. ap (λ (xs : List SupplyView). get_or xs leg no_supply) items
          ∙ default_behind c.loop.supplies.items leg no_supply ∙ c.loop.invariant.1 leg,
    )

pub loop-leg-init : goal.loop-leg-init
loop-leg-init g c =
    let all = c.args.legs.items in (
      omega (arith, c.loop.invariant.0, c.loop-test.false, c.loop.auto.counter-end),
      omega arith,
      sym (take-length all),
      λ leg. c.loop.invariant.1 leg ∙ none_handed c.args.spans.now (length all) leg (omega (arith, c.requires.each))
          ∙ ap (λ (legs : List (LegView g.row.S.Denot)).
          supply_of 0 (fetch_of (zip (drop (length all) c.args.spans.now) (answers_of legs)) leg))
          (sym (drop_all (length all) all (omega arith))),
    )

pub of-requires : goal.of-requires
of-requires g c =
    let p : IsPopped c.args.legs.items c.pop.new.self.items c.in-Some.leg =
    popped c.args.legs.items c.loop-leg.legs.items c.pop.new.self.items c.in-Some.leg c.loop-leg.invariant.1 c.loop-leg.invariant.2
    c.in-Some.ensures.items in
    subst (λ (l : LegView g.row.S.Denot). HasFitting l.task (answered l.phase)) (p.last c.in-Some.leg)
    (c.requires.done (length c.pop.new.self.items) c.in-Some.leg p.inside)

pub index_mut-requires : goal.index_mut-requires
index_mut-requires g c =
    let p : IsPopped c.args.legs.items c.pop.new.self.items c.in-Some.leg =
    popped c.args.legs.items c.loop-leg.legs.items c.pop.new.self.items c.in-Some.leg c.loop-leg.invariant.1 c.loop-leg.invariant.2
    c.in-Some.ensures.items in
    let inside : c.len.result < length c.args.spans.now = omega (arith, c.len.ensures, p.inside, c.requires.each) in
    omega (arith, c.requires.within c.len.result none_span inside, c.loop-leg.invariant.0)

pub loop-leg-preserved-in-Some : goal.loop-leg-preserved-in-Some
loop-leg-preserved-in-Some g c =
    let is : c.len.result ≡ length c.pop.new.self.items = omega (arith, c.len.ensures) in
    rw is (supplies_kept c.args.spans.now c.args.legs.items c.loop-leg.legs.items c.pop.new.self.items none_span c.in-Some.leg c.args.many
    c.of.result c.loop-leg.supplies.items c.requires.done c.requires.each c.requires.within c.loop-leg.invariant.1
    c.loop-leg.invariant.2 c.in-Some.ensures.items c.of.ensures c.loop-leg.invariant.0 c.loop-leg.invariant.3)

pub loop-leg-preserved : goal.loop-leg-preserved
loop-leg-preserved g c =
    let is : c.len.result ≡ length c.pop.new.self.items = omega (arith, c.len.ensures) in
    rw is (supplies_kept c.args.spans.now c.args.legs.items c.loop-leg.legs.items c.pop.new.self.items none_span c.in-Some.leg c.args.many
    c.of.result c.loop-leg.supplies.items c.requires.done c.requires.each c.requires.within c.loop-leg.invariant.1
    c.loop-leg.invariant.2 c.in-Some.ensures.items c.of.ensures c.loop-leg.invariant.0 c.loop-leg.invariant.3)

pub returns-clause-each : goal.returns-clause-each
returns-clause-each g c =
    let none : length c.loop-leg.legs.items ≡ 0 = omega (arith, c.in_default.ensures.cases.0) in
    λ k. c.loop-leg.invariant.3 k
    ∙ ap (λ (m : ℕ). supply_of 0 (fetch_of (zip (drop m c.args.spans.now) (answers_of (drop m c.args.legs.items))) k)) none
