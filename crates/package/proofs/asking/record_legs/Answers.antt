use Rattle.std.proofs.Common.{◌∙◌, ◌+◌, ◌++◌, ℕ, [], ◌∷◌, List, length, map, ap, refl, arith}
use Rattle.std.specs.Option.{option_copied}
use Rattle.gateway_rules.specs.Outcomes.{places_from}
use Rattle.package_rules.specs.Asked.{Asked, records_asked, spans_of}
use Rattle.package_rules.specs.declared.spans.Span.{Span}
use Rattle.package_rules.specs.steps.Spans.{IsSpanOf}
use Rattle.package.specs.steps.Packages.{begun}
use Rattle.package.proofs.MadeLemmas.{item_holds, made_all, made_more, span_told}
use Rattle.package.proofs.asking.record_legs.Goals as goal

pub records_leg-requires-clause-span : goal.records_leg-requires-clause-span
records_leg-requires-clause-span g c =
    span_told c.args.hits.now (length c.args.wanted.legs.now) c.args.first c.args.count _ c.requires.each c.requires.within
    (item_holds (IsSpanOf (length c.args.hits.now) (c.args.first + c.args.count)) c.in_ok-spans.spans c.as_slice-span-items.result.now
    c.loop-span.span-index (record { leg = 0; first = 0; count = 0 }) (rw c.as_slice.ensures at c.in_ok-spans.ensures.each) c.as_slice-span-items.ensures c.loop-span-test.true)

pub loop-span-preserved : goal.loop-span-preserved
loop-span-preserved g c =
    let w = c.args.wanted in
    let f : Span → Asked = records_asked c.args.route.now w.login.now w.legs.now w.query.now (option_copied w.syntax) (option_copied w.element) in
    made_more begun f c.as_slice-span-items.result.now c.loop-span.span-index (record { leg = 0; first = 0; count = 0 }) _ c.loop-span.made.items c.push.new.self.items
    c.loop-span-test.true refl c.loop-span.invariant
    (c.in_ok-push.ensures.items ∙ ap (λ leg. c.loop-span.made.items ++ leg ∷ []) c.in_ok-records_leg.ensures)

pub returns : goal.returns
returns g c =
    let w = c.args.wanted in
    let f : Span → Asked = records_asked c.args.route.now w.login.now w.legs.now w.query.now (option_copied w.syntax) (option_copied w.element) in
    let places = places_from c.args.hits.now c.args.first c.args.count in
    made_all begun f c.as_slice-span-items.result.now c.loop-span.span-index c.loop-span.made.items (omega arith) c.loop-span.invariant
    ∙ ap (λ (spans : List Span). map begun (map f spans)) (c.as_slice-span-items.ensures ∙ (rw c.as_slice.ensures at c.in_ok-spans.ensures.spans)
    ∙ ap (λ (n : ℕ). spans_of n places) c.requires.each)
