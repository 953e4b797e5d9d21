use Rattle.std.proofs.Common.{◌≡◌, ◌+◌, ◌++◌, List, ap, ◌∙◌, sym, refl, arith, length}
use Rattle.std.proofs.lemmas.List.{length-set}
use Rattle.std.proofs.lemmas.List.Elements.{All-append}
use Rattle.z_types.specs.MergedOrder.{place_at}
use Rattle.gateway_rules.specs.Outcomes.{places_from}
use Rattle.package_rules.specs.declared.spans.Met.{Met}
use Rattle.package_rules.specs.declared.spans.Span.{Span}
use Rattle.package_rules.specs.Asked.{ranks_of, span_of}
use Rattle.package_rules.specs.steps.Spans.{IsSpanOf}
use Rattle.package_rules.proofs.MetLemmas.{met_each, span_of_leg, span_pushed, spans_more}
use Rattle.package_rules.proofs.RunLemmas.{next_rank}
use Rattle.package_rules.proofs.spans.spans_of.Goals as goal

pub meet-requires : goal.meet-requires
meet-requires c =
    let next = next_rank c.args.hits.now c.args.first c.loop-behind.behind (c.args.first + c.loop-behind.behind)
    (place_at c.locate-leg.result.0 c.locate-leg.result.1) c.requires.counted refl c.locate-leg.ensures in
    omega (arith, next.leg, c.requires.few, c.loop-behind.invariant.size)

pub loop-behind-preserved : goal.loop-behind-preserved
loop-behind-preserved c =
    let next = next_rank c.args.hits.now c.args.first c.loop-behind.behind (c.args.first + c.loop-behind.behind)
    (place_at c.locate-leg.result.0 c.locate-leg.result.1) c.requires.counted refl c.locate-leg.ensures in
    record {
      size = ap (λ (ms : List Met). length ms) c.meet.ensures ∙ length-set c.loop-behind.met c.locate-leg.result.0 _ ∙ c.loop-behind.invariant.size;
      each = met_each c.args.hits.now c.args.first c.loop-behind.behind c.locate-leg.result.0 c.locate-leg.result.1 c.loop-behind.met c.meet.new.met
          c.meet.ensures next c.requires.few c.loop-behind.invariant.size c.loop-behind.invariant.each;
    }

pub loop-leg-preserved : goal.loop-leg-preserved
loop-leg-preserved c =
    let places = places_from c.args.hits.now c.args.first c.args.count in
    let here : List Span = span_of c.loop-leg.leg (ranks_of c.loop-leg.leg places) in
    let put : c.push_span.new.spans ≡ c.loop-leg.spans ++ here =
    span_pushed c.args.hits.now c.args.first c.args.count c.loop-behind.behind c.loop-leg.leg c.loop-behind.met _ c.loop-leg.spans c.push_span.new.spans
    (omega arith) c.loop-leg-test.true c.requires.few c.loop-behind.invariant.size c.loop-behind.invariant.each c.in_ok-push_span.ensures in
    record {
      spans = put ∙ ap (λ (ss : List Span). ss ++ here) c.loop-leg.invariant.spans ∙ sym (spans_more c.loop-leg.leg places);
      each = rw put (All-append (IsSpanOf (length c.args.hits.now) (c.args.first + c.args.count)) c.loop-leg.spans here c.loop-leg.invariant.each
          (span_of_leg c.args.hits.now c.args.first c.args.count c.loop-leg.leg c.requires.counted c.loop-leg-test.true));
    }
