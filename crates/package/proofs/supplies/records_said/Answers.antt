use Rattle.std.proofs.Common.{◌≡◌, ◌∙◌, ◌<◌, ◌≤◌, ◌+◌, ◌-◌, ℕ, List, length, map, get_or, Ok, Err, Some, ap, sym, refl, subst, arith, slice_get}
use Rattle.std.specs.List.{zip}
use Rattle.std.specs.Prelude.{filter_map}
use Rattle.std.proofs.lemmas.List.{get_or_default, length-set}
use Rattle.z_types.specs.MergedOrder.{merged, place_at}
use Rattle.gw_outside.specs.declared.targets.TargetAnswer.TheVariants.{Good}
use Rattle.gateway_rules.specs.Outcomes.{places_from, whole}
use Rattle.gateway_rules.specs.Targets.{all_or_first}
use Rattle.package_rules.specs.Asked.{ranks_of}
use Rattle.package_rules.specs.Said.{fetches_of, said_at}
use Rattle.package_rules.specs.declared.spans.Span.{Span}
use Rattle.package_rules.specs.steps.Answers.{AnswersAsAny}
use Rattle.package_rules.specs.steps.Spans.{IsSpanOf}
use Rattle.package_rules.proofs.AllOrFirst.{all_or_first-goods}
use Rattle.package_rules.proofs.Rooms.{length-records}
use Rattle.package_rules.proofs.RunLemmas.{next_rank}
use Rattle.package_rules.proofs.Taken.{records_end, records_more}
use Rattle.package.specs.steps.Ends.{fetch_of, no_supply, supply_of}
use Rattle.package.specs.steps.Packages.{answers_of}
use Rattle.package.proofs.MadeLemmas.{item_holds}
use Rattle.package.proofs.PlaceLemmas.{given_more, said_is_next}
use Rattle.package.proofs.supplies.records_said.Goals as goal

pub supplies_of-requires-clause-each : goal.supplies_of-requires-clause-each
supplies_of-requires-clause-each g c =
    c.requires.each ∙ ap (λ (spans : List Span). length spans)
    (sym (c.as_slice-2.ensures ∙ (rw c.as_slice.ensures at c.in_ok-spans.ensures.spans)))

pub supplies_of-requires-clause-within : goal.supplies_of-requires-clause-within
supplies_of-requires-clause-within g c k d inside =
    let each : IsSpanOf (length c.as_slice.result.now) (c.args.first + c.args.count) (get_or c.as_slice-2.result.now k d) =
    item_holds (IsSpanOf (length c.as_slice.result.now) (c.args.first + c.args.count)) c.in_ok-spans.spans c.as_slice-2.result.now k d
    c.in_ok-spans.ensures.each c.as_slice-2.ensures inside in
    let same : length c.as_slice.result.now ≡ length c.args.hits.now = ap (λ (ns : List ℕ). length ns) c.as_slice.ensures in
    omega (arith, each.leg, same, c.len.ensures)

pub loop-behind-init : goal.loop-behind-init
loop-behind-init g c = (
  c.in_ok-supplies.ensures.many ∙ c.len.ensures,
  λ leg. c.in_ok-supplies.ensures.each leg
      ∙ ap (λ (spans : List Span). supply_of 0 (fetch_of (zip spans (answers_of c.args.legs.items)) leg))
      (c.as_slice-2.ensures ∙ (rw c.as_slice.ensures at c.in_ok-spans.ensures.spans)),
  ap (map (λ x. Ok x)) (sym c.new-records.ensures),
)

pub index_mut-requires : goal.index_mut-requires
index_mut-requires g c =
    let next = next_rank c.args.hits.now c.args.first c.loop-behind.behind (c.args.first + c.loop-behind.behind)
    (place_at c.locate-leg.result.0 c.locate-leg.result.1) c.requires.counted refl
    (rw c.as_slice-in-loop-behind.ensures at c.locate-leg.ensures) in
    omega (arith, next.leg, c.loop-behind.invariant.0)

pub returns-in-Refused-clause-records : goal.returns-in-Refused-clause-records
returns-in-Refused-clause-records g c =
    let hits = c.args.hits.now in
    let first = c.args.first in
    let count = c.args.count in
    let behind = c.loop-behind.behind in
    let leg = c.locate-leg.result.0 in
    let answers = answers_of c.args.legs.items in
    let fetches = fetches_of (length hits) (places_from hits first count) answers in
    let found : slice_get (merged hits) (first + behind - 1) ≡ Some (place_at leg c.locate-leg.result.1) =
    rw c.as_slice-in-loop-behind.ensures at c.locate-leg.ensures in
    let given : ℕ = length (ranks_of leg (places_from hits first behind)) in
    let inside : leg < length c.loop-behind.supplies.items =
    omega (
      arith,
      c.loop-behind.invariant.0,
      (next_rank hits first behind (first + behind) (place_at leg c.locate-leg.result.1) c.requires.counted refl found).leg,
    ) in
    let supply : c.index_mut.result.now ≡ supply_of given (fetch_of fetches leg) =
    c.index_mut.ensures.value ∙ get_or_default c.loop-behind.supplies.items leg _ no_supply inside ∙ c.loop-behind.invariant.1 leg in
    let says : said_at c.args.route.now fetches (place_at leg c.locate-leg.result.1) ≡ Some (Err c.in-Refused.diag) =
    said_is_next hits first behind count (first + behind) answers leg c.locate-leg.result.1 c.args.route.now c.requires.counted
    c.loop-behind-test.true refl found
    ∙ c.in-Refused.ensures.next given (fetch_of fetches leg) supply in
    ap whole (sym (records_end (said_at c.args.route.now fetches) hits first behind count (first + behind)
    (place_at leg c.locate-leg.result.1) c.loop-behind.records c.in-Refused.diag c.requires.counted c.loop-behind-test.true refl found
    c.loop-behind.invariant.2 says))

pub loop-behind-preserved : goal.loop-behind-preserved
loop-behind-preserved g c =
    let hits = c.args.hits.now in
    let first = c.args.first in
    let count = c.args.count in
    let behind = c.loop-behind.behind in
    let leg = c.locate-leg.result.0 in
    let rank = c.locate-leg.result.1 in
    let answers = answers_of c.args.legs.items in
    let fetches = fetches_of (length hits) (places_from hits first count) answers in
    let found : slice_get (merged hits) (first + behind - 1) ≡ Some (place_at leg rank) =
    rw c.as_slice-in-loop-behind.ensures at c.locate-leg.ensures in
    let given : ℕ = length (ranks_of leg (places_from hits first behind)) in
    let inside : leg < length c.loop-behind.supplies.items =
    omega (
      arith,
      c.loop-behind.invariant.0,
      (next_rank hits first behind (first + behind) (place_at leg c.locate-leg.result.1) c.requires.counted refl found).leg,
    ) in
    let supply : c.index_mut.result.now ≡ supply_of given (fetch_of fetches leg) =
    c.index_mut.ensures.value ∙ get_or_default c.loop-behind.supplies.items leg _ no_supply inside ∙ c.loop-behind.invariant.1 leg in
    let says : AnswersAsAny (Good c.in-Good.record) (said_at c.args.route.now fetches (place_at leg rank)) =
    subst (AnswersAsAny (Good c.in-Good.record))
    (sym (said_is_next hits first behind count (first + behind) answers leg rank c.args.route.now c.requires.counted c.loop-behind-test.true
    refl found))
    (c.in-Good.ensures.next given (fetch_of fetches leg) supply) in (
      length-set c.loop-behind.supplies.items leg c.next_record.new.supply ∙ c.loop-behind.invariant.0,
      given_more hits first behind count (first + behind) answers leg rank c.loop-behind.supplies.items c.next_record.new.supply
          c.requires.counted refl found c.loop-behind.invariant.0
          (c.in-Good.ensures.left given (fetch_of fetches leg) supply) c.loop-behind.invariant.1,
      records_more (said_at c.args.route.now fetches) hits first behind (first + behind) (place_at leg rank) c.loop-behind.records
          c.push_next.new.records c.in-Good.record c.requires.counted refl found c.loop-behind.invariant.2 says
          c.in_ok-push_next-in-Good.ensures,
    )

pub returns-clause-records : goal.returns-clause-records
returns-clause-records g c =
    let hits = c.args.hits.now in
    let f = said_at c.args.route.now (fetches_of (length hits) (places_from hits c.args.first c.args.count) (answers_of c.args.legs.items)) in
    let end : c.loop-behind.behind ≡ c.args.count = omega (arith, c.loop-behind-test.false, c.loop-behind.auto.behind-end) in
    ap whole (sym (all_or_first-goods c.loop-behind.records) ∙ ap all_or_first (sym c.loop-behind.invariant.2)
    ∙ ap (λ (n : ℕ). all_or_first (filter_map f (places_from hits c.args.first n))) end)

pub returns-clause-count : goal.returns-clause-count
returns-clause-count g c =
    let hits = c.args.hits.now in
    let f = said_at c.args.route.now (fetches_of (length hits) (places_from hits c.args.first c.args.count) (answers_of c.args.legs.items)) in
    let few : length c.loop-behind.records ≤ c.loop-behind.behind =
    length-records f hits c.args.first c.loop-behind.behind c.loop-behind.records
    (ap all_or_first c.loop-behind.invariant.2 ∙ all_or_first-goods c.loop-behind.records) in
    omega (arith, few, c.loop-behind.auto.behind-end)
