use Rattle.std.proofs.Common.{◌∙◌, ℕ, List, length, ap, sym}
use Rattle.std.proofs.lemmas.List.{length-map}
use Rattle.z_types.specs.declared.outcome.Outcome.TheVariants as outcome
use Rattle.gateway_rules.specs.Outcomes.{places_from, whole}
use Rattle.package_rules.specs.Asked.{Asked, records_asked, spans_of}
use Rattle.package_rules.specs.Said.{fetches_of, records_said}
use Rattle.package.specs.steps.Packages.{answers_of, asked_of}
use Rattle.package.proofs.KindLemmas.{fetch_is}
use Rattle.package.proofs.finishing.fetched.Goals as goal

pub unreachable-requires : goal.unreachable-requires
unreachable-requires g c = fetch_is c.args.work.now c.requires.kind c.in_default.not-Fetch

pub records_said-requires-clause-each : goal.records_said-requires-clause-each
records_said-requires-clause-each g c =
    let w = c.in-Fetch in
    let places = places_from w.hits w.from w.count in
    let begin = rw w.is at c.requires.can_begin in
    let asks = rw w.is at c.requires.at_first in
    sym (length-map c.args.first.items asked_of) ∙ ap (λ (xs : List Asked). length xs) asks
    ∙ length-map (spans_of (length w.legs) places) (records_asked c.args.route.now w.login w.legs w.query w.syntax w.element)
    ∙ ap (λ (n : ℕ). length (spans_of n places)) (sym begin.1)

pub returns : goal.returns
returns g c =
    let w = c.in-Fetch in
    let places = places_from w.hits w.from w.count in
    let begin = rw w.is at c.requires.can_begin in
    rw w.is (ap outcome.Fetched (c.in_ok-records.ensures.records
    ∙ ap (λ (n : ℕ). whole (records_said c.args.route.now (fetches_of n places (answers_of c.args.first.items)) places)) begin.1))
