use Rattle.std.proofs.Common.{◌≡◌, ◌∙◌, ℕ, length, Ok, is_some, ap, sym, subst, arith}
use Rattle.z_types.specs.MergedOrder.{total}
use Rattle.z_types.specs.Shown.{shown}
use Rattle.z_types.specs.declared.marks.Mark.{Mark}
use Rattle.z_types.specs.declared.outcome.Outcome.TheVariants as outcome
use Rattle.z_types.specs.declared.work.Work.{Work}
use Rattle.gateway_rules.specs.Outcomes.{places_from, whole, within_room}
use Rattle.package_rules.specs.Asked.{element_shown, then_asked}
use Rattle.package_rules.specs.Planned.{by_hits, legs_named, unless_marked}
use Rattle.package_rules.specs.Said.{all_hits, fetches_of, records_said}
use Rattle.package.specs.steps.Packages.{AreDone, answers_of}
use Rattle.package.proofs.FinishLemmas.{asked_each, shown_is}
use Rattle.package.proofs.KindLemmas.{search_is}
use Rattle.package.proofs.MarkedLemmas.{hits_each, unmarked_is}
use Rattle.package.proofs.finishing.found.Goals as goal

pub unreachable-requires : goal.unreachable-requires
unreachable-requires g c = search_is c.args.work.now c.requires.kind c.in_default.not-Search

pub all_hits-requires : goal.all_hits-requires
all_hits-requires g c = subst AreDone (sym c.as_slice.ensures.value) c.requires.first_done

pub shown-requires-clause-few : goal.shown-requires-clause-few
shown-requires-clause-few g c =
    let hits = rw c.as_slice.ensures.value at c.in-Good.ensures in
    let same : length c.in-Good.hits ≡ length c.in-Search.legs =
    hits_each c.args.route.now c.args.work.now c.args.first.items c.in-Good.hits c.requires.kind c.requires.first_done c.requires.at_first hits
    ∙ ap (λ (w : Work). length (legs_named w)) c.in-Search.is in
    let begin = rw c.in-Search.is at c.requires.can_begin in
    omega (arith, same, begin.0)

pub shown-requires-clause-each : goal.shown-requires-clause-each
shown-requires-clause-each g c few =
    let w = c.in-Search in
    let route = c.args.route.now in
    let hits = c.in-Good.hits in
    let said = answers_of c.args.first.items in
    let found : all_hits route said ≡ Ok hits = rw c.as_slice.ensures.value at c.in-Good.ensures in
    let same : length hits ≡ length w.legs =
    hits_each route c.args.work.now c.args.first.items hits c.requires.kind c.requires.first_done c.requires.at_first found
    ∙ ap (λ (x : Work). length (legs_named x)) w.is in
    let unmarked = unmarked_is route c.args.first.items (ap is_some c.requires.unmarked) in
    let asks = c.requires.then
    ∙ ap (λ (m : Mark). unless_marked m (by_hits route c.args.work.now (all_hits route said))) unmarked
    ∙ ap (by_hits route c.args.work.now) found ∙ ap (λ (x : Work). then_asked route x hits) w.is in
    let count : c.shown_count-count.result ≡ shown (total hits) w.small w.large w.medium =
    c.shown_count-count.ensures.shown ∙ ap (λ (n : ℕ). shown n w.small w.large w.medium) (c.total.ensures ∙ ap total c.as_slice-2.ensures) in
    rw count (asked_each route w.legs w.small w.large w.medium w.room hits c.args.later.items w.login w.query w.syntax
    (element_shown w.small w.small_element w.medium_element hits) same asks (rw count at few))

pub returns : goal.returns
returns g c =
    let w = c.in-Search in
    let route = c.args.route.now in
    let hits = c.in-Good.hits in
    let said = answers_of c.args.first.items in
    let later = answers_of c.args.later.items in
    let found : all_hits route said ≡ Ok hits = rw c.as_slice.ensures.value at c.in-Good.ensures in
    let same : length hits ≡ length w.legs =
    hits_each route c.args.work.now c.args.first.items hits c.requires.kind c.requires.first_done c.requires.at_first found
    ∙ ap (λ (x : Work). length (legs_named x)) w.is in
    let count : c.shown_count-count.result ≡ shown (total hits) w.small w.large w.medium =
    c.shown_count-count.ensures.shown ∙ ap (λ (n : ℕ). shown n w.small w.large w.medium) (c.total.ensures ∙ ap total c.as_slice-2.ensures) in
    rw (w.is, found) (ap (outcome.Found hits) (c.in_ok-fetched.ensures
    ∙ ap (λ (n : ℕ). within_room w.room n (whole (records_said route (fetches_of (length hits) (places_from hits 1 n) later)
    (places_from hits 1 n)))) count
    ∙ shown_is route w.legs w.small w.large w.medium w.room hits later same))
