-- what is asked of legs, and which works are asked for: no more legs than a route has
use Rattle.std.proofs.Common.{ℕ, ◌≤◌, Bool, true, false, cond, List, [], ◌∷◌, length, map, find, Option, None, Some, Result, Ok, Err, arith}
use Rattle.std.specs.List.{AllByRecursion, range_with_len, slice_get}
use Rattle.std.specs.Prelude.{IfSome, ◌==◌, if◌then◌else◌, nat_abs}
use Rattle.std.proofs.Math.Nat.{le-min}
use Rattle.std.proofs.lemmas.List.{length-map}
use Rattle.std.proofs.lemmas.List.Concat.{length-flat_map}
use Rattle.std.proofs.lemmas.List.FromFn.{length-range_with_len}
use Rattle.std.proofs.lemmas.List.Sums.{sum_by-le}
use Rattle.z_types.specs.Bounds.{most_legs}
use Rattle.z_types.specs.MergedOrder.{Place}
use Rattle.z_types.specs.declared.diagnostic.Diag.{Diag}
use Rattle.z_types.specs.declared.known_set.KnownSet.{KnownSet}
use Rattle.z_types.specs.declared.marks.Mark.{Mark}
use Rattle.z_types.specs.declared.marks.Mark.TheVariants as mark
use Rattle.z_types.specs.declared.outcome.Fetched.TheVariants as fetched
use Rattle.z_types.specs.declared.query.RpnQuery.{RpnQuery}
use Rattle.z_types.specs.declared.requests.Asked.{Asked as Form}
use Rattle.z_types.specs.declared.requests.Asked.TheVariants.{Good, Bad}
use Rattle.z_types.specs.declared.requests.Present.{Present}
use Rattle.z_types.specs.declared.requests.Request.{Request}
use Rattle.z_types.specs.declared.requests.Request.TheVariants as request
use Rattle.z_types.specs.declared.requests.Search.{Search}
use Rattle.z_types.specs.declared.scan.ScanAsk.{ScanAsk}
use Rattle.z_types.specs.declared.work.Work.{Work}
use Rattle.z_types.specs.declared.work.Work.TheVariants as work
use Rattle.z_sets.specs.Sets.{StoredSet, set_named, stored}
use Rattle.z_sets.specs.declared.fault.ExpandFault.{ExpandFault}
use Rattle.z_sets.specs.Expansion.{expanded}
use Rattle.route_config.specs.declared.route.Route.{Route}
use Rattle.virt_db.specs.Legs.{legs_of}
use Rattle.front_conn_costs.specs.gateway_rules.Asking.{Asking, asked_with, at_once, element_of, fetch_work, leg_work, query_work, scan_work, search_work, unless_refused, works}
use Rattle.front_conn_costs.specs.gateway_rules.Checks.{checked, present_checks, scan_checks, search_checks}
use Rattle.front_conn_costs.specs.gateway_rules.Given.{present_reply}
use Rattle.front_conn_costs.specs.gateway_rules.Outcomes.{places_from}
use Rattle.front_conn_costs.specs.gateway_rules.State.{ClientState}
use Rattle.front_conn_costs.specs.gateway_rules.Works.{CanBegin}
use Rattle.package_quiet.specs.package_rules.Asked.{Asked, all_records_asked, element_shown, first_asked, hits_asked, places_shown, ranks_of, records_asked, span_of, spans_of, then_asked}
use Rattle.package_quiet.specs.package_rules.Planned.{by_hits, legs_named, then_asked_by, unless_marked}
use Rattle.package_quiet.specs.package_rules.Said.{all_hits, cause_of}
use Rattle.package_quiet.specs.package_rules.declared.answered.Answered.{Answered}
use Rattle.replay.specs.Places.{leg_count, most_at_once}
use Rattle.replay.proofs.LegCounts.{legs_of-few}

-- ---- what a work asks: of each of its legs once at most

span-one : (leg : ℕ) (ranks : List ℕ) → length (span_of leg ranks) ≤ 1
span-one leg [] = omega arith
span-one leg (rank ∷ ranks) = omega arith

few-spans : (legs : ℕ) (places : List Place) → length (spans_of legs places) ≤ legs
few-spans legs places =
    let all = length-flat_map (λ (leg : ℕ). span_of leg (ranks_of leg places)) (range_with_len 0 legs) in
    let few = sum_by-le (λ (leg : ℕ). length (span_of leg (ranks_of leg places))) 1 (range_with_len 0 legs)
    (λ k d inside. span-one _ _) in
    let count = length-range_with_len 0 legs in
    omega (arith, all, few, count)

few-records : (route : Route) (login : Option (List ℕ)) (legs : List ℕ) (query : RpnQuery) (syntax element : Option (List ℕ)) (places : List Place)
    → length (all_records_asked route login legs query syntax element places) ≤ length legs
few-records route login legs query syntax element places =
    let all = length-map (spans_of (length legs) places) (records_asked route login legs query syntax element) in
    let spans = few-spans (length legs) places in
    omega (arith, all, spans)

pub first-named : (route : Route) (job : Work) → length (first_asked route job) ≤ length (legs_named job)
first-named route (work.Search login legs query small large medium small_element medium_element syntax room) =
    let all = length-map legs (hits_asked route login query) in omega (arith, all)
first-named route (work.Fetch login legs query hits first count syntax element) =
    few-records route login legs query syntax element (places_from hits first count)
first-named route (work.Scan login leg ask) = omega arith

few-then : (route : Route) (job : Work) (hits : List ℕ) → length (then_asked route job hits) ≤ length (legs_named job)
few-then route (work.Search login legs query small large medium small_element medium_element syntax room) hits =
    few-records route login legs query syntax (element_shown small small_element medium_element hits) (places_shown small large medium room hits)
few-then route (work.Fetch login legs query hits first count syntax element) found = omega arith
few-then route (work.Scan login leg ask) found = omega arith

few-by : (route : Route) (job : Work) (found : Result (List ℕ) Diag) → length (by_hits route job found) ≤ length (legs_named job)
few-by route job (Ok hits) = few-then route job hits
few-by route job (Err diag) = omega arith

few-unless : (m : Mark) (asked : List Asked) (n : ℕ) → length asked ≤ n → length (unless_marked m asked) ≤ n
few-unless mark.Plain asked n few = few
few-unless mark.Link asked n few = omega arith
few-unless (mark.Silent looks) asked n few = omega arith
few-unless mark.Gone asked n few = omega arith
few-unless (mark.Full sessions) asked n few = omega arith

pub then-named : (route : Route) (job : Work) (first : List Answered) → length (then_asked_by route job first) ≤ length (legs_named job)
then-named route job first = few-unless (cause_of route first).mark _ (length (legs_named job)) (few-by route job (all_hits route first))

-- ---- works of no more legs than a route has

abbrev pub IsOfFew : Route → Work → Type 0
IsOfFew route job = length (legs_named job) ≤ leg_count route

begins-few : (job : Work) → CanBegin job → length (legs_named job) ≤ most_legs
begins-few (work.Search login legs query small large medium small_element medium_element syntax room) can = can.0
begins-few (work.Fetch login legs query hits first count syntax element) can = can.0
begins-few (work.Scan login leg ask) can = omega arith

pub named-few : (route : Route) (job : Work) → CanBegin job → IsOfFew route job → length (legs_named job) ≤ most_at_once route
named-few route job can few = le-min few (begins-few job can)

module _ (route : Route) where
  -- what is asked for is such a work, if any
  abbrev pub AsksFew : Asking → Type 0
  AsksFew (at_once reply) = Unit {0}
  AsksFew (works job) = IsOfFew route job

  abbrev MayAskFew : Result Asking Diag → Type 0
  MayAskFew (Ok asking) = AsksFew asking
  MayAskFew (Err diag) = Unit {0}

  unless-few : (asks : Request) (due : Result Asking Diag) → MayAskFew due → AsksFew (unless_refused asks due)
  unless-few asks (Ok asking) few = few
  unless-few asks (Err diag) few = tt

  checked-few : (checks : List (Option Diag)) (behind : Result Asking Diag) → MayAskFew behind → MayAskFew (checked checks behind)
  checked-few [] behind few = few
  checked-few (None ∷ checks) behind few = checked-few checks behind few
  checked-few (Some diag ∷ checks) behind few = tt

  -- ---- a Search

  search-few : (client : ClientState) (search : Search) (query : Result RpnQuery ExpandFault)
      → MayAskFew (search_work route client search query)
  search-few client search (Ok query) = legs_of-few route search.dbs
  search-few client search (Err fault) = tt

  query-few : (client : ClientState) (search : Search) (query : Form RpnQuery) → MayAskFew (query_work route client search query)
  query-few client search (Good query) = search-few client search (expanded query (legs_of route search.dbs) client.sets)
  query-few client search (Bad diag) = tt

  -- ---- a Present

  abbrev pub IsFewSet : StoredSet → Type 0
  IsFewSet set = length set.legs ≤ leg_count route

  found-few : (test : StoredSet → Bool) (sets : List StoredSet) → AllByRecursion IsFewSet sets → IfSome (find test sets) IsFewSet
  found-few test [] all = tt
  found-few test (set ∷ sets) all =
      elim (test set) as (λ (b : Bool). IfSome (cond b (Some set) (find test sets)) IsFewSet) [
        | true ↦ all.0
        | false ↦ found-few test sets all.1
      ]

  fetch-few : (login : Option (List ℕ)) (present : Present) (hits : List ℕ) (set : Option StoredSet) → IfSome set IsFewSet
      → AsksFew (fetch_work login present hits set)
  fetch-few login present hits None few = tt
  fetch-few login present hits (Some set) few =
      elim (present.number == 0) as (λ (none : Bool).
      AsksFew (if none then at_once (present_reply present hits 0 fetched.None)
      else works (work.Fetch login set.legs set.query hits (nat_abs present.start) present.number present.syntax (element_of present.element)))) [
        | true ↦ tt
        | false ↦ few
      ]

  -- ---- a Scan

  leg-few : (login : Option (List ℕ)) (ask : ScanAsk) (legs : List ℕ) → length legs ≤ leg_count route → MayAskFew (leg_work login ask (slice_get legs 0))
  leg-few login ask [] few = tt
  leg-few login ask (leg ∷ legs) few = omega (arith, few)

  scan-few : (login : Option (List ℕ)) (ask : Form ScanAsk) (legs : List ℕ) → length legs ≤ leg_count route → MayAskFew (scan_work login ask (slice_get legs 0))
  scan-few login (Good ask) legs few = leg-few login ask legs few
  scan-few login (Bad diag) legs few = tt

  -- ---- any request

  pub asked-few : (hits : List ℕ → List ℕ) (client : ClientState) (asks : Request) → AllByRecursion IsFewSet client.sets
      → AsksFew (asked_with hits route client asks)
  asked-few hits client (request.Init init) sets = tt
  asked-few hits client (request.Search search) sets =
      unless-few (request.Search search) _ (checked-few (search_checks route client search) _ (query-few client search search.query))
  asked-few hits client (request.Present present) sets =
      unless-few (request.Present present) _ (checked-few (present_checks route client present (hits present.set_name)) _
      (fetch-few client.agreed.login present (hits present.set_name) (set_named present.set_name client.sets) (found-few _ client.sets sets)))
  asked-few hits client (request.Scan scan) sets =
      unless-few (request.Scan scan) _ (checked-few (scan_checks route client.agreed.whose scan) _
      (scan-few client.agreed.login scan.ask (legs_of route scan.dbs) (legs_of-few route scan.dbs)))
  asked-few hits client (request.Close close) sets = tt

  -- sets that are kept with their hits
  abbrev pub IsFewKnown : KnownSet → Type 0
  IsFewKnown set = length set.legs ≤ leg_count route

  pub stored-few : (sets : List KnownSet) → AllByRecursion IsFewKnown sets → AllByRecursion IsFewSet (map stored sets)
  stored-few [] all = tt
  stored-few (set ∷ sets) all = (all.0, stored-few sets all.1)
