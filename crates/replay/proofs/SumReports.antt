-- what is reported of sums and marks is what was counted of the clients
use Rattle.std.proofs.Common.{◌≡◌, ◌∙◌, ◌<◌, ◌≤◌, ◌+◌, ◌*◌, ℕ, zero, suc, Bool, true, List, [], ◌∷◌, Option, None, Some, IfSome, IsSome, if◌then◌else◌, nat_lt, length, map, take, get_or, set, add-one, refl, sym, ap, subst, arith}
use Rattle.std.specs.List.{range_with_len, sum_by}
use Rattle.std.proofs.lemmas.List.{length-map, take_all, take_more}
use Rattle.std.proofs.lemmas.List.Sums.{sum_by-append, sum_by-cons}
use Rattle.std.proofs.lemmas.Option.{unwrap_or-slice_get}
use Rattle.z_types.specs.Bounds.{within64}
use Rattle.route_config.specs.declared.route.Class.{Class}
use Rattle.route_config.specs.declared.route.PoolNumbers.{PoolNumbers}
use Rattle.route_config.specs.declared.route.Route.{Route}
use Rattle.front_conn_costs.specs.front_conn.declared.totals.Total.{Total}
use Rattle.package_quiet.specs.package.steps.Packages.{PackageView}
use Rattle.front_conn_costs.specs.front_conn.steps.Answering.{Outside, legs_in}
use Rattle.front_conn_costs.specs.steps.Ledgers.{dues_in}
use Rattle.front_conn_costs.specs.front_conn.steps.Totals.{totals_for}
use Rattle.front_conn_costs.specs.steps.Conns.{AreTotalsOf, in_total, marks_of, met_on, outside_counts, outside_meets}
use Rattle.front_conn_costs.specs.steps.Growth.{RisesAsMuch, RisesEnough}
use Rattle.front_conn_costs.specs.steps.Laws.{MarksAreMet, SumsAtRest}
use Rattle.front_conn_costs.specs.steps.Numbers.{Caused, Number, dials, faults, gones, searches, weight}
use Rattle.front_conn_costs.proofs.GrowthLemmas.{as-same, enough-less}
use Rattle.front_conn_costs.proofs.TotalLemmas.{place-added}
use Rattle.replay.specs.declared.reports.ClassReport.{ClassReport}
use Rattle.replay.specs.declared.reports.ClientReport.{ClientReport}
use Rattle.replay.specs.declared.reports.Report.{Report}
use Rattle.replay.specs.Classes.{costless, costs_after, costs_of, costs_with, nameless, with_total}
use Rattle.replay.specs.Clients.{AreNone, ClientState, client_at}
use Rattle.replay.specs.Counts.{AreDialled, AreSums, HaveCauses, in_class, in_classes, met_for}
use Rattle.replay.specs.Trace.{AreReported, IsReported, IsReportedBehind, costs_upto}
use Rattle.replay.specs.steps.Clients.{AreEnded}
use Rattle.replay.specs.steps.Costs.{AreCosted, AreKept, IsKept, counted_at, met_at, unused_at}
use Rattle.replay.proofs.CostLemmas.{names-costs_upto, names-costs_with}

-- ---- a sum over a list, place by place

pub sum-next : {X : Type 0} (f : X → ℕ) (xs : List X) (place : ℕ) (d : X) → place < length xs
    → sum_by f (take (place + 1) xs) ≡ sum_by f (take place xs) + f (get_or xs place d)
sum-next f xs place d inside =
    ap (sum_by f) (take_more xs place d inside) ∙ sum_by-append f (take place xs) (get_or xs place d ∷ [])
    ∙ ap (λ (n : ℕ). sum_by f (take place xs) + n) (sum_by-cons f (get_or xs place d) [] ∙ omega arith)

at_place : {S : Type 0} (clients : List (Option (ClientState S))) (place : ℕ) → get_or clients place None ≡ client_at clients place
at_place clients place = sym (unwrap_or-slice_get clients place None)

-- ---- sums by class

-- of a class what a connection's legs counted is added
added : (number : Number) (total : Total) (class : ClassReport) → in_class number (with_total total class) ≡ within64 (in_class number class + in_total number total)
added dials total class = refl
added searches total class = refl
added gones total class = refl
added faults total class = refl

with-length : (classes : List ClassReport) (total : Total) → length (costs_with classes total) ≡ length classes
with-length classes total =
    sym (length-map (costs_with classes total) (λ (c : ClassReport). c.name))
    ∙ ap (λ (ns : List (List ℕ)). length ns) (names-costs_with classes total) ∙ length-map classes (λ (c : ClassReport). c.name)

with-sum : (number : Number) (classes : List ClassReport) (total : Total) (others : ℕ) → total.class < length classes
    → within64 (others + in_classes number (costs_with classes total)) ≡ within64 (others + in_classes number classes + in_total number total)
with-sum number classes total others inside =
    let class : ClassReport = get_or classes total.class nameless in
    let is : nat_lt total.class (length classes) ≡ true = grind (arith, inside) in
    let sums : costs_with classes total ≡ set classes total.class (with_total total class) =
    ap (λ (b : Bool). if b then set classes total.class (with_total total class) else classes) is in
    ap (λ (cs : List ClassReport). within64 (others + in_classes number cs)) sums
    ∙ place-added (in_class number) classes total.class (with_total total class) nameless (in_total number total) others inside (added number total class)

-- those of a connection, which are of classes one behind another
after-sum : (number : Number) (classes : List ClassReport) (totals : List Total) (first count others : ℕ)
    → map (λ (t : Total). t.class) totals ≡ range_with_len first count → first + count ≤ length classes
    → within64 (others + in_classes number (costs_after classes totals)) ≡ within64 (others + (in_classes number classes + sum_by (in_total number) totals))
after-sum number classes [] first count others of within = ap within64 (omega arith)
after-sum number classes (total ∷ totals) first zero others of within = cc
after-sum number classes (total ∷ totals) first (suc count) others of within =
    let one : total.class ≡ first = cc in
    let others_of : map (λ (t : Total). t.class) totals ≡ range_with_len (first + 1) count = cc in
    let inside : total.class < length classes = omega (arith, one, within) in
    after-sum number (costs_with classes total) totals (first + 1) count others others_of (omega (arith, within, with-length classes total))
    ∙ ap within64 (omega arith)
    ∙ with-sum number classes total (others + sum_by (in_total number) totals) inside
    ∙ ap within64 (omega (arith, sum_by-cons (in_total number) total totals))

-- those of a connection that has ended
made-sum : (number : Number) (route : Route) (classes : List ClassReport) (totals : List Total) (others : ℕ)
    → AreTotalsOf route (totals_for route totals) → length classes ≡ length route.classes
    → within64 (others + in_classes number (costs_after classes totals)) ≡ within64 (others + (in_classes number classes + sum_by (in_total number) totals))
made-sum number route classes [] others made all = ap within64 (omega arith)
made-sum number route classes (total ∷ totals) others made all =
    after-sum number classes (total ∷ totals) 0 (length route.classes) others made (omega (arith, all))

-- none was counted at first
none-counted : (number : Number) (class : Class) → in_class number (costless class) ≡ 0
none-counted dials class = refl
none-counted searches class = refl
none-counted gones class = refl
none-counted faults class = refl

none-summed : (number : Number) (classes : List Class) → in_classes number (map costless classes) ≡ 0
none-summed number [] = refl
none-summed number (class ∷ classes) =
    sum_by-cons (in_class number) (costless class) (map costless classes)
    ∙ omega (arith, none-counted number class, none-summed number classes)

module _ {S : Type 0} (law : SumsAtRest S) (route : Route) where
  -- of one client, whose connection has ended
  one-sum : (number : Number) (classes : List ClassReport) (here : Option (ClientState S)) (others : ℕ) → length classes ≡ length route.classes
      → IfSome here (IsKept route) → IfSome here (λ client. IsSome client.conn.end)
      → within64 (others + in_classes number (costs_of here classes)) ≡ within64 (others + (in_classes number classes + counted_at number here))
  one-sum number classes None others all kept ended = ap within64 (omega arith)
  one-sum number classes (Some client) others all kept ended =
      made-sum number route classes client.conn.totals others kept.totals.made all
      ∙ ap (λ (n : ℕ). within64 (others + (in_classes number classes + n))) (sym ((law client.conn (kept.rests ended)).counted number))

  upto-length : (last : ℕ) (clients : List (Option (ClientState S))) (first : List ClassReport) → length (costs_upto last clients first) ≡ length first
  upto-length last clients first =
      sym (length-map (costs_upto last clients first) (λ (c : ClassReport). c.name))
      ∙ ap (λ (ns : List (List ℕ)). length ns) (names-costs_upto last clients first) ∙ length-map first (λ (c : ClassReport). c.name)

  -- of those up to a place
  upto-sum : (number : Number) (last : ℕ) (clients : List (Option (ClientState S))) (first : List ClassReport) (others : ℕ)
      → length first ≡ length route.classes → last ≤ length clients → AreKept route clients → AreEnded clients
      → within64 (others + in_classes number (costs_upto last clients first))
      ≡ within64 (others + (in_classes number first + sum_by (counted_at number) (take last clients)))
  upto-sum number zero clients first others all within kept ended = ap within64 (omega arith)
  upto-sum number (suc last) clients first others all within kept ended =
      let here = client_at clients last in
      let before = costs_upto last clients first in
      let next : sum_by (counted_at number) (take (suc last) clients) ≡ sum_by (counted_at number) (take last clients) + counted_at number here =
      ap (λ (n : ℕ). sum_by (counted_at number) (take n clients)) (sym (add-one last))
      ∙ sum-next (counted_at number) clients last None (omega (arith, within))
      ∙ ap (λ (c : Option (ClientState S)). sum_by (counted_at number) (take last clients) + counted_at number c) (at_place clients last) in
      one-sum number before here others (upto-length last clients first ∙ all) (kept last) (ended last)
      ∙ ap within64 (omega arith)
      ∙ upto-sum number last clients first (others + counted_at number here) all (omega (arith, within)) kept ended
      ∙ ap within64 (omega (arith, next))

  -- what is reported of all classes
  pub sums_reported : (exact : Bool) (start finish : List (Option (ClientState S))) (report : Report) (before behind : Outside S)
      → ((number : Number) → sum_by (counted_at number) start ≡ 0) → AreKept route start → AreEnded finish → IsReported route finish report
      → AreCosted exact route (record { clients = start; outside = before }) (record { clients = finish; outside = behind })
      → AreSums exact report before behind
  sums_reported exact start finish report before behind none kept ended told h number is_told =
      let all : length (map costless route.classes) ≡ length route.classes = length-map route.classes costless in
      let same : (others : ℕ) → within64 (others + in_classes number report.classes) ≡ within64 (others + sum_by (counted_at number) finish) = λ others.
      ap (λ (cs : List ClassReport). within64 (others + in_classes number cs)) told.costs
      ∙ upto-sum number (length finish) finish (map costless route.classes) others all (omega arith) (h.kept kept) ended
      ∙ ap (λ (cs : List (Option (ClientState S))). within64 (others + (in_classes number (map costless route.classes) + sum_by (counted_at number) cs)))
      (take_all (length finish) finish (omega arith))
      ∙ ap within64 (omega (arith, none-summed number route.classes)) in
      as-same 0 (sum_by (counted_at number) finish) (in_classes number report.classes) (outside_counts number before) (outside_counts number behind) same
      (subst (λ (n : ℕ). RisesAsMuch n (sum_by (counted_at number) finish) (outside_counts number before) (outside_counts number behind)) (none number)
      (h.counted kept number is_told))

-- ---- marks

module _ {S : Type 0} (law : MarksAreMet S) (pool : PoolNumbers) (kind : Caused) where
  one-met : (number : ℕ) (here : Option (ClientState S)) (old new : List ClientReport) → IsReportedBehind number here old new
      → met_for pool kind new ≤ met_for pool kind old + met_at pool kind here
  one-met number None old new h = let same = ap (met_for pool kind) h in omega (arith, same)
  one-met number (Some client) old new h =
      let f : ClientReport → ℕ = λ c. weight pool kind * marks_of kind c.marks in
      let report = h.0 in
      let all : met_for pool kind new ≡ met_for pool kind old + f report =
      ap (met_for pool kind) h.2 ∙ sum_by-append f old (report ∷ []) ∙ ap (λ (n : ℕ). met_for pool kind old + n) (sum_by-cons f report [] ∙ omega arith) in
      let marks : f report ≡ weight pool kind * marks_of kind client.conn.marks = ap (λ ms. weight pool kind * marks_of kind ms) h.1.marks in
      let met : weight pool kind * marks_of kind client.conn.marks ≤ met_on pool kind client.conn = law pool kind client.conn in
      omega (arith, all, marks, met)

  upto-met : (last : ℕ) (clients : List (Option (ClientState S))) (reports : List ClientReport) → last ≤ length clients → AreReported last clients reports
      → met_for pool kind reports ≤ sum_by (met_at pool kind) (take last clients)
  upto-met zero clients reports within h = let same = ap (met_for pool kind) h in omega (arith, same)
  upto-met (suc last) clients reports within h =
      let here = client_at clients last in
      let next : sum_by (met_at pool kind) (take (suc last) clients) ≡ sum_by (met_at pool kind) (take last clients) + met_at pool kind here =
      ap (λ (n : ℕ). sum_by (met_at pool kind) (take n clients)) (sym (add-one last))
      ∙ sum-next (met_at pool kind) clients last None (omega (arith, within))
      ∙ ap (λ (c : Option (ClientState S)). sum_by (met_at pool kind) (take last clients) + met_at pool kind c) (at_place clients last) in
      let rest = upto-met last clients h.0 (omega (arith, within)) h.1 in
      let one = one-met (suc last) here h.0 reports h.2 in
      omega (arith, next, rest, one)

-- the marks of all clients have their causes
pub marks_reported : {S : Type 0} (law : MarksAreMet S) (exact : Bool) (route : Route) (start finish : List (Option (ClientState S))) (report : Report)
    (before behind : Outside S) → ((kind : Caused) → sum_by (met_at route.pool kind) start ≡ 0) → IsReported route finish report
    → AreCosted exact route (record { clients = start; outside = before }) (record { clients = finish; outside = behind })
    → HaveCauses route.pool report before behind
marks_reported {S = S} law exact route start finish report before behind none told h kind =
    let met : met_for route.pool kind report.clients ≤ sum_by (met_at route.pool kind) finish =
    subst (λ (cs : List (Option (ClientState S))). met_for route.pool kind report.clients ≤ sum_by (met_at route.pool kind) cs)
    (take_all (length finish) finish (omega arith)) (upto-met law route.pool kind (length finish) finish report.clients (omega arith) told.clients_of) in
    enough-less 0 (sum_by (met_at route.pool kind) finish) (met_for route.pool kind report.clients) (outside_meets kind before) (outside_meets kind behind) met
    (subst (λ (n : ℕ). RisesEnough n (sum_by (met_at route.pool kind) finish) (outside_meets kind before) (outside_meets kind behind)) (none kind) (h.met kind))

-- ---- where nobody is

module _ {S : Type 0} (f : Option (ClientState S) → ℕ) (nothing : f None ≡ 0) where
  none-sum : (clients : List (Option (ClientState S))) → AreNone clients → sum_by f clients ≡ 0
  none-sum [] none = refl
  none-sum (client ∷ clients) none =
      let here : client ≡ None = none 0 in
      let rest = none-sum clients (λ place. none (suc place)) in
      let one : f client ≡ 0 = ap f here ∙ nothing in
      sum_by-cons f client clients ∙ omega (arith, one, rest)

pub nobody_counted : {S : Type 0} (number : Number) (clients : List (Option (ClientState S))) → AreNone clients → sum_by (counted_at number) clients ≡ 0
nobody_counted number clients none = none-sum (counted_at number) refl clients none

pub nobody_met : {S : Type 0} (pool : PoolNumbers) (kind : Caused) (clients : List (Option (ClientState S))) → AreNone clients → sum_by (met_at pool kind) clients ≡ 0
nobody_met pool kind clients none = none-sum (met_at pool kind) refl clients none

pub nobody_kept : {S : Type 0} (route : Route) (clients : List (Option (ClientState S))) → AreNone clients → AreKept route clients
nobody_kept route clients none place = subst (λ (c : Option _). IfSome c (IsKept route)) (sym (none place)) tt

-- ---- what is not dialled yet

zero-sum : {S : Type 0} (f : Option (ClientState S) → ℕ) (clients : List (Option (ClientState S))) → ((place : ℕ) → f (client_at clients place) ≡ 0)
    → sum_by f clients ≡ 0
zero-sum f [] none = refl
zero-sum f (client ∷ clients) none =
    let here : f client ≡ 0 = none 0 in
    let rest = zero-sum f clients (λ place. none (suc place)) in
    sum_by-cons f client clients ∙ omega (arith, here, rest)

rest-unused : {S : Type 0} (route : Route) (here : Option (ClientState S)) → IfSome here (IsKept route) → IfSome here (λ client. IsSome client.conn.end)
    → unused_at here ≡ 0
rest-unused route None kept ended = refl
rest-unused {S = S} route (Some client) kept ended =
    ap (λ (v : Option (PackageView S)). (dues_in (legs_in v)).unused) (kept.rests ended)

nobody-unused : {S : Type 0} (here : Option (ClientState S)) → here ≡ None → unused_at here ≡ 0
nobody-unused here none = ap unused_at none

dialled-sum : (named made failed old new : ℕ) → named + old ≤ made + failed + new → old ≡ 0 → new ≡ 0 → named ≤ made + failed
dialled-sum named made failed old new paid none rest = omega (arith, paid, none, rest)

-- the addresses that the door named were dialled, or failed
pub dialled_reported : {S : Type 0} (exact : Bool) (route : Route) (start finish : List (Option (ClientState S))) (before behind : Outside S)
    → AreNone start → AreEnded finish
    → AreCosted exact route (record { clients = start; outside = before }) (record { clients = finish; outside = behind }) → AreDialled before behind
dialled_reported exact route start finish before behind none ended h =
    let kept = h.kept (nobody_kept route start none) in
    let paid = h.paid in record {
      opens = paid.cost.opens;
      dials = paid.cost.dials;
      faults = paid.cost.faults;
      named = paid.raised.opens;
      made = paid.raised.dials;
      failed = paid.raised.faults;
      paid = dialled-sum paid.cost.opens paid.cost.dials paid.cost.faults (sum_by unused_at start) (sum_by unused_at finish) paid.opens
          (zero-sum unused_at start (λ place. nobody-unused (client_at start place) (none place)))
          (zero-sum unused_at finish (λ place. rest-unused route (client_at finish place) (kept place) (ended place)));
    }
