-- What is reported of classes and of marks is what the clients have
use Rattle.std.proofs.Common.{◌≡◌, ◌≢◌, ◌∙◌, ◌<◌, ◌≤◌, ◌+◌, ℕ, zero, suc, add-one, Bool, true, false, inl, inr, if◌then◌else◌, nat_lt, List, [], ◌∷◌, length, map, take, get_or, set, Option, None, Some, refl, sym, ap, subst, arith}
use Rattle.std.specs.List.{range_with_len, sum_by}
use Rattle.std.proofs.lemmas.Bool.{cases_eq, eq-eqb, ne_eqb}
use Rattle.std.proofs.lemmas.Grind.{get_or-set_at}
use Rattle.std.proofs.lemmas.List.{get_or-set_other, length-map, take_all, take_more}
use Rattle.std.proofs.lemmas.List.Sums.{sum_by-append, sum_by-cons}
use Rattle.std.proofs.lemmas.Option.{unwrap_or-slice_get}
use Rattle.z_types.specs.Bounds.{within64}
use Rattle.replay.specs.gateway_rules.OneAnswer.{AreMarksPlain}
use Rattle.route_config.specs.declared.route.Class.{Class}
use Rattle.route_config.specs.declared.route.Route.{Route}
use Rattle.replay.specs.front_conn.declared.totals.Total.{Total}
use Rattle.replay.specs.front_conn_costs.steps.Conns.{in_total}
use Rattle.replay.specs.front_conn_costs.steps.Numbers.{Number, dials, faults, gones, searches}
use Rattle.replay.specs.Classes.{costless, costs_after, costs_of, costs_with, nameless, with_total}
use Rattle.replay.specs.Clients.{ClientState, client_at, client_or_new}
use Rattle.replay.specs.Counts.{in_class}
use Rattle.replay.specs.Trace.{AreReported, IsReportedBehind, costs_upto}
use Rattle.replay.specs.Uncaused.{AreAllPlain}
use Rattle.replay.specs.declared.reports.ClassReport.{ClassReport}
use Rattle.replay.specs.declared.reports.ClientReport.{ClientReport}
use Rattle.replay.proofs.CostLemmas.{names-costs_upto, names-costs_with, same_length}
use Rattle.replay_shares.specs.steps.Costs.{cost_at, cost_in, cost_on}
use Rattle.replay_shares.proofs.CountLemmas.{all-both}

-- ---- a class

added : (number : Number) (total : Total) (class : ClassReport)
    → in_class number (with_total total class) ≡ within64 (in_class number class + in_total number total)
added dials total class = refl
added searches total class = refl
added gones total class = refl
added faults total class = refl

costless-is : (number : Number) (class : Class) → in_class number (costless class) ≡ 0
costless-is dials class = refl
costless-is searches class = refl
costless-is gones class = refl
costless-is faults class = refl

module _ (number : Number) (class : ℕ) where
  -- what is reported of it
  abbrev reported : List ClassReport → ℕ
  reported classes = in_class number (get_or classes class nameless)

  -- a sum of this class is added to it; one of another is not
  own-added : (classes : List ClassReport) (total : Total) → class < length classes → total.class ≡ class
      → reported (costs_with classes total) ≡ within64 (reported classes + cost_in number class total)
  own-added classes total inside own =
      let place : nat_lt total.class (length classes) ≡ true = grind (arith, inside, own) in
      let new : ClassReport = with_total total (get_or classes total.class nameless) in
      ap (λ (b : Bool). reported (if b then set classes total.class new else classes)) place
      ∙ ap (in_class number) (get_or-set_at classes total.class class new nameless (sym own) (omega (arith, inside, own)))
      ∙ added number total (get_or classes total.class nameless)
      ∙ ap (λ (k : ℕ). within64 (in_class number (get_or classes k nameless) + in_total number total)) own
      ∙ ap (λ (b : Bool). within64 (reported classes + (if b then in_total number total else 0))) (sym (eq-eqb total.class class own))

  other-set : (b : Bool) (classes : List ClassReport) (total : Total) (new : ClassReport) → total.class ≢ class
      → reported (if b then set classes total.class new else classes) ≡ reported classes
  other-set true classes total new other =
      ap (in_class number) (get_or-set_other classes total.class class new nameless (λ e. other (sym e)))
  other-set false classes total new other = refl

  other-added : (classes : List ClassReport) (total : Total) → reported classes ≡ within64 (reported classes) → total.class ≢ class
      → reported (costs_with classes total) ≡ within64 (reported classes + cost_in number class total)
  other-added classes total within other =
      other-set (nat_lt total.class (length classes)) classes total (with_total total (get_or classes total.class nameless)) other
      ∙ within ∙ ap within64 (omega arith)
      ∙ ap (λ (b : Bool). within64 (reported classes + (if b then in_total number total else 0))) (sym (ne_eqb total.class class other))

  one-added : (classes : List ClassReport) (total : Total) → class < length classes → reported classes ≡ within64 (reported classes)
      → reported (costs_with classes total) ≡ within64 (reported classes + cost_in number class total)
  one-added classes total inside within = elim (cases_eq total.class class) [
    | inl own ↦ own-added classes total inside own
    | inr other ↦ other-added classes total within other
  ]

  with-length : (classes : List ClassReport) (total : Total) → length (costs_with classes total) ≡ length classes
  with-length classes total = same_length (λ (c : ClassReport). c.name) (costs_with classes total) classes (names-costs_with classes total)

  two-added : (a b c : ℕ) → within64 (within64 (a + b) + c) ≡ within64 (a + (b + c))
  two-added a b c = omega arith

  within-twice : (a b : ℕ) → a ≡ within64 b → a ≡ within64 a
  within-twice a b e = omega (arith, e)

  -- those of a connection are added
  all-added : (classes : List ClassReport) (totals : List Total) → class < length classes → reported classes ≡ within64 (reported classes)
      → reported (costs_after classes totals) ≡ within64 (reported classes + cost_on number class totals)
  all-added classes [] inside within = within ∙ ap within64 (omega arith)
  all-added classes (total ∷ totals) inside within =
      let one = one-added classes total inside within in
      let sums = sum_by-cons (cost_in number class) total totals in
      all-added (costs_with classes total) totals (omega (arith, inside, with-length classes total))
      (within-twice (reported (costs_with classes total)) (reported classes + cost_in number class total) one)
      ∙ ap (λ (n : ℕ). within64 (n + cost_on number class totals)) one
      ∙ two-added (reported classes) (cost_in number class total) (cost_on number class totals)
      ∙ ap (λ (n : ℕ). within64 (reported classes + n)) (omega (arith, sums))

  module _ {S : Type 0} where
    client-added : (here : Option (ClientState S)) (classes : List ClassReport) → class < length classes
        → reported classes ≡ within64 (reported classes)
        → reported (costs_of here classes) ≡ within64 (reported classes + cost_at number class here)
    client-added None classes inside within = within ∙ ap within64 (omega arith)
    client-added (Some client) classes inside within = all-added classes client.conn.totals inside within

    upto-length : (last : ℕ) (clients : List (Option (ClientState S))) (first : List ClassReport)
        → length (costs_upto last clients first) ≡ length first
    upto-length last clients first =
        same_length (λ (c : ClassReport). c.name) (costs_upto last clients first) first (names-costs_upto last clients first)

    at_place : (clients : List (Option (ClientState S))) (place : ℕ) → get_or clients place None ≡ client_at clients place
    at_place clients place = sym (unwrap_or-slice_get clients place None)

    sum-next : (clients : List (Option (ClientState S))) (last : ℕ) → last < length clients
        → sum_by (cost_at number class) (take (suc last) clients)
        ≡ sum_by (cost_at number class) (take last clients) + cost_at number class (client_at clients last)
    sum-next clients last inside =
        let f : Option (ClientState S) → ℕ = cost_at number class in
        ap (λ (n : ℕ). sum_by f (take n clients)) (sym (add-one last))
        ∙ ap (sum_by f) (take_more clients last None inside)
        ∙ sum_by-append f (take last clients) (get_or clients last None ∷ [])
        ∙ ap (λ (n : ℕ). sum_by f (take last clients) + n) (sum_by-cons f (get_or clients last None) [] ∙ omega arith)
        ∙ ap (λ (c : Option (ClientState S)). sum_by f (take last clients) + f c) (at_place clients last)

    upto-added : (last : ℕ) (clients : List (Option (ClientState S))) (first : List ClassReport) → class < length first
        → last ≤ length clients → reported first ≡ 0
        → reported (costs_upto last clients first) ≡ within64 (sum_by (cost_at number class) (take last clients))
    upto-added zero clients first inside within none = none ∙ omega arith
    upto-added (suc last) clients first inside within none =
        let here = client_at clients last in
        let before = costs_upto last clients first in
        let rest = upto-added last clients first inside (omega (arith, within)) none in
        let total = sum_by (cost_at number class) (take last clients) in
        client-added here before (omega (arith, inside, upto-length last clients first)) (within-twice (reported before) total rest)
        ∙ ap (λ (n : ℕ). within64 (n + cost_at number class here)) rest
        ∙ within-on total (cost_at number class here)
        ∙ ap within64 (sym (sum-next clients last (omega (arith, within)))) where
          within-on : (a b : ℕ) → within64 (within64 a + b) ≡ within64 (a + b)
          within-on a b = omega arith

-- what is reported of a class is what all clients cost it
pub class-reported : {S : Type 0} (number : Number) (class : ℕ) (route : Route) (clients : List (Option (ClientState S)))
    → class < length route.classes
    → in_class number (get_or (costs_upto (length clients) clients (map costless route.classes)) class nameless)
    ≡ within64 (sum_by (cost_at number class) clients)
class-reported number class route clients inside =
    upto-added number class (length clients) clients (map costless route.classes)
    (omega (arith, inside, length-map route.classes costless)) (omega arith) (costless-at number route.classes class)
    ∙ ap (λ (cs : List (Option (ClientState _))). within64 (sum_by (cost_at number class) cs)) (take_all (length clients) clients (omega arith)) where
      costless-at : (number : Number) (classes : List Class) (class : ℕ) → in_class number (get_or (map costless classes) class nameless) ≡ 0
      costless-at dials [] class = refl
      costless-at searches [] class = refl
      costless-at gones [] class = refl
      costless-at faults [] class = refl
      costless-at number (one ∷ classes) zero = costless-is number one
      costless-at number (one ∷ classes) (suc class) = costless-at number classes class

-- a line for each place
pub lines-are : {X : Type 0} (f : X → ℕ) (g : ℕ → ℕ) (xs : List X) (d : X) (first : ℕ)
    → ((place : ℕ) → place < length xs → f (get_or xs place d) ≡ g (first + place)) → map f xs ≡ map g (range_with_len first (length xs))
lines-are f g [] d first each = refl
lines-are f g (x ∷ xs) d first each =
    let here : f x ≡ g first = each 0 (omega arith) ∙ ap g (omega arith) in
    let rest = lines-are f g xs d (first + 1) (λ place inside. each (suc place) (omega (arith, inside)) ∙ ap g (omega arith)) in
    λ i. here i ∷ rest i

-- ---- marks

module _ {S : Type 0} where
  one-plain : (number : ℕ) (here : Option (ClientState S)) (old new : List ClientReport) → AreMarksPlain (client_or_new here).conn.marks
      → AreAllPlain old → IsReportedBehind number here old new → AreAllPlain new
  one-plain number None old new plain olds h = subst AreAllPlain (sym h) olds
  one-plain number (Some client) old new plain olds h =
      subst AreAllPlain (sym h.2)
      (all-both (λ (c : ClientReport). AreMarksPlain c.marks) old (h.0 ∷ []) olds (subst AreMarksPlain (sym h.1.marks) plain, tt))

  -- where all marks of clients are Plain, all that are reported are
  pub plain-reported : (last : ℕ) (clients : List (Option (ClientState S))) (reports : List ClientReport)
      → ((place : ℕ) → place < last → AreMarksPlain (client_or_new (client_at clients place)).conn.marks)
      → AreReported last clients reports → AreAllPlain reports
  plain-reported zero clients reports plain h = subst AreAllPlain (sym h) tt
  plain-reported (suc last) clients reports plain h =
      one-plain (suc last) (client_at clients last) h.0 reports (plain last (omega arith))
      (plain-reported last clients h.0 (λ place inside. plain place (omega (arith, inside))) h.1) h.2
