-- what the sums of a page leave of marks
use Rattle.std.proofs.Common.{◌≡◌, ◌<◌, ◌≤◌, ◌+◌, ◌*◌, ℕ, zero, suc, true, inl, inr, List, [], ◌∷◌, cond, refl, arith}
use Rattle.std.proofs.Math.Nat.{mul-suc}
use Rattle.std.proofs.lemmas.Bool.{cases_lt}
use Rattle.std.proofs.lemmas.List.Sums.{sum_by-cons}
use Rattle.z_types.specs.Bounds.{within64}
use Rattle.z_types.specs.declared.marks.Mark.{Mark}
use Rattle.z_types.specs.declared.marks.Mark.TheVariants as mark
use Rattle.z_types.specs.declared.world.World as world
use Rattle.gw_outside.specs.Counts.{Counts}
use Rattle.replay.specs.gateway_rules.OneAnswer.{AreMarksPlain}
use Rattle.route_config.specs.declared.route.PoolNumbers.{PoolNumbers}
use Rattle.route_config.specs.declared.route.Route.{Route}
use Rattle.replay.specs.front_conn_costs.steps.Conns.{marks_of}
use Rattle.replay.specs.front_conn_costs.steps.Growth.{last64}
use Rattle.replay.specs.front_conn_costs.steps.Numbers.{Caused, dials, faults, full, gone, gones, is_of, link, silent, weight}
use Rattle.replay.specs.Counts.{in_classes, met_for}
use Rattle.replay.specs.Uncaused.{AreAllPlain}
use Rattle.replay.specs.Wires.{IsCountedBy, RoseAtLeast, RoseBy}
use Rattle.replay.specs.declared.reports.ClientReport.{ClientReport}
use Rattle.replay.specs.declared.reports.Report.{Report}
use Rattle.replay_laws.specs.Pages.{CountsGoOn, HasCauses, IsCalm, MarksLeft}

-- ---- numbers

-- what was met of a count is no more than what is printed of it, where it does not stand still
few-failed : (before met printed behind breaches : ℕ) → within64 (before + met) ≤ within64 (behind + breaches)
    → within64 (before + printed) ≡ within64 (behind + breaches) → before + printed < last64 → met ≤ printed
few-failed before met printed behind breaches least is goes = omega (arith, least, is, goes)

few-risen : (before met printed behind : ℕ) → RoseAtLeast met before behind → RoseBy printed before behind → before + printed < last64
    → met ≤ printed
few-risen before met printed behind least is goes =
    let low = least (omega (arith, goes)) in
    let high = is (omega (arith, goes)) in
    omega (arith, low, high, goes)

few-looks : (before met behind : ℕ) → RoseAtLeast met before behind → before ≤ behind → behind < last64 → before + met ≤ behind
few-looks before met behind least rise goes = let low = least (omega (arith, rise, goes)) in omega (arith, low, goes)

below-last : (before printed behind : ℕ) → RoseBy printed before behind → before + printed < last64 → behind < last64
below-last before printed behind is goes = let high = is (omega (arith, goes)) in omega (arith, high, goes)

failed-below : (before printed behind breaches : ℕ) → within64 (before + printed) ≡ within64 (behind + breaches) → before + printed < last64
    → behind + breaches < last64
failed-below before printed behind breaches is goes = omega (arith, is, goes)

-- ---- plain marks

-- less than the weight of one is none
none-met : (heavy n : ℕ) → heavy * n < heavy → n ≡ 0
none-met heavy zero less = refl
none-met heavy (suc n) less = let more : heavy * suc n ≡ heavy * n + heavy = mul-suc heavy n in absurd (omega (arith, more, less))

abbrev one_of : Caused → Mark → ℕ
one_of kind m = cond (is_of kind m) 1 0

first-plain : (m : Mark) → ((kind : Caused) → one_of kind m ≡ 0) → m ≡ mark.Plain
first-plain mark.Plain none = refl
first-plain mark.Link none = let one = none link in absurd cc
first-plain (mark.Silent looks) none = let one = none silent in absurd cc
first-plain mark.Gone none = let one = none gone in absurd cc
first-plain (mark.Full sessions) none = let one = none full in absurd cc

marks-plain : (marks : List Mark) → ((kind : Caused) → marks_of kind marks ≡ 0) → AreMarksPlain marks
marks-plain [] none = tt
marks-plain (m ∷ marks) none = (
  first-plain m (λ kind. let all = sum_by-cons (one_of kind) m marks in let own = none kind in omega (arith, all, own)),
  marks-plain marks (λ kind. let all = sum_by-cons (one_of kind) m marks in let own = none kind in omega (arith, all, own)),
)

clients-plain : (pool : PoolNumbers) (clients : List ClientReport) → ((kind : Caused) → met_for pool kind clients < weight pool kind)
    → AreAllPlain clients
clients-plain pool [] few = tt
clients-plain pool (client ∷ clients) few = (
  marks-plain client.marks (λ kind.
      let all = sum_by-cons (λ (c : ClientReport). weight pool kind * marks_of kind c.marks) client clients in let own = few kind in
      none-met (weight pool kind) (marks_of kind client.marks) (omega (arith, all, own))),
  clients-plain pool clients (λ kind.
      let all = sum_by-cons (λ (c : ClientReport). weight pool kind * marks_of kind c.marks) client clients in let own = few kind in
      omega (arith, all, own)),
)

-- ---- a report

module _ (pool : PoolNumbers) (before behind : Counts) (report : Report) (causes : HasCauses pool before behind report)
    (calm : IsCalm pool before behind report) where
  few-met : (kind : Caused) → met_for pool kind report.clients < weight pool kind
  few-met link = let least = causes.links in let none = calm.unfailing in omega (arith, least, none)
  few-met silent = let least = causes.silences in let few = calm.few_looks in omega (arith, least, few)
  few-met gone = let least = causes.deletions in let few = calm.few_gone in omega (arith, least, few)
  few-met full =
      elim (cases_lt (met_for pool full report.clients) 1) [
        | inl none ↦ none
        | inr some ↦
            (let much = causes.fulls some in let none = calm.unfailing in let few = calm.few_links in absurd (omega (arith, much, none, few)))
      ]

pub marks-left : {W : Type 0} (w : world.Ghosts W) (route : Route) (before behind : Counts) (report : Report)
    → IsCountedBy w true route before behind report → CountsGoOn before behind report → MarksLeft route.pool before behind report
marks-left w route before behind report counted goes =
    let sums = counted.sums refl in
    let causes : HasCauses route.pool before behind report = record {
      links = few-failed before.faults (met_for route.pool link report.clients) (in_classes faults report.classes) behind.faults counted.breaches
          counted.causes.links sums.faults goes.calls_failed;
      deletions = few-risen before.gones (met_for route.pool gone report.clients) (in_classes gones report.classes) behind.gones
          (counted.causes.gones refl) sums.gones goes.sets_gone;
      silences = few-looks before.waits (met_for route.pool silent report.clients) behind.waits counted.causes.silents goes.looks_rise
          goes.looks_in_vain;
      fulls = λ some. counted.fulls refl some
          (below-last before.dials (in_classes dials report.classes) behind.dials sums.dials goes.links_made)
          (failed-below before.faults (in_classes faults report.classes) behind.faults counted.breaches sums.faults goes.calls_failed);
    } in record {
      caused = causes;
      plain = λ calm. clients-plain route.pool report.clients (few-met route.pool before behind report causes calm);
    }
