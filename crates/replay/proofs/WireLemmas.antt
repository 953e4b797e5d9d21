-- what a backend over a wire counts, its wire counted, with the breaches
use Rattle.std.proofs.Common.{◌≡◌, ◌∙◌, ℕ, ◌+◌, ◌<◌, ◌≤◌, Bool, true, false, refl, sym, ap, subst, arith}
use Rattle.z_types.specs.Bounds.{within64}
use Rattle.gw_outside.specs.Counts.{Counts}
use Rattle.route_config.specs.declared.route.PoolNumbers.{PoolNumbers}
use Rattle.route_config.specs.declared.route.Route.{Route}
use Rattle.z_client.specs.Counts.{counts_over}
use Rattle.z_client.specs.declared.own.Own.{Own}
use Rattle.front_conn_costs.specs.front_conn.steps.Answering.{Outside}
use Rattle.front_conn_costs.specs.steps.Growth.{RisesAsMuch, RisesEnough, last64}
use Rattle.front_conn_costs.specs.steps.Numbers.{dials, faults, full, gone, gones, link, searches, silent}
use Rattle.replay.specs.Counts.{AreDialled, AreSums, HaveCauses, in_classes, met_for}
use Rattle.replay.specs.Wires.{AreWireSums, HaveWireCauses, RoseAtLeast, RoseBy}
use Rattle.replay.specs.declared.reports.Report.{Report}

-- ---- numbers

rose_by : (n before behind : ℕ) → RisesAsMuch 0 n before behind → RoseBy n before behind
rose_by n before behind h = λ few. sym (h before (omega (arith, few)))

rose_enough : (n before behind : ℕ) → RisesEnough 0 n before behind → RoseAtLeast n before behind
rose_enough n before behind h = λ few. h before (omega arith)

-- of faults that are counted with breaches, none at first
with_breaches : (n first last breaches before behind : ℕ) → before ≡ within64 first → behind ≡ within64 (last + breaches)
    → RisesAsMuch 0 n before behind → within64 (first + n) ≡ within64 (last + breaches)
with_breaches n first last breaches before behind e f h =
    let one : within64 (first + n) ≡ behind = h first (omega (arith, e)) in one ∙ f

enough_breaches : (n first last breaches before behind : ℕ) → before ≡ within64 first → behind ≡ within64 (last + breaches)
    → RisesEnough 0 n before behind → within64 (first + n) ≤ within64 (last + breaches)
enough_breaches n first last breaches before behind e f h =
    let one : within64 (first + n) ≤ behind = h first (omega (arith, e)) in omega (arith, one, f)

-- what is counted just as much is as much as what is counted at least
printed_enough : (printed cost before behind : ℕ) → behind < last64 → RisesAsMuch 0 printed before behind → RisesEnough 0 cost before behind
    → cost ≤ printed
printed_enough printed cost before behind below same enough =
    let least : within64 (before + cost) ≤ behind = enough before (omega arith) in
    let just : within64 (before + printed) ≡ behind = same before (omega (arith, below, least)) in
    omega (arith, below, least, just)

-- ---- what a backend counts

over_faults : (exact : Bool) (wire : Counts) (own : Own) → (counts_over exact wire own).faults ≡ within64 (wire.faults + own.breaches)
over_faults true wire own = refl
over_faults false wire own = refl

over_none : (exact : Bool) (wire : Counts) (own : Own) → own.breaches ≡ 0 → (counts_over exact wire own).faults ≡ within64 wire.faults
over_none exact wire own none = over_faults exact wire own ∙ ap within64 (omega (arith, none))

pub over_breaches : (exact : Bool) (wire : Counts) (own : Own) → (counts_over exact wire own).breaches ≡ own.breaches
over_breaches true wire own = refl
over_breaches false wire own = refl

over_waits : (exact : Bool) (wire : Counts) (own : Own) → (counts_over exact wire own).waits ≡ wire.waits
over_waits true wire own = refl
over_waits false wire own = refl

module _ {S : Type 0} (w0 w1 : Counts) (own0 own1 : Own) (before behind : Outside S) (none : own0.breaches ≡ 0) where
  pub sums_over : (report : Report) → before.backend.counts ≡ counts_over true w0 own0 → behind.backend.counts ≡ counts_over true w1 own1
      → AreSums true report before behind → AreWireSums report own1.breaches w0 w1
  sums_over report e f h = record {
    dials = rose_by (in_classes dials report.classes) w0.dials w1.dials
        (subst (λ (n : ℕ). RisesAsMuch 0 (in_classes dials report.classes) n w1.dials) (ap (λ (c : Counts). c.dials) e)
        (subst (λ (n : ℕ). RisesAsMuch 0 (in_classes dials report.classes) before.backend.counts.dials n) (ap (λ (c : Counts). c.dials) f) (h dials tt)));
    searches = rose_by (in_classes searches report.classes) w0.searches w1.searches
        (subst (λ (n : ℕ). RisesAsMuch 0 (in_classes searches report.classes) n w1.searches) (ap (λ (c : Counts). c.searches) e)
        (subst (λ (n : ℕ). RisesAsMuch 0 (in_classes searches report.classes) before.backend.counts.searches n) (ap (λ (c : Counts). c.searches) f) (h searches tt)));
    gones = rose_by (in_classes gones report.classes) w0.gones w1.gones
        (subst (λ (n : ℕ). RisesAsMuch 0 (in_classes gones report.classes) n w1.gones) (ap (λ (c : Counts). c.gones) e)
        (subst (λ (n : ℕ). RisesAsMuch 0 (in_classes gones report.classes) before.backend.counts.gones n) (ap (λ (c : Counts). c.gones) f) (h gones tt)));
    faults = with_breaches (in_classes faults report.classes) w0.faults w1.faults own1.breaches before.backend.counts.faults behind.backend.counts.faults
        (ap (λ (c : Counts). c.faults) e ∙ over_none true w0 own0 none) (ap (λ (c : Counts). c.faults) f) (h faults refl);
  }

  pub causes_over : (exact : Bool) (route : Route) (report : Report)
      → before.backend.counts ≡ counts_over exact w0 own0 → behind.backend.counts ≡ counts_over exact w1 own1
      → HaveCauses route.pool report before behind → HaveWireCauses exact route.pool report own1.breaches w0 w1
  causes_over exact route report e f causes = record {
    links = enough_breaches (met_for route.pool link report.clients) w0.faults w1.faults own1.breaches before.backend.counts.faults
        behind.backend.counts.faults (ap (λ (c : Counts). c.faults) e ∙ over_none exact w0 own0 none)
        (ap (λ (c : Counts). c.faults) f ∙ over_faults exact w1 own1) (causes link);
    silents = rose_enough (met_for route.pool silent report.clients) w0.waits w1.waits
        (subst (λ (n : ℕ). RisesEnough 0 (met_for route.pool silent report.clients) n w1.waits)
        (ap (λ (c : Counts). c.waits) e ∙ over_waits exact w0 own0)
        (subst (λ (n : ℕ). RisesEnough 0 (met_for route.pool silent report.clients) before.backend.counts.waits n)
        (ap (λ (c : Counts). c.waits) f ∙ over_waits exact w1 own1) (causes silent)));
    gones = λ is.
        rose_enough (met_for route.pool gone report.clients) w0.gones w1.gones
        (subst (λ (n : ℕ). RisesEnough 0 (met_for route.pool gone report.clients) n w1.gones)
        (ap (λ (c : Counts). c.gones) (e ∙ ap (λ (b : Bool). counts_over b w0 own0) is))
        (subst (λ (n : ℕ). RisesEnough 0 (met_for route.pool gone report.clients) before.backend.counts.gones n)
        (ap (λ (c : Counts). c.gones) (f ∙ ap (λ (b : Bool). counts_over b w1 own1) is)) (causes gone)));
  }

  -- what a full pool comes of
  pub full_over : (pool : PoolNumbers) (report : Report) (n : ℕ) → behind.backend.counts ≡ counts_over true w1 own1
      → (1 ≤ behind.door.counts.fulls → n ≤ behind.door.counts.opens) → n < last64
      → before.door.counts.fulls ≡ 0 → before.door.counts.opens ≡ 0
      → AreSums true report before behind → HaveCauses pool report before behind → AreDialled before behind
      → 1 ≤ met_for pool full report.clients → w1.dials < last64 → w1.faults + own1.breaches < last64
      → n ≤ in_classes dials report.classes + in_classes faults report.classes
  full_over pool report n f kept few no_fulls no_opens sums causes dialled some dials_below faults_below =
      let met : within64 (0 + met_for pool full report.clients) ≤ behind.door.counts.fulls = causes full 0 (omega (arith, no_fulls)) in
      let opened : n ≤ behind.door.counts.opens = kept (omega (arith, met, some)) in
      let named : within64 (0 + dialled.opens) ≡ behind.door.counts.opens = dialled.named 0 (omega (arith, no_opens)) in
      let made = printed_enough (in_classes dials report.classes) dialled.dials before.backend.counts.dials behind.backend.counts.dials
      (subst (λ (m : ℕ). m < last64) (sym (ap (λ (c : Counts). c.dials) f)) dials_below) (sums dials tt) dialled.made in
      let failed = printed_enough (in_classes faults report.classes) dialled.faults before.backend.counts.faults behind.backend.counts.faults
      (subst (λ (m : ℕ). m < last64) (sym (ap (λ (c : Counts). c.faults) f)) (omega (arith, faults_below))) (sums faults refl) dialled.failed in
      let paid = dialled.paid in
      omega (arith, opened, named, made, failed, paid, few)
