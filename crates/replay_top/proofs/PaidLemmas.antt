-- A full pool is paid for over any wire: links by what is reported, calls that failed by what the wire counted
use Rattle.std.proofs.Common.{◌≡◌, ◌∙◌, ℕ, ◌+◌, ◌<◌, ◌≤◌, Bool, true, false, List, Option, None, Some, Result, Ok, Err, refl, sym, ap, arith}
use Rattle.std.specs.Prelude.{IfOk}
use Rattle.z_types.specs.Bounds.{within64}
use Rattle.z_types.specs.declared.sitting.Sitting as sitting
use Rattle.z_types.specs.declared.world.World as world
use Rattle.gw_outside.specs.Counts.{Counts}
use Rattle.pool_sets.specs.Counts.{DoorCounts}
use Rattle.pool_sets.specs.Plain.{Pool}
use Rattle.route_config.specs.declared.route.Route.{Route}
use Rattle.z_client.specs.Counts.{counts_over}
use Rattle.z_client.specs.declared.own.Own.{Own}
use Rattle.replay_shares.specs.front_conn.steps.Answering.{Outside}
use Rattle.replay_shares.specs.front_conn_costs.steps.Growth.{RisesAsMuch, RisesEnough, last64}
use Rattle.replay_shares.specs.front_conn_costs.steps.Numbers.{dials, full}
use Rattle.script.specs.declared.event.Event.{Event}
use Rattle.replay_shares.specs.replay.Counts.{AreDialled, AreSums, HaveCauses, in_classes, met_for}
use Rattle.replay_shares.specs.replay.Trace.{IsRunOf}
use Rattle.replay_shares.specs.replay.declared.reports.Report.{Report}
use Rattle.replay_shares.proofs.replay.FullLemmas.{IsToldFull}
use Rattle.replay_shares.proofs.replay.MovesLemmas.{IsNewPool, run-breaches, run-full}
use Rattle.replay_shares.proofs.replay.RunKeeps.{most_of, run-most}
use Rattle.replay_shares.proofs.replay.WireLemmas.{over_breaches}
use Rattle.replay_top.specs.Paid.{AreLinksBelowEnd, IsFullPaid}

-- ---- numbers

over-faults : (exact : Bool) (wire : Counts) (own : Own) → (counts_over exact wire own).faults ≡ within64 (wire.faults + own.breaches)
over-faults true wire own = refl
over-faults false wire own = refl

over-none : (exact : Bool) (wire : Counts) (own : Own) → own.breaches ≡ 0 → (counts_over exact wire own).faults ≡ within64 wire.faults
over-none exact wire own none = over-faults exact wire own ∙ ap within64 (omega (arith, none))

-- no fewer links are reported than were made at least
links-enough : (exact : Bool) (w0 w1 : Counts) (own0 own1 : Own) (before behind : Counts) (report : Report) (made : ℕ) → own0.dials ≡ 0
    → before ≡ counts_over exact w0 own0 → behind ≡ counts_over exact w1 own1 → AreLinksBelowEnd exact report w1
    → RisesAsMuch 0 (in_classes dials report.classes) before.dials behind.dials → RisesEnough 0 made before.dials behind.dials
    → made ≤ in_classes dials report.classes
links-enough true w0 w1 own0 own1 before behind report made none e f below same enough =
    let last = ap (λ (c : Counts). c.dials) f in
    let least : within64 (before.dials + made) ≤ behind.dials = enough before.dials (omega arith) in
    let just : within64 (before.dials + in_classes dials report.classes) ≡ behind.dials =
    same before.dials (omega (arith, last, below, least)) in
    omega (arith, last, below, least, just)
links-enough false w0 w1 own0 own1 before behind report made none e f below same enough =
    let first = ap (λ (c : Counts). c.dials) e in
    let least : within64 (0 + made) ≤ behind.dials = enough 0 (omega arith) in
    let just : within64 (0 + in_classes dials report.classes) ≡ behind.dials = same 0 (omega (arith, first, none)) in
    omega (arith, below, least, just)

-- so many calls failed at least, with the breaches, none at first
faults-enough : (failed first last breaches before behind : ℕ) → before ≡ within64 first → behind ≡ within64 (last + breaches)
    → last + breaches < last64 → RisesEnough 0 failed before behind → first + failed ≤ last + breaches
faults-enough failed first last breaches before behind e f below enough =
    let least : within64 (before + failed) ≤ behind = enough before (omega arith) in omega (arith, e, f, below, least)

told-opens : {S : Type 0} (pool : Option (Pool S)) (counts : DoorCounts) → IsToldFull pool counts → 1 ≤ counts.fulls
    → within64 counts.most ≤ counts.opens
told-opens None counts h is = absurd h
told-opens (Some p) counts h is = h.full is

-- ---- a replay

module _ {W S : Type 0} (w : world.Ghosts W) (t : sitting.Ghosts S W) (exact : Bool) (route : Route) (events : List Event)
    (before behind : Outside S) (report : Report) (run : IsRunOf w t exact route events before behind report) (new : IsNewPool route before) where
  -- the door named as many addresses as there may be sessions of a class
  full-opens : 1 ≤ behind.door.counts.fulls → route.pool.max_sessions ≤ behind.door.counts.opens
  full-opens is =
      let opened : within64 (most_of behind) ≤ behind.door.counts.opens =
      told-opens behind.door.pool behind.door.counts (run-full w t exact route events before behind report run new.told) is in
      let most : most_of behind ≡ route.pool.max_sessions =
      run-most w t exact route (most_of before) events before behind report refl run ∙ new.most in
      let few = new.few in
      omega (arith, opened, few, most)

  paid-run : (w0 w1 : Counts) (own0 own1 : Own) → own0.breaches ≡ 0 → own0.dials ≡ 0
      → before.backend.counts ≡ counts_over exact w0 own0 → behind.backend.counts ≡ counts_over exact w1 own1
      → AreSums exact report before behind → HaveCauses route.pool report before behind → AreDialled before behind
      → IsFullPaid w exact route w0 w1 report
  paid-run w0 w1 own0 own1 none no_dials e f sums causes dialled = record {
    breaches = own1.breaches;
    told = λ is.
        sym (over_breaches exact w1 own1) ∙ sym (ap (λ (c : Counts). c.breaches) f)
        ∙ run-breaches w t exact route is events before behind report run
        ∙ ap (λ (c : Counts). c.breaches) e ∙ over_breaches exact w0 own0 ∙ none;
    paid = λ some links_below faults_below. (
        let no_fulls = new.fulls in
        let no_opens = new.opens in
        let met : within64 (0 + met_for route.pool full report.clients) ≤ behind.door.counts.fulls =
        causes full 0 (omega (arith, no_fulls)) in
        let opened : route.pool.max_sessions ≤ behind.door.counts.opens = full-opens (omega (arith, met, some)) in
        let named : within64 (0 + dialled.opens) ≡ behind.door.counts.opens = dialled.named 0 (omega (arith, no_opens)) in
        let links = links-enough exact w0 w1 own0 own1 before.backend.counts behind.backend.counts report dialled.dials no_dials e f links_below
        (sums dials tt) dialled.made in
        let first : before.backend.counts.faults ≡ within64 w0.faults = ap (λ (c : Counts). c.faults) e ∙ over-none exact w0 own0 none in
        let failed = faults-enough dialled.faults w0.faults w1.faults own1.breaches before.backend.counts.faults behind.backend.counts.faults
        first (ap (λ (c : Counts). c.faults) f ∙ over-faults exact w1 own1) faults_below dialled.failed in
        let paid = dialled.paid in
        let few = new.few in
        omega (arith, opened, named, links, failed, paid, few)
        );
  }

pub paid_ok : {E : Type 0} (W S : Type 0) (w : world.Ghosts W) (t : sitting.Ghosts S W) (exact : Bool) (route : Route) (events : List Event)
    (before behind : Outside S) (result : Result Report E) → IfOk result (IsRunOf w t exact route events before behind) → IsNewPool route before
    → (w0 w1 : Counts) (own0 own1 : Own) → own0.breaches ≡ 0 → own0.dials ≡ 0
    → before.backend.counts ≡ counts_over exact w0 own0 → behind.backend.counts ≡ counts_over exact w1 own1
    → IfOk result (λ report. AreSums exact report before behind) → IfOk result (λ report. HaveCauses route.pool report before behind)
    → IfOk result (λ report. AreDialled before behind) → IfOk result (IsFullPaid w exact route w0 w1)
paid_ok W S w t exact route events before behind (Ok report) run new w0 w1 own0 own1 none no_dials e f sums causes dialled =
    paid-run w t exact route events before behind report run new w0 w1 own0 own1 none no_dials e f sums causes dialled
paid_ok W S w t exact route events before behind (Err err) run new w0 w1 own0 own1 none no_dials e f sums causes dialled = tt
