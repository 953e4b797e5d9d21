-- what a whole replay leaves: by which reference a wire is lent, and where all targets tell what they answer, the breaches
use Rattle.std.proofs.Common.{◌≡◌, ◌≢◌, ◌∙◌, ◌<◌, ◌≤◌, ℕ, Bool, true, List, [], Option, None, Some, Result, Ok, Err, refl, sym, ap, subst, arith}
use Rattle.std.specs.List.{AllByRecursion}
use Rattle.std.specs.Prelude.{IfOk, OnOk}
use Rattle.z_types.specs.Bounds.{within64}
use Rattle.z_types.specs.declared.marks.End.{End as Ending}
use Rattle.z_types.specs.declared.sitting.Sitting as sitting
use Rattle.z_types.specs.declared.world.World as world
use Rattle.gw_outside.specs.Counts.{Counts}
use Rattle.z_client.specs.Counts.{counts_over}
use Rattle.z_client.specs.declared.own.Own.{Own}
use Rattle.pool_core.specs.PoolView.{PoolView, counts_of, new_pool}
use Rattle.route_config.specs.Sound.{ArePoolNumbers}
use Rattle.route_config.specs.declared.route.Route.{Route}
use Rattle.front_conn_costs.specs.steps.Growth.{last64}
use Rattle.pool_sets.specs.Counts.{DoorCounts}
use Rattle.pool_sets.specs.Plain.{Pool}
use Rattle.package_quiet.specs.leg.Deeds.{BackendView}
use Rattle.package_quiet.specs.leg.LegView.{LegView}
use Rattle.package_quiet.proofs.PackageLemmas.{leg-told}
use Rattle.package_quiet.specs.leg.Terms.{Terms, sites, terms_of}
use Rattle.package_quiet.specs.leg.Turns.{DoorView}
use Rattle.package_quiet.specs.leg.declared.answers.Turned.{Turned}
use Rattle.package_quiet.specs.leg.declared.answers.Turned.TheVariants as turned
use Rattle.package_quiet.specs.package_rules.Asked.{Asked}
use Rattle.package_quiet.specs.package.steps.Packages.{PackageView, begun}
use Rattle.package_quiet.specs.package.steps.Turns.{HadTurn, IsPackageTurn}
use Rattle.front_conn_costs.specs.front_conn.steps.Answering.{Outside}
use Rattle.front_conn_costs.specs.front_conn.steps.Feeding.{fed_piece}
use Rattle.front_conn_costs.specs.front_conn.steps.States.{ConnectionState}
use Rattle.script.specs.declared.event.Event.{Event}
use Rattle.script.specs.declared.event.Event.TheVariants.{Feed, End, Step, Run, Tick, Gone, Cut, Slow}
use Rattle.replay.specs.Trace.{BefallsIf, Happens, IsBefallen, IsRunOf, test_number}
use Rattle.replay.specs.Counts.{AreDialled, AreSums, HaveCauses}
use Rattle.replay.specs.Wires.{AreTold, IsCountedBy}
use Rattle.replay.specs.declared.reports.Report.{Report}
use Rattle.replay.proofs.FullLemmas.{IsFullKept, IsToldFull, turn_full}
use Rattle.replay.proofs.MarkLemmas.{run-marks}
use Rattle.replay.proofs.RunKeeps.{any-may, most_of, run-most, whole-keeps}
use Rattle.replay.proofs.SitsLemmas.{SitsAt}
use Rattle.replay.proofs.TurnKeeps.{AreKept, LegsKept, package-keeps, step-keeps}
use Rattle.replay.proofs.WireLemmas.{causes_over, full_over, over_breaches, sums_over}
use Rattle.replay.proofs.TurnMoves.{turn-breaches, turn-lent, turn-sits}

-- ---- what befalls links

happens-lent : (exact : Bool) (event : Event) (number : ℕ) (old new : BackendView) → Happens exact event number old new
    → new.happened.lent ≡ old.happened.lent
happens-lent exact (Gone target presents) number old new h = h.lent
happens-lent exact (Cut target) number old new h = h.made.lent
happens-lent exact (Slow target looks) number old new h = h.lent
happens-lent exact (Feed client octets) number old new h = absurd h
happens-lent exact (End client) number old new h = absurd h
happens-lent exact (Step client) number old new h = absurd h
happens-lent exact (Run client) number old new h = absurd h
happens-lent exact (Tick seconds) number old new h = absurd h

-- the breaches that were counted, and by which reference the wire is lent
abbrev StaysSo : BackendView → BackendView → Type 0
StaysSo old new = (new.counts.breaches ≡ old.counts.breaches) × (new.happened.lent ≡ old.happened.lent)

same-so : (old new : BackendView) → new ≡ old → StaysSo old new
same-so old new e = (ap (λ (b : BackendView). b.counts.breaches) e, ap (λ (b : BackendView). b.happened.lent) e)

if-so : (exact : Bool) (event : Event) (number : Option ℕ) (old new : BackendView) → BefallsIf exact event number old new → StaysSo old new
if-so exact event None old new h = same-so old new h
if-so exact event (Some number) old new h = (ap (λ c. c.breaches) h.counts, happens-lent exact event number old new h.happens)

befallen-so : (exact : Bool) (route : Route) (event : Event) (old new : BackendView) → IsBefallen exact route event old new → StaysSo old new
befallen-so exact route (Gone target presents) old new h = if-so exact (Gone target presents) (test_number route target) old new h
befallen-so exact route (Cut target) old new h = if-so exact (Cut target) (test_number route target) old new h
befallen-so exact route (Slow target looks) old new h = if-so exact (Slow target looks) (test_number route target) old new h
befallen-so exact route (Feed client octets) old new h = same-so old new h
befallen-so exact route (End client) old new h = same-so old new h
befallen-so exact route (Step client) old new h = same-so old new h
befallen-so exact route (Run client) old new h = same-so old new h
befallen-so exact route (Tick seconds) old new h = same-so old new h

-- ---- a whole replay

piece-work : {S : Type 0} (end : Option Ending) (state : ConnectionState S) (piece : List ℕ) → (fed_piece end state piece).in_work ≡ state.in_work
piece-work None state piece = refl
piece-work (Some end) state piece = refl

module _ {W S : Type 0} (w : world.Ghosts W) (t : sitting.Ghosts S W) (exact : Bool) (route : Route) where
  -- what the legs of a request keep over a turn of them all that had memory, and what it leaves of what is outside, a whole replay does
  module _ (P : LegView S → Type 0) (J : DoorView S → BackendView → Type 0) (R : (door after : DoorView S) → (backend moved : BackendView) → Type 0)
      (A : Event → Type 0) (closes : (client : ℕ) → A (End client) × A (Run client))
      (same : (door : DoorView S) (backend : BackendView) → J door backend → R door door backend backend)
      (then : (door after : DoorView S) (backend moved : BackendView) → R door after backend moved → J after moved)
      (next : (door mid after : DoorView S) (backend amid moved : BackendView) → R door mid backend amid → R mid after amid moved
      → R door after backend moved)
      (fresh : (asked : Asked) → P (begun asked))
      (turns : (now : ℕ) (old new : PackageView S) (answer : Turned) (door after : DoorView S) (backend moved : BackendView)
      → answer ≢ turned.Memory → AreKept P old → J door backend
      → IsPackageTurn w t exact route now old new answer door after backend moved → AreKept P new × R door after backend moved)
      (befallen : (event : Event) (door : DoorView S) (old new : BackendView) → A event → J door old → IsBefallen exact route event old new
      → R door door old new) where
    pub packages-whole : (events : List Event) (before behind : Outside S) (report : Report) → AllByRecursion A events
        → J before.door before.backend → IsRunOf w t exact route events before behind report
        → R before.door behind.door before.backend behind.backend
    packages-whole events before behind report may j h =
        (whole-keeps w t exact route (most_of before) (λ (c : ConnectionState S). LegsKept P c.in_work) (λ (here : Outside S). J here.door here.backend)
        (λ (one other : Outside S). R one.door other.door one.backend other.backend) A closes
        (λ here k. same here.door here.backend k)
        (λ one other f. then one.door other.door one.backend other.backend f)
        (λ one mid other f g. next one.door mid.door other.door one.backend mid.backend other.backend f g) tt
        (λ state piece k. subst (λ (v : Option (PackageView S)). LegsKept P v) (sym (piece-work state.end state piece)) k)
        (λ state k. k) (λ state k. k)
        (λ now old new answer one other had m k i g. step-keeps w t exact route P J R same fresh turns now old new answer one other had k i g)
        (λ event one other is i d g. subst (λ (door : DoorView S). R one.door door one.backend other.backend) (sym d)
        (befallen event one.door one.backend other.backend is i g))
        events before behind report may refl j h).moves

  -- what each turn of a leg keeps, and leaves of what is outside, a whole replay does
  module _ (P : LegView S → Type 0) (R : (door after : DoorView S) → (backend moved : BackendView) → Type 0)
      (same : (door : DoorView S) (backend : BackendView) → R door door backend backend)
      (next : (door mid after : DoorView S) (backend amid moved : BackendView) → R door mid backend amid → R mid after amid moved
      → R door after backend moved)
      (fresh : (asked : Asked) → P (begun asked))
      (turn : (now : ℕ) (old new : LegView S) (answer : Turned) (door after : DoorView S) (backend moved : BackendView) → P old
      → HadTurn w t exact route now old new answer door after backend moved → P new × R door after backend moved)
      (befallen : (event : Event) (door : DoorView S) (old new : BackendView) → IsBefallen exact route event old new → R door door old new) where
    legs-move : (events : List Event) (before behind : Outside S) (report : Report) → IsRunOf w t exact route events before behind report
        → R before.door behind.door before.backend behind.backend
    legs-move events before behind report h =
        packages-whole P (λ door backend. Unit {0}) R (λ event. Unit {0}) (λ client. (tt, tt)) (λ door backend j. same door backend)
        (λ door after backend moved f. tt) next fresh
        (λ now old new answer door after backend moved had are i g.
        package-keeps w t exact route P (λ door backend. Unit {0}) R (λ door backend j. same door backend) (λ door after backend moved f. tt) next fresh
        (λ now old new answer door after backend moved p j g. turn now old new answer door after backend moved p g)
        now old new answer door after backend moved are i g)
        (λ event door old new may j g. befallen event door old new g) events before behind report (any-may events) tt h

  -- the reference by which a wire is lent
  pub run-lent : (events : List Event) (before behind : Outside S) (report : Report) → IsRunOf w t exact route events before behind report
      → behind.backend.happened.lent ≡ before.backend.happened.lent
  run-lent events before behind report h =
      legs-move (λ leg. Unit {0}) (λ door after backend moved. moved.happened.lent ≡ backend.happened.lent) (λ door backend. refl)
      (λ door mid after backend amid moved f g. g ∙ f) (λ asked. tt)
      (λ now old new answer door after backend moved is g.
      (tt, turn-lent w t exact (terms_of route old.login old.leg) old.task now old.phase new.phase old.account new.account answer door after backend moved g.law))
      (λ event door old new g. (befallen-so exact route event old new g).1) events before behind report h

  -- the breaches, where each target tells what it answers
  pub run-breaches : AreTold w route → (events : List Event) (before behind : Outside S) (report : Report)
      → IsRunOf w t exact route events before behind report → behind.backend.counts.breaches ≡ before.backend.counts.breaches
  run-breaches told events before behind report h =
      legs-move (λ leg. SitsAt w t (sites (terms_of route leg.login leg.leg)) leg.phase) (λ door after backend moved. moved.counts.breaches ≡ backend.counts.breaches)
      (λ door backend. refl) (λ door mid after backend amid moved f g. g ∙ f) (λ asked. tt)
      (λ now old new answer door after backend moved is g. (
        subst (λ (terms : Terms). SitsAt w t (sites terms) new.phase) (λ i. terms_of route (sym g.login i) (sym g.leg i))
            (turn-sits w t exact (terms_of route old.login old.leg) old.task now old.phase new.phase old.account new.account answer door after backend moved g.law is),
        turn-breaches w t exact (terms_of route old.login old.leg) old.task now old.phase new.phase old.account new.account answer door after backend moved g.law is
            (leg-told w route old.login old.leg told),
      ))
      (λ event door old new g. (befallen-so exact route event old new g).0) events before behind report h

  -- what a pool that tells its sessions keeps
  pub run-full : (events : List Event) (before behind : Outside S) (report : Report) → IsRunOf w t exact route events before behind report
      → IsToldFull before.door.pool before.door.counts → IsToldFull behind.door.pool behind.door.counts
  run-full events before behind report h =
      legs-move (λ leg. Unit {0}) (λ door after backend moved. IsToldFull door.pool door.counts → IsToldFull after.pool after.counts)
      (λ door backend kept. kept) (λ door mid after backend amid moved f g kept. g (f kept)) (λ asked. tt)
      (λ now old new answer door after backend moved is g.
      (tt, turn_full w t exact (terms_of route old.login old.leg) old.task now old.phase new.phase old.account new.account answer door after backend moved g.law))
      (λ event door old new g kept. kept) events before behind report h

-- a pool that is told, where it was full
told_opens : {S : Type 0} (pool : Option (Pool S)) (counts : DoorCounts) → IsToldFull pool counts → 1 ≤ counts.fulls
    → within64 counts.most ≤ counts.opens
told_opens None counts h is = absurd h
told_opens (Some p) counts h is = h.full is

-- ---- where there is a report

pub lent_ok : {E : Type 0} (W S : Type 0) (w : world.Ghosts W) (t : sitting.Ghosts S W) (exact : Bool) (route : Route) (events : List Event)
    (before behind : Outside S) (result : Result Report E) → IfOk result (IsRunOf w t exact route events before behind)
    → OnOk result (behind.backend.happened.lent ≡ before.backend.happened.lent)
lent_ok W S w t exact route events before behind (Ok report) run = run-lent w t exact route events before behind report run
lent_ok W S w t exact route events before behind (Err err) run = tt

-- a pool that is told, and has no session
abbrev pub HasNoSession : {S : Type 0} → Option (Pool S) → Type 0
HasNoSession None = ⊥
HasNoSession (Some pool) = pool.sessions ≡ []

-- a new pool: it opens as many sessions of a class as the route says, which is a number of 32 bits; it has none, and has counted nothing
pub record IsNewPool {S : Type 0} (route : Route) (before : Outside S) : Type 0 where
  pub none : HasNoSession before.door.pool
  pub most : most_of before ≡ route.pool.max_sessions
  pub few : route.pool.max_sessions < last64
  pub told : IsToldFull before.door.pool before.door.counts
  pub fulls : before.door.counts.fulls ≡ 0
  pub opens : before.door.counts.opens ≡ 0

-- such is a pool that was just made
pub new_pool_is : {S : Type 0} (route : Route) (pool : PoolView S) (backend : BackendView) → pool ≡ new_pool route.pool → ArePoolNumbers route.pool
    → IsNewPool route (record { door = record { pool = Some pool.pool; counts = counts_of pool }; backend = backend })
new_pool_is {S = S} route pool backend e numbers = record {
  none = ap (λ (p : PoolView S). p.pool.sessions) e;
  most = ap (λ (p : PoolView S). p.pool.max_sessions) e;
  few = (let most = numbers.max_sessions in omega (arith, most));
  told = subst (λ (p : PoolView S). IsFullKept p.pool (counts_of p)) (sym e)
      (record { most = refl; few = omega arith; full = λ is. absurd (omega (arith, is)) });
  fulls = ap (λ (p : PoolView S). p.fulls) e;
  opens = ap (λ (p : PoolView S). p.opens) e;
}

module _ {W S : Type 0} (w : world.Ghosts W) (t : sitting.Ghosts S W) (exact : Bool) (route : Route) (events : List Event)
    (before behind : Outside S) (report : Report) (run : IsRunOf w t exact route events before behind report) (new : IsNewPool route before) where
  -- the door opens as many behind it
  most-behind : most_of behind ≡ route.pool.max_sessions
  most-behind = run-most w t exact route (most_of before) events before behind report refl run ∙ new.most

  full-opens : 1 ≤ behind.door.counts.fulls → route.pool.max_sessions ≤ behind.door.counts.opens
  full-opens is =
      let opened : within64 (most_of behind) ≤ behind.door.counts.opens =
      told_opens behind.door.pool behind.door.counts (run-full w t exact route events before behind report run new.told) is in
      let few = new.few in
      omega (arith, opened, few, most-behind)

  -- a wire whose backend had counted no breach before
  pub counted_run : (w0 w1 : Counts) (own0 own1 : Own) → own0.breaches ≡ 0
      → before.backend.counts ≡ counts_over exact w0 own0 → behind.backend.counts ≡ counts_over exact w1 own1
      → AreSums exact report before behind → HaveCauses route.pool report before behind → AreDialled before behind
      → IsCountedBy w exact route w0 w1 report
  counted_run w0 w1 own0 own1 none e f sums causes dialled =
      let to_true : (is : exact ≡ true) → AreSums true report before behind = λ is. subst (λ (b : Bool). AreSums b report before behind) is sums in
      let first : (is : exact ≡ true) → before.backend.counts ≡ counts_over true w0 own0 = λ is. e ∙ ap (λ (b : Bool). counts_over b w0 own0) is in
      let last : (is : exact ≡ true) → behind.backend.counts ≡ counts_over true w1 own1 = λ is. f ∙ ap (λ (b : Bool). counts_over b w1 own1) is in
      record {
        breaches = own1.breaches;
        told = λ is.
            sym (over_breaches exact w1 own1) ∙ sym (ap (λ (c : Counts). c.breaches) f)
            ∙ run-breaches w t exact route is events before behind report run
            ∙ ap (λ (c : Counts). c.breaches) e ∙ over_breaches exact w0 own0 ∙ none;
        sums = λ is. sums_over w0 w1 own0 own1 before behind none report (first is) (last is) (to_true is);
        causes = causes_over w0 w1 own0 own1 before behind none exact route report e f causes;
        fulls = λ is.
            full_over w0 w1 own0 own1 before behind none route.pool report route.pool.max_sessions (last is) full-opens new.few new.fulls new.opens
            (to_true is) causes dialled;
        marks = run-marks w t exact route route.pool.max_sessions events before behind report new.most run;
      }

pub counted_ok : {E : Type 0} (W S : Type 0) (w : world.Ghosts W) (t : sitting.Ghosts S W) (exact : Bool) (route : Route) (events : List Event)
    (before behind : Outside S) (result : Result Report E) → IfOk result (IsRunOf w t exact route events before behind) → IsNewPool route before
    → (w0 w1 : Counts) (own0 own1 : Own) → own0.breaches ≡ 0
    → before.backend.counts ≡ counts_over exact w0 own0 → behind.backend.counts ≡ counts_over exact w1 own1
    → IfOk result (λ report. AreSums exact report before behind) → IfOk result (λ report. HaveCauses route.pool report before behind)
    → IfOk result (λ report. AreDialled before behind) → IfOk result (IsCountedBy w exact route w0 w1)
counted_ok W S w t exact route events before behind (Ok report) run new w0 w1 own0 own1 none e f sums causes dialled =
    counted_run w t exact route events before behind report run new w0 w1 own0 own1 none e f sums causes dialled
counted_ok W S w t exact route events before behind (Err err) run new w0 w1 own0 own1 none e f sums causes dialled = tt
