-- where nothing befalls the links of a replay, no cause is counted but a full pool
use Rattle.std.proofs.Common.{◌≡◌, ◌≢◌, ◌∙◌, ◌<◌, ◌≤◌, ◌+◌, ◌*◌, ◌++◌, ℕ, Bool, true, false, List, [], ◌∷◌, length, Option, None, Some, Result, Ok, Err, inl, inr, refl, sym, ap, subst, arith}
use Rattle.std.specs.List.{AllByRecursion}
use Rattle.std.specs.Prelude.{IfOk, OnOk}
use Rattle.std.proofs.lemmas.Bool.{cases_lt}
use Rattle.std.proofs.lemmas.List.Sums.{sum_by-cons}
use Rattle.z_types.specs.Bounds.{within64}
use Rattle.z_types.specs.declared.marks.Mark.{Mark}
use Rattle.z_types.specs.declared.marks.Mark.TheVariants as mark
use Rattle.z_types.specs.declared.sitting.Sitting as sitting
use Rattle.z_types.specs.declared.world.World as world
use Rattle.front_conn_costs.proofs.gateway_rules.Runs.{all-append}
use Rattle.gw_outside.specs.Counts.{Counts, no_counts}
use Rattle.pool_sets.specs.Counts.{DoorCounts}
use Rattle.pool_sets.specs.Plain.{Pool}
use Rattle.route_config.specs.Sound.{ArePoolNumbers}
use Rattle.route_config.specs.declared.route.PoolNumbers.{PoolNumbers}
use Rattle.route_config.specs.declared.route.Route.{Route}
use Rattle.z_client.specs.Counts.{counts_over}
use Rattle.z_client.specs.declared.own.Own.{Own}
use Rattle.package_quiet.specs.leg.Deeds.{BackendView}
use Rattle.package_quiet.specs.leg.LegView.{LegView}
use Rattle.package_quiet.specs.leg.Turns.{DoorView}
use Rattle.package_quiet.specs.leg.declared.answers.Turned.{Turned}
use Rattle.package_quiet.specs.leg.declared.answers.Turned.TheVariants as turned
use Rattle.package_quiet.specs.package.steps.Packages.{PackageView}
use Rattle.package_quiet.specs.package.steps.Turns.{IsPackageTurn}
use Rattle.front_conn_costs.specs.front_conn.steps.Answering.{Outside}
use Rattle.front_conn_costs.specs.steps.Conns.{marks_of}
use Rattle.front_conn_costs.specs.steps.Growth.{RisesAsMuch, last64}
use Rattle.front_conn_costs.specs.steps.Numbers.{Caused, dials, faults, full, gone, gones, link, silent, weight}
use Rattle.package_quiet.specs.steps.Laws.{PackagesGoWell}
use Rattle.package_quiet.specs.steps.Quiet.{IsCalm, IsWellLeg, WentWell}
use Rattle.package_quiet.specs.steps.Whole.{IsWholePool, IsWholeSession}
use Rattle.pool_sets.specs.Sessions.{Session}
use Rattle.script.specs.declared.event.Event.{Event}
use Rattle.script.specs.declared.event.Event.TheVariants.{Feed, End, Step, Run, Tick, Gone, Cut, Slow}
use Rattle.replay.specs.Counts.{AreDialled, AreSums, HaveCauses, in_classes, met_for}
use Rattle.replay.specs.Places.{most_at_once}
use Rattle.replay.specs.Trace.{IsBefallen, IsRunOf}
use Rattle.replay.specs.Undisturbed.{BefallsNothing, IsPlainOrFull, IsUntroubled, IsUntroubledIf}
use Rattle.replay.specs.Wires.{AreTold, IsCountedBy}
use Rattle.replay.specs.declared.reports.ClientReport.{ClientReport}
use Rattle.replay.specs.declared.reports.Report.{Report}
use Rattle.replay.specs.steps.Quiet.{GoesWell}
use Rattle.replay.specs.steps.Room.{FindsRoom, IsEmptyPool, IsNewDoor}
use Rattle.replay.proofs.FullLemmas.{IsToldFull}
use Rattle.replay.proofs.MovesLemmas.{HasNoSession, IsNewPool, counted_run, packages-whole}
use Rattle.replay.proofs.TurnKeeps.{AreKept}
use Rattle.replay.proofs.UncausedLemmas.{clients-plain, heavy, no-marks, none-met, one_of}

-- ---- what goes on

front-all : {A : Type 0} (P : A → Type 0) (xs ys : List A) → AllByRecursion P (xs ++ ys) → AllByRecursion P xs
front-all P [] ys h = tt
front-all P (x ∷ xs) ys h = (h.0, front-all P xs ys h.1)

back-all : {A : Type 0} (P : A → Type 0) (xs ys : List A) → AllByRecursion P (xs ++ ys) → AllByRecursion P ys
back-all P [] ys h = h
back-all P (x ∷ xs) ys h = back-all P xs ys h.1

-- where an event befalls no link, what is made to happen stays
stays-so : (exact : Bool) (route : Route) (event : Event) (old new : BackendView) → BefallsNothing event → IsBefallen exact route event old new
    → new ≡ old
stays-so exact route (Feed client octets) old new is h = h
stays-so exact route (End client) old new is h = h
stays-so exact route (Step client) old new is h = h
stays-so exact route (Run client) old new is h = h
stays-so exact route (Tick seconds) old new is h = h
stays-so exact route (Gone target presents) old new is h = absurd is
stays-so exact route (Cut target) old new is h = absurd is
stays-so exact route (Slow target looks) old new is h = absurd is

module _ {W S : Type 0} (w : world.Ghosts W) (t : sitting.Ghosts S W) (exact : Bool) (route : Route) (law : PackagesGoWell w t)
    (is : exact ≡ true) (told : AreTold w route) where
  abbrev Legs : LegView S → Type 0
  Legs leg = IsWellLeg w t route leg

  abbrev Calm : DoorView S → BackendView → Type 0
  Calm door backend = IsCalm w t door.pool backend

  abbrev Went : (door after : DoorView S) → (backend moved : BackendView) → Type 0
  Went door after backend moved = WentWell w t (Unit {0}) after.pool backend moved

  went-still : (door : DoorView S) (backend : BackendView) → Calm door backend → Went door door backend backend
  went-still door backend calm = record { calm = calm; counts = record { faults = refl; waits = refl; gones = λ had. refl } }

  went-on : (door mid after : DoorView S) (backend amid moved : BackendView) → Went door mid backend amid → Went mid after amid moved
      → Went door after backend moved
  went-on door mid after backend amid moved one other = record {
    calm = other.calm;
    counts = record {
      faults = other.counts.faults ∙ one.counts.faults;
      waits = other.counts.waits ∙ one.counts.waits;
      gones = λ had. other.counts.gones had ∙ one.counts.gones had;
    };
  }

  went-befallen : (event : Event) (door : DoorView S) (old new : BackendView) → BefallsNothing event → Calm door old
      → IsBefallen exact route event old new → Went door door old new
  went-befallen event door old new may calm h =
      subst (λ (b : BackendView). Went door door old b) (sym (stays-so exact route event old new may h)) (went-still door old calm)

  package-goes : (now : ℕ) (old new : PackageView S) (answer : Turned) (door after : DoorView S) (backend moved : BackendView)
      → answer ≢ turned.Memory → AreKept Legs old → Calm door backend
      → IsPackageTurn w t exact route now old new answer door after backend moved → AreKept Legs new × Went door after backend moved
  package-goes now old new answer door after backend moved had are calm h =
      let both = law exact route now old new answer door after backend moved is told h calm (all-append Legs old.first old.later are.0 are.1) in (
        (front-all Legs new.first new.later both.0, back-all Legs new.first new.later both.0),
        record {
          calm = both.1.calm;
          counts = record { faults = both.1.counts.faults; waits = both.1.counts.waits; gones = λ has. both.1.counts.gones had };
        },
      )

  pub run-goes : (events : List Event) (before behind : Outside S) (report : Report) → AllByRecursion BefallsNothing events
      → IsCalm w t before.door.pool before.backend → IsRunOf w t exact route events before behind report
      → WentWell w t (Unit {0}) behind.door.pool before.backend behind.backend
  run-goes events before behind report nothing calm h =
      packages-whole w t exact route Legs Calm Went BefallsNothing (λ client. (tt, tt)) went-still
      (λ door after backend moved went. went.calm) went-on
      (λ asked. record { whole = tt; none = record { gones = refl; faults = refl; spent = refl; looks = refl } })
      package-goes went-befallen events before behind report nothing calm h

-- ---- marks

first-none : (kind : Caused) (m : Mark) (marks : List Mark) → marks_of kind (m ∷ marks) ≡ 0 → one_of kind m ≡ 0
first-none kind m marks none = let all = sum_by-cons (one_of kind) m marks in omega (arith, all, none)

rest-none : (kind : Caused) (m : Mark) (marks : List Mark) → marks_of kind (m ∷ marks) ≡ 0 → marks_of kind marks ≡ 0
rest-none kind m marks none = let all = sum_by-cons (one_of kind) m marks in omega (arith, all, none)

is-well : (m : Mark) → one_of link m ≡ 0 → one_of silent m ≡ 0 → one_of gone m ≡ 0 → IsPlainOrFull m
is-well mark.Plain a b c = tt
is-well mark.Link a b c = absurd cc
is-well (mark.Silent looks) a b c = absurd cc
is-well mark.Gone a b c = absurd cc
is-well (mark.Full sessions) a b c = tt

are-well : (marks : List Mark) → marks_of link marks ≡ 0 → marks_of silent marks ≡ 0 → marks_of gone marks ≡ 0 → AllByRecursion IsPlainOrFull marks
are-well [] a b c = tt
are-well (m ∷ marks) a b c = (
  is-well m (first-none link m marks a) (first-none silent m marks b) (first-none gone m marks c),
  are-well marks (rest-none link m marks a) (rest-none silent m marks b) (rest-none gone m marks c),
)

module _ (pool : PoolNumbers) (numbers : ArePoolNumbers pool) where
  own-none : (kind : Caused) (client : ClientReport) (clients : List ClientReport) → met_for pool kind (client ∷ clients) ≡ 0
      → marks_of kind client.marks ≡ 0
  own-none kind client clients none =
      let all = sum_by-cons (λ (c : ClientReport). weight pool kind * marks_of kind c.marks) client clients in
      no-marks (weight pool kind) (marks_of kind client.marks) (heavy pool kind numbers) (omega (arith, all, none))

  others-none : (kind : Caused) (client : ClientReport) (clients : List ClientReport) → met_for pool kind (client ∷ clients) ≡ 0
      → met_for pool kind clients ≡ 0
  others-none kind client clients none = let all = sum_by-cons (λ (c : ClientReport). weight pool kind * marks_of kind c.marks) client clients in omega (arith, all, none)

  all-well : (clients : List ClientReport) → met_for pool link clients ≡ 0 → met_for pool silent clients ≡ 0 → met_for pool gone clients ≡ 0
      → AllByRecursion (λ client. AllByRecursion IsPlainOrFull client.marks) clients
  all-well [] a b c = tt
  all-well (client ∷ clients) a b c = (
    are-well client.marks (own-none link client clients a) (own-none silent client clients b) (own-none gone client clients c),
    all-well clients (others-none link client clients a) (others-none silent client clients b) (others-none gone client clients c),
  )

-- ---- sums

-- a count that is 0 before and behind was raised by nothing
zero-sum : (n before behind : ℕ) → before ≡ 0 → behind ≡ 0 → RisesAsMuch 0 n before behind → n ≡ 0
zero-sum n before behind e f h = let all : within64 (0 + n) ≡ behind = h 0 (omega (arith, e)) in omega (arith, all, f)

-- none of these was counted
pub record AreNone (counts : Counts) : Type 0 where
  pub faults : counts.faults ≡ 0
  pub waits : counts.waits ≡ 0
  pub gones : counts.gones ≡ 0

module _ {S : Type 0} (route : Route) (report : Report) (before behind : Outside S) (numbers : ArePoolNumbers route.pool)
    (first : AreNone before.backend.counts) (last : AreNone behind.backend.counts) (sums : AreSums true report before behind)
    (causes : HaveCauses route.pool report before behind)
    (fulls : in_classes dials report.classes < route.pool.max_sessions → 1 ≤ met_for route.pool full report.clients
    → route.pool.max_sessions ≤ in_classes dials report.classes + in_classes faults report.classes)
    (unfull : length report.clients * most_at_once route ≤ route.pool.max_sessions → met_for route.pool full report.clients ≡ 0) where
  links-none : met_for route.pool link report.clients ≡ 0
  links-none = none-met _ before.backend.counts.faults behind.backend.counts.faults (omega (arith, first.faults)) (last.faults ∙ sym first.faults) (causes link)

  silents-none : met_for route.pool silent report.clients ≡ 0
  silents-none = none-met _ before.backend.counts.waits behind.backend.counts.waits (omega (arith, first.waits)) (last.waits ∙ sym first.waits) (causes silent)

  gones-none : met_for route.pool gone report.clients ≡ 0
  gones-none = none-met _ before.backend.counts.gones behind.backend.counts.gones (omega (arith, first.gones)) (last.gones ∙ sym first.gones) (causes gone)

  no-faults : in_classes faults report.classes ≡ 0
  no-faults = zero-sum (in_classes faults report.classes) before.backend.counts.faults behind.backend.counts.faults first.faults last.faults (sums faults refl)

  fulls-none : in_classes dials report.classes < route.pool.max_sessions → met_for route.pool full report.clients ≡ 0
  fulls-none few =
      elim (cases_lt 0 (met_for route.pool full report.clients)) [
        | inl some ↦ let most = fulls few some in absurd (omega (arith, few, most, no-faults))
        | inr none ↦ omega (arith, none)
      ]

  kinds-none : met_for route.pool full report.clients ≡ 0 → (kind : Caused) → met_for route.pool kind report.clients ≡ 0
  kinds-none none link = links-none
  kinds-none none silent = silents-none
  kinds-none none gone = gones-none
  kinds-none none full = none

  pub are-untroubled : IsUntroubled route report
  are-untroubled = record {
    unfailing = no-faults;
    none_gone = zero-sum (in_classes gones report.classes) before.backend.counts.gones behind.backend.counts.gones first.gones last.gones (sums gones tt);
    marks = all-well route.pool numbers report.clients links-none silents-none gones-none;
    few_links = λ few. clients-plain route.pool report.clients numbers (kinds-none (fulls-none few));
    places = λ enough. clients-plain route.pool report.clients numbers (kinds-none (unfull enough));
  }

-- ---- over a wire

none-whole : {W S : Type 0} (w : world.Ghosts W) (t : sitting.Ghosts S W) (pool : Option (Pool S)) → HasNoSession pool → IsWholePool w t pool
none-whole w t None none = absurd none
none-whole {S = S} w t (Some pool) none = subst (λ (sessions : List (Session S)). AllByRecursion (IsWholeSession w t) sessions) (sym none) tt

-- a backend over a wire that counted nothing has counted none of these, if it has met no breach
nothing-counted : (wire : Counts) (own : Own) → wire ≡ no_counts → own.breaches ≡ 0 → AreNone (counts_over true wire own)
nothing-counted wire own e none = record {
  faults = (let zero = ap (λ (c : Counts). c.faults) e in omega (arith, zero, none));
  waits = ap (λ (c : Counts). c.waits) e;
  gones = ap (λ (c : Counts). c.gones) e;
}

-- where no link was made before, and no call failed, a pool that was full has its cause
few-full : {W : Type 0} (w : world.Ghosts W) (route : Route) (report : Report) (before behind : Counts) → route.pool.max_sessions < last64
    → before ≡ no_counts → behind.faults ≡ 0 → AreTold w route → IsCountedBy w true route before behind report
    → in_classes dials report.classes < route.pool.max_sessions → 1 ≤ met_for route.pool full report.clients
    → route.pool.max_sessions ≤ in_classes dials report.classes + in_classes faults report.classes
few-full w route report before behind most e unfailing told counted few some =
    let zero : before.dials ≡ 0 = ap (λ (c : Counts). c.dials) e in
    let sums = counted.sums refl in
    let made : behind.dials ≡ within64 (before.dials + in_classes dials report.classes) = sums.dials (omega (arith, zero)) in
    let none = counted.told told in
    counted.fulls refl some (omega (arith, zero, made, few, most)) (omega (arith, unfailing, none))

-- a new door is one over an empty pool
empty-of : {S : Type 0} (pool : Option (Pool S)) (counts : DoorCounts) → HasNoSession pool → IsToldFull pool counts
    → IsEmptyPool counts.most pool
empty-of None counts none told = absurd none
empty-of (Some pool) counts none told = (none, told.most)

pub new-door : {S : Type 0} (door : DoorView S) → HasNoSession door.pool → IsToldFull door.pool door.counts → door.counts.fulls ≡ 0 → IsNewDoor door
new-door door none told unfull = record { empty = empty-of door.pool door.counts none told; unfull = unfull }

pub most-as : {S : Type 0} (route : Route) (before : Outside S) → IsNewPool route before → {n : ℕ} → n ≤ route.pool.max_sessions
    → n ≤ before.door.counts.most
most-as route before new enough = let same = new.most in omega (arith, same, enough)

never-full : {S : Type 0} (route : Route) (report : Report) (before behind : Outside S) → IsNewPool route before
    → HaveCauses route.pool report before behind → behind.door.counts.fulls ≡ 0 → met_for route.pool full report.clients ≡ 0
never-full route report before behind new causes unfull =
    none-met _ before.door.counts.fulls behind.door.counts.fulls (omega (arith, new.fulls)) (unfull ∙ sym new.fulls) (causes full)

wire-faults : (wire : Counts) (own : Own) → (counts_over true wire own).faults ≡ 0 → wire.faults ≡ 0
wire-faults wire own e = omega (arith, e)

module _ {W S : Type 0} (w : world.Ghosts W) (t : sitting.Ghosts S W) (route : Route) (events : List Event)
    (before behind : Outside S) (report : Report) (new : IsNewPool route before) (numbers : ArePoolNumbers route.pool)
    (w0 w1 : Counts) (own0 own1 : Own) (none : own0.breaches ≡ 0) where
  pub untroubled : (exact : Bool) → before.backend.counts ≡ counts_over exact w0 own0 → behind.backend.counts ≡ counts_over exact w1 own1
      → GoesWell w t exact route events before behind → AreSums exact report before behind → HaveCauses route.pool report before behind
      → FindsRoom route report before behind → IsCountedBy w exact route w0 w1 report
      → IsUntroubledIf w exact route events w0 before.backend.happened report
  untroubled false first last goes sums causes room counted is und = absurd cc
  untroubled true first last goes sums causes room counted is und =
      let went = goes refl und.told und.nothing (record { quiet = und.quiet; sessions = none-whole w t before.door.pool new.none }) in
      let no_first : AreNone before.backend.counts = subst (λ (c : Counts). AreNone c) (sym first) (nothing-counted w0 own0 und.uncounted none) in
      let no_last : AreNone behind.backend.counts = record {
        faults = went.counts.faults ∙ no_first.faults;
        waits = went.counts.waits ∙ no_first.waits;
        gones = went.counts.gones tt ∙ no_first.gones;
      } in
      let unfailing = wire-faults w1 own1 (sym (ap (λ (c : Counts). c.faults) last) ∙ no_last.faults) in
      are-untroubled route report before behind numbers no_first no_last sums causes
      (few-full w route report w0 w1 new.few und.uncounted unfailing und.told counted)
      (λ enough. never-full route report before behind new causes (room (new-door before.door new.none new.told new.fulls) (most-as route before new enough)))

pub untroubled_ok : {E : Type 0} (W S : Type 0) (w : world.Ghosts W) (t : sitting.Ghosts S W) (exact : Bool) (route : Route) (events : List Event)
    (before behind : Outside S) (result : Result Report E) → IfOk result (IsRunOf w t exact route events before behind)
    → OnOk result (GoesWell w t exact route events before behind) → IsNewPool route before → ArePoolNumbers route.pool
    → (w0 w1 : Counts) (own0 own1 : Own) → own0.breaches ≡ 0
    → before.backend.counts ≡ counts_over exact w0 own0 → behind.backend.counts ≡ counts_over exact w1 own1
    → IfOk result (λ report. AreSums exact report before behind) → IfOk result (λ report. HaveCauses route.pool report before behind)
    → IfOk result (λ report. AreDialled before behind) → IfOk result (λ report. FindsRoom route report before behind)
    → IfOk result (IsUntroubledIf w exact route events w0 before.backend.happened)
untroubled_ok W S w t exact route events before behind (Ok report) run goes new numbers w0 w1 own0 own1 none e f sums causes dialled room =
    untroubled w t route events before behind report new numbers w0 w1 own0 own1 none exact e f goes sums causes room
    (counted_run w t exact route events before behind report run new w0 w1 own0 own1 none e f sums causes dialled)
untroubled_ok W S w t exact route events before behind (Err err) run goes new numbers w0 w1 own0 own1 none e f sums causes dialled room = tt
