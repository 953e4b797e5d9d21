-- The turns of a package that is driven are steps of its connection
use Rattle.std.proofs.Common.{◌≡◌, ◌∙◌, ℕ, Bool, inl, inr, List, [], ◌∷◌, map, Option, None, Some, Result, Ok, Err, OnOk, ap, refl, subst, sym}
use Rattle.std.specs.Prelude.{IfSome}
use Rattle.std.specs.List.{AllByRecursion}
use Rattle.z_types.specs.Chains.{HasStepped, StepsFrom}
use Rattle.z_types.specs.declared.marks.End.{End}
use Rattle.z_types.specs.declared.memory.Memory.{Memory as NoMemory}
use Rattle.z_types.specs.declared.sitting.Sitting as sitting
use Rattle.z_types.specs.declared.work.Work.{Work}
use Rattle.z_types.specs.declared.world.World as world
use Rattle.z_frame.specs.Framing.{Framing}
use Rattle.route_config.specs.declared.route.Route.{Route}
use Rattle.package.specs.leg.declared.answers.Turned.{Turned}
use Rattle.package.specs.leg.declared.answers.Turned.TheVariants as turned
use Rattle.package.specs.steps.Drives as package_drives
use Rattle.package.specs.steps.Drives.{PackageAt}
use Rattle.package.specs.steps.Packages.{IsPackageOf, PackageView}
use Rattle.front_conn.specs.declared.stepped.Stepped.{Stepped}
use Rattle.front_conn.specs.declared.stepped.Stepped.TheVariants.{NotYet, Went}
use Rattle.front_conn.specs.steps.Answering.{AnsweringState, EndsWork, IsEndAfter, IsReady, Outside, TurnsWork, WorksOn}
use Rattle.front_conn.specs.steps.Drives.{ConnAt, DrivesWork, GoesOnTo, StepsTo, around, package_in}
use Rattle.front_conn.specs.steps.States.{HasLegsOf, IsConnOf, IsOneWork, IsWaitedAt}
use Rattle.front_conn.specs.steps.Steps.{KeepsState}
use Rattle.front_conn.proofs.EndedLemmas.{if-work, one-here, turns-on, turns-over}
use Rattle.front_conn.proofs.StepLemmas.{state_of}
use Rattle.front_conn.proofs.TurnLemmas.{goes-keeps}

module _ {W S : Type 0} (w : world.Ghosts W) (t : sitting.Ghosts S W) (exact : Bool) (route : Route) where
  -- all turns are for one work
  pub same-work : (first last : PackageAt S) (earlier : List (PackageAt S)) → HasStepped (package_drives.GoesOnTo w t exact route) first earlier last
      → last.view.work ≡ first.view.work
  same-work first last [] same = ap (λ (p : PackageAt S). p.view.work) same
  same-work first last (mid ∷ earlier) stepped = stepped.1.turn.law.work ∙ same-work first mid earlier stepped.0

  -- and of one route
  pub same-route : (first last : PackageAt S) (earlier : List (PackageAt S)) → IsPackageOf w t route first.door.counts.most first.view
      → HasStepped (package_drives.GoesOnTo w t exact route) first earlier last → IsPackageOf w t route last.door.counts.most last.view
  same-route first last [] of same = subst (λ (p : PackageAt S). IsPackageOf w t route p.door.counts.most p.view) (sym same) of
  same-route first last (mid ∷ earlier) of stepped = stepped.1.turn.of

  -- the work that waits is that of each
  pub still-waits : (a : AnsweringState S) (first last : PackageAt S) (earlier : List (PackageAt S))
      → HasStepped (package_drives.GoesOnTo w t exact route) first earlier last → IsWaitedAt route a.session.waiting first.view.work a.stage
      → IsWaitedAt route a.session.waiting last.view.work a.stage
  still-waits a first last earlier stepped waits =
      subst (λ (j : Work). IsWaitedAt route a.session.waiting j a.stage) (sym (same-work first last earlier stepped)) waits

  -- also of the last
  pub driven-work : {A : Type 0} (first last : PackageAt S) (out : Result A NoMemory) → package_drives.IsDriven w t exact route first last out
      → last.view.work ≡ first.view.work
  driven-work first last out driven = driven.ends.law.work ∙ same-work first driven.amid driven.goes.0 driven.goes.1

-- ---- a package that is driven within its connection

-- the connection while this package is in work
abbrev pub conn_with : {S : Type 0} → Framing → AnsweringState S → (has_ended : Bool) → PackageAt S → ConnAt S
conn_with f a has_ended here =
    record { conn = state_of f (record a { in_work = Some here.view }) None has_ended; outside = around here }

module _ {W S : Type 0} (w : world.Ghosts W) (t : sitting.Ghosts S W) (exact : Bool) (route : Route) (f : Framing)
    (a : AnsweringState S) (has_ended : Bool) (sets : AllByRecursion (HasLegsOf route) a.session.sets) where
  abbrev standing : PackageAt S → ConnAt S
  standing = conn_with f a has_ended

  -- it is of the route
  pub at-of : (here : PackageAt S) → IsPackageOf w t route here.door.counts.most here.view
      → IsWaitedAt route a.session.waiting here.view.work a.stage → IsConnOf w t route here.door.counts.most (standing here).conn
  at-of here of waits = λ goes. record { sets = sets; in_work = of; one_work = waits }

  -- a turn is a step
  step-by : (here next : PackageAt S) (answer : Turned) (says : Stepped) → IsPackageOf w t route here.door.counts.most here.view
      → IsWaitedAt route a.session.waiting here.view.work a.stage → package_drives.TurnsTo w t exact route here next answer
      → WorksOn route answer next.view (record a { in_work = Some here.view }) (record a { in_work = Some next.view }) says None
      → StepsTo w t exact route (standing here) (standing next) says
  step-by here next answer says of waits turn works = record {
    now = turn.now;
    of = at-of here of waits;
    stepped = record {
      turns = record {
        next = next.view;
        turned = answer;
        law = turn.law;
        of = turn.of;
        works = works;
        ready = λ goes. turn.of;
        one_work = λ goes. subst (λ (j : Work). IsWaitedAt route a.session.waiting j a.stage) (sym turn.law.work) waits;
      };
      input = record { at = refl; left = refl; has_ended = refl };
    };
  }

  -- one that goes on is one that does
  on-by : (here next : PackageAt S) (answer : Turned) → IsPackageOf w t route here.door.counts.most here.view
      → IsWaitedAt route a.session.waiting here.view.work a.stage
      → package_drives.IsAwaited answer → package_drives.TurnsTo w t exact route here next answer
      → GoesOnTo w t exact route (standing here) (standing next)
  on-by here next answer of waits (inl went) turn = record {
    answer = Went;
    awaited = inl refl;
    step = step-by here next answer Went of waits turn
        (subst (λ (s : Turned). WorksOn route s next.view (record a { in_work = Some here.view }) (record a { in_work = Some next.view }) Went None)
        (sym went) (refl, refl, refl));
    in_work = record { goes_on = refl; works = refl };
  }
  on-by here next answer of waits (inr heard) turn = record {
    answer = NotYet;
    awaited = inr refl;
    step = step-by here next answer NotYet of waits turn
        (subst (λ (s : Turned). WorksOn route s next.view (record a { in_work = Some here.view }) (record a { in_work = Some next.view }) NotYet None)
        (sym heard) (refl, refl, refl));
    in_work = record { goes_on = refl; works = refl };
  }

  -- so are all that went on
  pub stepped-so : (first last : PackageAt S) (earlier : List (PackageAt S)) → IsPackageOf w t route first.door.counts.most first.view
      → IsWaitedAt route a.session.waiting first.view.work a.stage
      → HasStepped (package_drives.GoesOnTo w t exact route) first earlier last → HasStepped (GoesOnTo w t exact route) (standing first) (map standing earlier) (standing last)
  stepped-so first last [] of waits same = ap standing same
  stepped-so first last (mid ∷ earlier) of waits stepped = (
    stepped-so first mid earlier of waits stepped.0,
    on-by mid last stepped.1.answer (same-route w t exact route first mid earlier of stepped.0)
        (still-waits w t exact route a first mid earlier stepped.0 waits) stepped.1.awaited stepped.1.turn,
  )

  -- behind them the connection stands in the session as before
  pub stepped-keeps : (first last : PackageAt S) (earlier : List (PackageAt S)) → HasStepped (package_drives.GoesOnTo w t exact route) first earlier last
      → KeepsState w route (standing first).conn (standing last).conn
  stepped-keeps first last [] same = subst (λ (p : PackageAt S). KeepsState w route (standing first).conn (standing p).conn) (sym same) (λ fair fed written h. h)
  stepped-keeps first last (mid ∷ earlier) stepped = λ fair fed written h.
      goes-keeps w t route last.door.counts.most (standing mid).conn (standing last).conn mid.view last.view stepped.1.turn.of stepped.1.turn.law.work
      refl refl refl refl refl refl fair fed written (stepped-keeps first mid earlier stepped.0 fair fed written h)

-- ---- what is done behind its last turn

module _ {W S : Type 0} (w : world.Ghosts W) (t : sitting.Ghosts S W) (exact : Bool) (route : Route) (here old : AnsweringState S)
    (is : here ≡ old) (view : PackageView S) (works : here.in_work ≡ Some view) (last : PackageView S) (answer : Stepped)
    (end : Option End) (before behind : Outside S) (one : IsOneWork route old.session.waiting old.stage old.in_work) where
  -- what answers, while this package is in work
  abbrev holding : PackageView S → AnsweringState S
  holding carried = record here { in_work = Some carried }

  -- the last turn is one of the connection's
  drives-by : (new : AnsweringState S) (amid : PackageAt S) (now : ℕ)
      → StepsFrom (package_drives.GoesOnTo w t exact route) (package_in view before) amid
      → TurnsWork w t exact route now amid.view (holding amid.view) new answer end (around amid) behind
      → IfSome old.in_work (λ v. DrivesWork w t exact route v old new answer end before behind)
  drives-by new amid now goes turns =
      if-work here old is view works (λ v. DrivesWork w t exact route v old new answer end before behind) (record {
        amid = amid;
        goes = goes;
        now = now;
        turns = subst (λ (o : AnsweringState S).
            TurnsWork w t exact route now amid.view (record o { in_work = Some amid.view }) new answer end (around amid) behind) is turns;
      })

  -- it waits for the package behind each turn
  waits-amid : (amid : PackageAt S) → StepsFrom (package_drives.GoesOnTo w t exact route) (package_in view before) amid
      → IsOneWork route here.session.waiting here.stage (Some amid.view)
  waits-amid amid goes =
      still-waits w t exact route here (package_in view before) amid goes.0 goes.1 (one-here here old is view works route one)

  -- in the last turn a leg lacked memory
  pub drives-lacking : {A : Type 0} (out : Result A NoMemory) (memory : NoMemory) → out ≡ Err memory
      → package_drives.IsDriven w t exact route (package_in view before) (package_in last behind) out
      → IsEndAfter (Err memory) end answer
      → IfSome old.in_work (λ v. DrivesWork w t exact route v old (holding last) answer end before behind)
  drives-lacking (Ok done) memory lacks driven after = absurd cc
  drives-lacking (Err lack) memory lacks driven after =
      let amid = driven.amid in
      drives-by (holding last) amid driven.ends.now driven.goes
      (turns-on w t exact route driven.ends.now (holding amid.view) (holding amid.view) refl amid.view refl last turned.Memory answer end
      (around amid) behind driven.ends.law driven.ends.of (waits-amid amid driven.goes) (after.1, refl, after.0))

  -- or all were done
  pub drives-over : {A : Type 0} (out : Result A NoMemory) (all : A) → out ≡ Ok all
      → package_drives.IsDriven w t exact route (package_in view before) (package_in last behind) out
      → (new : AnsweringState S) (done : Result (Option End) NoMemory)
      → IfSome (Some last) (λ v. EndsWork route v (holding last) new done) → OnOk done (IsReady w t route new) → IsEndAfter done end answer
      → IfSome old.in_work (λ v. DrivesWork w t exact route v old new answer end before behind)
  drives-over (Err lack) all is_ok driven new done ends ready after = absurd cc
  drives-over (Ok every) all is_ok driven new done ends ready after =
      let amid = driven.amid in
      drives-by new amid driven.ends.now driven.goes
      (turns-over w t exact route driven.ends.now (holding amid.view) (holding amid.view) refl amid.view refl last turned.Done answer end
      (around amid) behind driven.ends.law driven.ends.of new done refl ends ready after)
