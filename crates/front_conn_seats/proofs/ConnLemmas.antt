-- A connection: each seat that is out is held by a leg of its request in work, or is out for others
use Rattle.std.proofs.Common.{◌≡◌, ◌∙◌, ◌⊎◌, ℕ, ◌+◌, Bool, inl, inr, List, [], ◌∷◌, ◌++◌, Option, None, Some, option_map, Result, Ok, Err, refl, sym, ap, subst, arith}
use Rattle.std.specs.Prelude.{IfSome}
use Rattle.std.proofs.lemmas.List.Elements.{All-head, All-tail}
use Rattle.z_types.specs.declared.marks.End.{End}
use Rattle.z_types.specs.declared.memory.Memory.{Memory as NoMemory}
use Rattle.z_types.specs.declared.sitting.Sitting as sitting
use Rattle.z_types.specs.declared.work.Work.{Work}
use Rattle.z_types.specs.declared.world.World as world
use Rattle.route_config.specs.declared.route.Route.{Route}
use Rattle.pool_sets.specs.Plain.{Pool}
use Rattle.pool_sets.specs.declared.doors.Seat.{Seat}
use Rattle.front_conn.specs.front_z.declared.units.Begun.{Begun}
use Rattle.front_conn.specs.front_z.declared.units.Begun.TheVariants as begun
use Rattle.front_conn.specs.leg.LegView.{LegView}
use Rattle.front_conn.specs.leg.Phases.{answered, seat_of}
use Rattle.front_conn.specs.leg.declared.answers.Turned.{Turned}
use Rattle.front_conn.specs.leg.declared.answers.Turned.TheVariants as turned
use Rattle.front_conn.specs.leg.declared.phases.Phase.{Phase}
use Rattle.front_conn.specs.leg.declared.phases.Phase.TheVariants.{Begin, Dialling, Dialled, Ready, Searching, Presenting, Fetching, Scanning, Returning, Losing, Redialling, Spoiled, Done, Ended}
use Rattle.front_conn.specs.leg.declared.tasks.Task.{Task}
use Rattle.front_conn.specs.package.steps.Ends.{lost_seats}
use Rattle.front_conn.specs.package.steps.Packages.{AreDone, HasFitting, IsOver, IsPackageOf, PackageView, new_package}
use Rattle.front_conn.specs.front_sru.declared.begun.Begun as sru_begun
use Rattle.front_conn.specs.front_sru.declared.begun.Begun.TheVariants as get
use Rattle.front_conn.specs.front_sru.declared.state.SruStage.{SruStage}
use Rattle.front_conn.specs.front_sru.declared.state.SruStage.TheVariants as at
use Rattle.front_conn.specs.declared.stepped.Stepped.{Stepped}
use Rattle.front_conn.specs.declared.stepped.Stepped.TheVariants.{Idle, NotYet, Went, Memory}
use Rattle.front_conn.specs.steps.Answering.{AnsweringState, EndsAt, IsKeptBehind, IsKeptBehindGet, IsKeptBehindHead, Outside, TurnsWork, WorksOn, legs_in}
use Rattle.front_conn.specs.steps.Feeding.{without_work}
use Rattle.front_conn.specs.steps.States.{ConnectionState, IsConnOf}
use Rattle.front_conn.specs.steps.Steps.{EndsByRest, GoesAhead, IsStepFrom, TakesHead, TakesUnit, answering_of}
use Rattle.front_conn_seats.specs.steps.Seats.{AreHeld, AreHeldOn, AreOutOf, held_at, held_in, no_seat}
use Rattle.front_conn_seats.proofs.LegLemmas.{Keeps}
use Rattle.front_conn_seats.proofs.PackageLemmas.{HoldNone, append-none, beside, first-seat, held-none, new-none, no-legs, none-held, of-as, package-keeps, seats-lost}

-- ---- legs that are done hold none

module _ {S : Type 0} where
  done-keeps : (task : Task) (phase : Phase S) → HasFitting task (answered phase) → Keeps task None phase
  done-keeps task Begin h = absurd h
  done-keeps task (Dialling seat member) h = absurd h
  done-keeps task (Dialled held looks) h = absurd h
  done-keeps task (Ready held items) h = absurd h
  done-keeps task (Searching held items slot looks) h = absurd h
  done-keeps task (Presenting held items slot hits) h = absurd h
  done-keeps task (Fetching held items slot hits looks) h = absurd h
  done-keeps task (Scanning held looks) h = absurd h
  done-keeps task (Returning held answer) h = absurd h
  done-keeps task (Losing seat answer) h = absurd h
  done-keeps task (Redialling seat) h = absurd h
  done-keeps task (Spoiled seat) h = absurd h
  done-keeps task (Done answer) h = record { seat = refl; does = tt }
  done-keeps task Ended h = absurd h

  abbrev IsDone_ : LegView S → Type 0
  IsDone_ leg = HasFitting leg.task (answered leg.phase)

  done-none : (legs : List (LegView S)) → AreDone legs → HoldNone legs
  done-none [] h = no-legs
  done-none (leg ∷ legs) h =
      let k = done-keeps leg.task leg.phase (All-head IsDone_ leg legs h) in
      let rest = done-none legs (All-tail IsDone_ leg legs h) in
      record {
        tasks = (k.does, rest.tasks);
        none = λ seat.
            let e = first-seat leg legs seat in
            let own : ◌≡◌ {A = ℕ} (held_at (seat_of leg.phase) seat) 0 = ap (λ o. held_at o seat) k.seat in
            let others = rest.none seat in
            omega (arith, e, own, others);
      }

  over-none : (view : PackageView S) → IsOver view → HoldNone (view.first ++ view.later)
  over-none view h = append-none view.first view.later (done-none view.first h.first) (done-none view.later h.later)

  -- ---- what is in work that was not turned

  -- none, or a package that is begun
  abbrev IsUnturned : Route → Option (PackageView S) → Type 0
  IsUnturned route in_work = (in_work ≡ None) ⊎ ((job : Work) × (in_work ≡ Some (new_package route job)))

  unturned-none : (route : Route) (in_work : Option (PackageView S)) → IsUnturned route in_work → HoldNone (legs_in in_work)
  unturned-none route in_work (inl e) = subst (λ (i : Option (PackageView S)). HoldNone (legs_in i)) (sym e) no-legs
  unturned-none route in_work (inr h) = subst (λ (i : Option (PackageView S)). HoldNone (legs_in i)) (sym h.1) (new-none route h.0)

  unit-unturned : (route : Route) (old new : AnsweringState S) (ended : Option End) (answer : Begun) → IsKeptBehind route old new ended answer
      → IsUnturned route new.in_work
  unit-unturned route old new ended (begun.Write mark end) h = inl h.2
  unit-unturned route old new ended (begun.Work job) h = inr (job, h.2)
  unit-unturned route old new ended begun.Memory h = absurd h

  head-unturned : (route : Route) (old new : AnsweringState S) (ended : Option End) (answer : sru_begun.Begun)
      → IsKeptBehindHead route old new ended answer → IsUnturned route new.in_work
  head-unturned route old new ended (get.Write mark end) h = inl h.2
  head-unturned route old new ended (get.Work job) h = inr (job, h.2)
  head-unturned route old new ended get.Memory h = absurd h

  get-unturned : (route : Route) (view : PackageView S) (old new : AnsweringState S) (ended : Option End) (answer : sru_begun.Begun)
      → IsKeptBehindGet route view old new ended answer → IsUnturned route new.in_work
  get-unturned route view old new ended (get.Write mark end) h = inl h.2
  get-unturned route view old new ended (get.Work job) h = inr (job, h.2)
  get-unturned route view old new ended get.Memory h = absurd h

  over-unturned : (route : Route) (view : PackageView S) (old new : AnsweringState S) (stage : SruStage) (done : Result (Option End) NoMemory)
      → EndsAt route stage view old new done → IsUnturned route new.in_work
  over-unturned route view old new at.Idle (Ok ended) h = inl h.1
  over-unturned route view old new at.Idle (Err want) h = inl h.1
  over-unturned route view old new (at.Searching retrieval) (Ok ended) h = get-unturned route view old new ended h.answer h.kept
  over-unturned route view old new (at.Searching retrieval) (Err want) h = inl h.1
  over-unturned route view old new (at.Fetching retrieval hits) (Ok ended) h = get-unturned route view old new ended h.answer h.kept
  over-unturned route view old new (at.Fetching retrieval hits) (Err want) h = inl h.1

  ahead-unturned : (route : Route) (old new : ConnectionState S) (answer : Stepped) → old.in_work ≡ None → GoesAhead route old new answer
      → IsUnturned route new.in_work
  ahead-unturned route old new Idle e h = inl (ap (λ (s : ConnectionState S). s.in_work) h.1 ∙ e)
  ahead-unturned route old new NotYet e h = absurd h
  ahead-unturned route old new Memory e h = inl h.unbegun.in_work
  ahead-unturned route old new Went e h = went h.2
    where
      went : TakesUnit route old new ⊎ TakesHead route old new ⊎ EndsByRest old new → IsUnturned route new.in_work
      went (inl unit) = unit-unturned route (answering_of old) (answering_of new) new.end unit.begun.answer unit.begun.kept
      went (inr (inl head)) = head-unturned route (answering_of old) (answering_of new) new.end head.taken.answer head.taken.kept
      went (inr (inr rest)) = inl (rest.in_work ∙ e)

-- ---- the request in work has its turn

module _ {W S : Type 0} (w : world.Ghosts W) (t : sitting.Ghosts S W) (exact : Bool) (route : Route) (now : ℕ) where
  works-held : (turned_ : Turned) (next : PackageView S) (old new : AnsweringState S) (answer : Stepped) (end : Option End) (others : Seat → ℕ)
      (pool : Option (Pool S)) → WorksOn route turned_ next old new answer end → AreHeld (next.first ++ next.later) others pool
      → AreHeld (legs_in new.in_work) others pool
  works-held turned.Went next old new answer end others pool h held =
      subst (λ (i : Option (PackageView S)). AreHeld (legs_in i) others pool) (sym (ap (λ (a : AnsweringState S). a.in_work) h.1)) held
  works-held turned.NotYet next old new answer end others pool h held =
      subst (λ (i : Option (PackageView S)). AreHeld (legs_in i) others pool) (sym (ap (λ (a : AnsweringState S). a.in_work) h.1)) held
  works-held turned.Memory next old new answer end others pool h held =
      subst (λ (i : Option (PackageView S)). AreHeld (legs_in i) others pool) (sym (ap (λ (a : AnsweringState S). a.in_work) h.1)) held
  works-held turned.Done next old new answer end others pool h held =
      none-held (legs_in new.in_work) others pool
      (unturned-none route new.in_work (over-unturned route next old new old.stage h.done h.ends.went))
      (held-none (next.first ++ next.later) others pool (over-none next h.ends.over) held)

  turn-held : (view : PackageView S) (old new : AnsweringState S) (answer : Stepped) (end : Option End) (before behind : Outside S)
      (others : Seat → ℕ) → IsPackageOf w t route before.door.counts.most view
      → TurnsWork w t exact route now view old new answer end before behind
      → AreHeld (view.first ++ view.later) others before.door.pool → AreHeld (legs_in new.in_work) others behind.door.pool
  turn-held view old new answer end before behind others of h held =
      works-held h.turned h.next old new answer end others behind.door.pool h.works
      (package-keeps w t exact route now view h.next h.turned before.door behind.door before.backend behind.backend others of.asks h.law held)

  -- ---- a step

  from-held : (end : Option End) (in_work : Option (PackageView S)) (old new : ConnectionState S) (answer : Stepped) (before behind : Outside S)
      (others : Seat → ℕ) → old.end ≡ end → old.in_work ≡ in_work → IsConnOf w t route before.door.counts.most old
      → IsStepFrom w t exact route now end in_work old new answer before behind
      → AreHeld (legs_in in_work) others before.door.pool → AreHeldOn new others behind.door.pool
  from-held (Some end) in_work old new answer before behind others e f of h held =
      subst (λ (o : Outside S). AreHeldOn new others o.door.pool) (sym h.2)
      (subst (λ (s : ConnectionState S). AreHeldOn s others before.door.pool) (sym h.1)
      (subst (λ (i : Option (PackageView S)). AreHeld (legs_in i) others before.door.pool) (sym f) held))
  from-held None None old new answer before behind others e f of h held =
      subst (λ (o : Outside S). AreHeldOn new others o.door.pool) (sym h.1)
      (none-held (legs_in new.in_work) others before.door.pool
      (unturned-none route new.in_work (ahead-unturned route old new answer f h.0))
      (held-none [] others before.door.pool no-legs held))
  from-held None (Some view) old new answer before behind others e f of h held =
      turn-held view (answering_of old) (answering_of new) answer new.end before behind others
      (subst (λ (i : Option (PackageView S)). IfSome i (IsPackageOf w t route before.door.counts.most)) f ((of e).in_work)) h.turns held

  pub step-keeps : (old new : ConnectionState S) (answer : Stepped) (before behind : Outside S) (others : Seat → ℕ)
      → IsConnOf w t route before.door.counts.most old → IsStepFrom w t exact route now old.end old.in_work old new answer before behind
      → AreHeldOn old others before.door.pool → AreHeldOn new others behind.door.pool
  step-keeps old new answer before behind others of h held =
      from-held old.end old.in_work old new answer before behind others refl refl of h held

  -- what others hold stays out
  pub step-leaves : (old new : ConnectionState S) (answer : Stepped) (before behind : Outside S) (held others : Seat → ℕ)
      → IsConnOf w t route before.door.counts.most old → IsStepFrom w t exact route now old.end old.in_work old new answer before behind
      → AreHeldOn old (λ seat. held seat + others seat) before.door.pool
      → AreOutOf held (λ seat. held_in (legs_in new.in_work) seat + others seat) behind.door.pool
  step-leaves old new answer before behind held others of h are =
      of-as (held_in (legs_in new.in_work)) (beside held others) held (beside (held_in (legs_in new.in_work)) others) behind.door.pool
      (λ seat. omega arith) (step-keeps old new answer before behind (beside held others) of h are).out

-- ---- a connection that is given up

module _ {S : Type 0} where
  pub connection-gives-back : (state : ConnectionState S) (before behind : Option (Pool S)) (others : Seat → ℕ)
      → behind ≡ option_map (lost_seats (legs_in state.in_work)) before → AreHeldOn state others before
      → AreHeldOn (without_work state) others behind × AreOutOf no_seat others behind
  connection-gives-back state before behind others e h =
      let there = subst (λ (q : Option (Pool S)). AreOutOf no_seat others q) (sym e) (seats-lost (legs_in state.in_work) others before h) in
      (none-held [] others behind no-legs there, there)
