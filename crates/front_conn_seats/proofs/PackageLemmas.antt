-- The legs of a request: each seat that is out is held by one of them, or is out for others
use Rattle.std.proofs.Common.{◌≡◌, ℕ, ◌+◌, Bool, true, false, List, [], ◌∷◌, ◌++◌, map, Option, None, Some, option_map, refl, sym, ap, subst, arith}
use Rattle.std.specs.List.{AllByRecursion}
use Rattle.std.proofs.lemmas.List.Sums.{sum_by-append, sum_by-cons}
use Rattle.z_types.specs.declared.sitting.Sitting as sitting
use Rattle.z_types.specs.declared.work.Work.{Work}
use Rattle.z_types.specs.declared.world.World as world
use Rattle.route_config.specs.declared.route.Route.{Route}
use Rattle.pool_sets.specs.Plain.{Pool}
use Rattle.pool_sets.specs.declared.doors.Seat.{Seat}
use Rattle.front_conn.specs.leg.Deeds.{BackendView}
use Rattle.front_conn.specs.leg.LegView.{LegView}
use Rattle.front_conn.specs.leg.Phases.{is_done, seat_of}
use Rattle.front_conn.specs.leg.Terms.{terms_of}
use Rattle.front_conn.specs.leg.Turns.{DoorView, lost_seat}
use Rattle.front_conn.specs.leg.declared.answers.Turned.{Turned}
use Rattle.front_conn.specs.leg.declared.answers.Turned.TheVariants as turned
use Rattle.front_conn.specs.leg.declared.tasks.Task.{Task}
use Rattle.front_conn.specs.package_rules.Asked.{Asked, first_asked}
use Rattle.front_conn.specs.package_rules.Planned.{then_asked_by}
use Rattle.front_conn.specs.package.declared.turning.Round.{Round}
use Rattle.front_conn.specs.package.steps.Ends.{gave_all_up, gave_up, lost_seats}
use Rattle.front_conn.specs.package.steps.Packages.{AsksSo, IsPlanned, PackageView, answers_of, begun, new_package}
use Rattle.front_conn.specs.package.steps.Turns.{GoesOn, HadTurn, HasTurned, HaveTurned, IsPackageTurn, Plans, TakesTurn, all_done, no_round}
use Rattle.front_conn_seats.specs.steps.Seats.{AreHeld, AreOut, AreOutOf, DoesItsTask, IsHeld, held_at, held_in, no_seat}
use Rattle.front_conn_seats.proofs.PoolLemmas.{lost-seat-out, out-as}
use Rattle.front_conn_seats.proofs.LegLemmas.{gave-up, turn-keeps}

-- ---- seats that are held here and there

-- beside others
abbrev pub beside : (Seat → ℕ) → (Seat → ℕ) → Seat → ℕ
beside held others seat = held seat + others seat

module _ {S : Type 0} where
  pub of-as : (held others held' others' : Seat → ℕ) (pool : Option (Pool S)) → ((seat : Seat) → held seat + others seat ≡ held' seat + others' seat)
      → AreOutOf held others pool → AreOutOf held' others' pool
  of-as held others held' others' None same h = absurd h
  of-as held others held' others' (Some pool) same h = out-as held others held' others' pool same h

  abbrev pub Tasks : List (LegView S) → Type 0
  Tasks legs = AllByRecursion (λ (leg : LegView S). DoesItsTask leg.phase leg.task) legs

  pub first-seat : (leg : LegView S) (legs : List (LegView S)) (seat : Seat) → held_in (leg ∷ legs) seat ≡ held_at (seat_of leg.phase) seat + held_in legs seat
  first-seat leg legs seat = sum_by-cons (λ (l : LegView S). held_at (seat_of l.phase) seat) leg legs

  both-seats : (front legs : List (LegView S)) (seat : Seat) → held_in (front ++ legs) seat ≡ held_in front seat + held_in legs seat
  both-seats front legs seat = sum_by-append (λ (l : LegView S). held_at (seat_of l.phase) seat) front legs

  -- ---- one leg of them

  -- the first, beside the others
  first-held : (leg : LegView S) (legs : List (LegView S)) (others : Seat → ℕ) (pool : Option (Pool S)) → AreHeld (leg ∷ legs) others pool
      → IsHeld leg.phase leg.task (beside (held_in legs) others) pool
  first-held leg legs others pool h = record {
    tasks = h.tasks.0;
    out = of-as (held_in (leg ∷ legs)) others (held_at (seat_of leg.phase)) (beside (held_in legs) others) pool
        (λ seat. let e = first-seat leg legs seat in omega (arith, e)) h.out;
  }

  -- the others, beside the first
  rest-held : (leg : LegView S) (legs : List (LegView S)) (others : Seat → ℕ) (pool : Option (Pool S)) → Tasks legs
      → IsHeld leg.phase leg.task (beside (held_in legs) others) pool → AreHeld legs (beside (held_at (seat_of leg.phase)) others) pool
  rest-held leg legs others pool does h = record {
    tasks = does;
    out = of-as (held_at (seat_of leg.phase)) (beside (held_in legs) others) (held_in legs) (beside (held_at (seat_of leg.phase)) others) pool
        (λ seat. omega arith) h.out;
  }

  -- all of them
  all-held : (leg : LegView S) (legs : List (LegView S)) (others : Seat → ℕ) (pool : Option (Pool S)) → DoesItsTask leg.phase leg.task
      → AreHeld legs (beside (held_at (seat_of leg.phase)) others) pool → AreHeld (leg ∷ legs) others pool
  all-held leg legs others pool does h = record {
    tasks = (does, h.tasks);
    out = of-as (held_in legs) (beside (held_at (seat_of leg.phase)) others) (held_in (leg ∷ legs)) others pool
        (λ seat. let e = first-seat leg legs seat in omega (arith, e)) h.out;
  }

  -- ---- two parts

  front-tasks : (front legs : List (LegView S)) → Tasks (front ++ legs) → Tasks front
  front-tasks [] legs h = tt
  front-tasks (leg ∷ front) legs h = (h.0, front-tasks front legs h.1)

  back-tasks : (front legs : List (LegView S)) → Tasks (front ++ legs) → Tasks legs
  back-tasks [] legs h = h
  back-tasks (leg ∷ front) legs h = back-tasks front legs h.1

  both-tasks : (front legs : List (LegView S)) → Tasks front → Tasks legs → Tasks (front ++ legs)
  both-tasks [] legs h k = k
  both-tasks (leg ∷ front) legs h k = (h.0, both-tasks front legs h.1 k)

  front-held : (front legs : List (LegView S)) (others : Seat → ℕ) (pool : Option (Pool S)) → AreHeld (front ++ legs) others pool
      → AreHeld front (beside (held_in legs) others) pool
  front-held front legs others pool h = record {
    tasks = front-tasks front legs h.tasks;
    out = of-as (held_in (front ++ legs)) others (held_in front) (beside (held_in legs) others) pool
        (λ seat. let e = both-seats front legs seat in omega (arith, e)) h.out;
  }

  back-held : (front legs : List (LegView S)) (others : Seat → ℕ) (pool : Option (Pool S)) → AreHeld (front ++ legs) others pool
      → AreHeld legs (beside (held_in front) others) pool
  back-held front legs others pool h = record {
    tasks = back-tasks front legs h.tasks;
    out = of-as (held_in (front ++ legs)) others (held_in legs) (beside (held_in front) others) pool
        (λ seat. let e = both-seats front legs seat in omega (arith, e)) h.out;
  }

  behind-front : (front legs : List (LegView S)) (others : Seat → ℕ) (pool : Option (Pool S)) → Tasks front
      → AreHeld legs (beside (held_in front) others) pool → AreHeld (front ++ legs) others pool
  behind-front front legs others pool does h = record {
    tasks = both-tasks front legs does h.tasks;
    out = of-as (held_in legs) (beside (held_in front) others) (held_in (front ++ legs)) others pool
        (λ seat. let e = both-seats front legs seat in omega (arith, e)) h.out;
  }

  before-back : (front legs : List (LegView S)) (others : Seat → ℕ) (pool : Option (Pool S)) → Tasks legs
      → AreHeld front (beside (held_in legs) others) pool → AreHeld (front ++ legs) others pool
  before-back front legs others pool does h = record {
    tasks = both-tasks front legs h.tasks does;
    out = of-as (held_in front) (beside (held_in legs) others) (held_in (front ++ legs)) others pool
        (λ seat. let e = both-seats front legs seat in omega (arith, e)) h.out;
  }

  -- ---- legs that hold none

  -- legs that do their tasks and hold nothing
  pub record HoldNone (legs : List (LegView S)) : Type 0 where
    pub tasks : Tasks legs
    pub none : (seat : Seat) → held_in legs seat ≡ 0

  pub no-legs : HoldNone []
  no-legs = record { tasks = tt; none = λ seat. refl }

  pub begun-none : (asked : List Asked) → HoldNone (map begun asked)
  begun-none [] = no-legs
  begun-none (ask ∷ asked) = record {
    tasks = (tt, (begun-none asked).tasks);
    none = λ seat. let e = first-seat (begun ask) (map begun asked) seat in let rest = (begun-none asked).none seat in omega (arith, e, rest);
  }

  pub gave-none : (legs : List (LegView S)) → HoldNone (map gave_up legs)
  gave-none [] = no-legs
  gave-none (leg ∷ legs) =
      let k = gave-up leg.task leg.phase in
      record {
        tasks = (k.does, (gave-none legs).tasks);
        none = λ seat.
            let e = first-seat (gave_up leg) (map gave_up legs) seat in
            let rest = (gave-none legs).none seat in
            let own : held_at (seat_of (gave_up leg).phase) seat ≡ 0 = ap (λ o. held_at o seat) k.seat in
            omega (arith, e, rest, own);
      }

  pub append-none : (front legs : List (LegView S)) → HoldNone front → HoldNone legs → HoldNone (front ++ legs)
  append-none front legs h k = record {
    tasks = both-tasks front legs h.tasks k.tasks;
    none = λ seat. let e = both-seats front legs seat in let a = h.none seat in let b = k.none seat in omega (arith, e, a, b);
  }

  -- where legs hold none, all that is out is out for others
  pub none-held : (legs : List (LegView S)) (others : Seat → ℕ) (pool : Option (Pool S)) → HoldNone legs → AreOutOf no_seat others pool
      → AreHeld legs others pool
  none-held legs others pool n h = record {
    tasks = n.tasks;
    out = of-as no_seat others (held_in legs) others pool (λ seat. let e = n.none seat in omega (arith, e)) h;
  }

  pub held-none : (legs : List (LegView S)) (others : Seat → ℕ) (pool : Option (Pool S)) → HoldNone legs → AreHeld legs others pool
      → AreOutOf no_seat others pool
  held-none legs others pool n h =
      of-as (held_in legs) others no_seat others pool (λ seat. let e = n.none seat in omega (arith, e)) h.out

  -- ---- legs that are given up

  lost-out : (legs : List (LegView S)) (others : Seat → ℕ) (p : Pool S) → AreHeld legs others (Some p) → AreOut no_seat others (lost_seats legs p)
  lost-out [] others p h = out-as (held_in {S = S} []) others no_seat others p (λ seat. refl) h.out
  lost-out (leg ∷ legs) others p h =
      lost-out legs others (lost_seat (seat_of leg.phase) p) (record {
        tasks = h.tasks.1;
        out = out-as no_seat (beside (held_in legs) others) (held_in legs) others (lost_seat (seat_of leg.phase) p) (λ seat. omega arith)
            (lost-seat-out (seat_of leg.phase) (beside (held_in legs) others) p (first-held leg legs others (Some p) h).out);
      })

  pub seats-lost : (legs : List (LegView S)) (others : Seat → ℕ) (before : Option (Pool S)) → AreHeld legs others before
      → AreOutOf no_seat others (option_map (lost_seats legs) before)
  seats-lost legs others None h = absurd h.out
  seats-lost legs others (Some p) h = lost-out legs others p h

  pub package-gives-back : (view : PackageView S) (before behind : Option (Pool S)) (others : Seat → ℕ)
      → behind ≡ option_map (lost_seats (view.first ++ view.later)) before → AreHeld (view.first ++ view.later) others before
      → AreHeld ((gave_all_up view).first ++ (gave_all_up view).later) others behind × AreOutOf no_seat others behind
  package-gives-back view before behind others e h =
      let there = subst (λ (q : Option (Pool S)). AreOutOf no_seat others q) (sym e) (seats-lost (view.first ++ view.later) others before h) in (
        none-held (map gave_up view.first ++ map gave_up view.later) others behind
            (append-none (map gave_up view.first) (map gave_up view.later) (gave-none view.first) (gave-none view.later)) there,
        there,
      )

  -- ---- a package that is begun

  pub new-none : (route : Route) (work : Work) → HoldNone ((new_package {S = S} route work).first ++ (new_package {S = S} route work).later)
  new-none route work = append-none (map begun (first_asked route work)) [] (begun-none (first_asked route work)) no-legs

-- ---- the turns of legs

module _ {W S : Type 0} (w : world.Ghosts W) (t : sitting.Ghosts S W) (exact : Bool) (route : Route) (now : ℕ) where
  had-held : (old new : LegView S) (answer : Turned) (door after : DoorView S) (backend moved : BackendView) (others : Seat → ℕ)
      → HadTurn w t exact route now old new answer door after backend moved
      → IsHeld old.phase old.task others door.pool → IsHeld new.phase new.task others after.pool
  had-held old new answer door after backend moved others h held =
      subst (λ (task : Task). IsHeld new.phase task others after.pool) (sym h.task)
      (turn-keeps w t exact (terms_of route old.login old.leg) old.task now old.phase new.phase old.account new.account answer door after backend moved
      others h.law held)

  turned-held : (done : Bool) (old new : LegView S) (round next : Round) (door after : DoorView S) (backend moved : BackendView) (others : Seat → ℕ)
      → HasTurned w t exact route now done old new round next door after backend moved
      → IsHeld old.phase old.task others door.pool → IsHeld new.phase new.task others after.pool
  turned-held true old new round next door after backend moved others h held =
      subst (λ (v : LegView S). IsHeld v.phase v.task others after.pool) (sym h.0)
      (subst (λ (d : DoorView S). IsHeld old.phase old.task others d.pool) (sym h.2) held)
  turned-held false old new round next door after backend moved others h held = had-held old new h.0 door after backend moved others h.2 held

  pub legs-held : (olds news : List (LegView S)) (round last : Round) (door after : DoorView S) (backend moved : BackendView) (others : Seat → ℕ)
      → HaveTurned w t exact route now olds news round last door after backend moved
      → AreHeld olds others door.pool → AreHeld news others after.pool
  legs-held [] [] round last door after backend moved others h held =
      subst (λ (d : DoorView S). AreHeld [] others d.pool) (sym h.1) held
  legs-held [] (new ∷ news) round last door after backend moved others h held = absurd h
  legs-held (old ∷ olds) [] round last door after backend moved others h held = absurd h
  legs-held (old ∷ olds) (new ∷ news) round last door after backend moved others h held =
      let first = turned-held (is_done old.phase) old new round h.next door h.between backend h.amid (beside (held_in olds) others) h.turned
      (first-held old olds others door.pool held) in
      all-held new news others after.pool first.tasks
      (legs-held olds news h.next last h.between after h.amid moved (beside (held_at (seat_of new.phase)) others) h.others
      (rest-held new olds others h.between.pool held.tasks.1 first))

  -- ---- the turn of a package

  planned-none : (new : PackageView S) (answer : Turned) → Plans route new answer → HoldNone new.later
  planned-none new turned.Memory h = subst (λ (ls : List (LegView S)). HoldNone ls) (sym h.later) no-legs
  planned-none new turned.Went h = subst (λ (ls : List (LegView S)). HoldNone ls) (sym h.0.later) (begun-none (then_asked_by route new.work (answers_of new.first)))
  planned-none new turned.NotYet h = subst (λ (ls : List (LegView S)). HoldNone ls) (sym h.0.later) (begun-none (then_asked_by route new.work (answers_of new.first)))
  planned-none new turned.Done h = subst (λ (ls : List (LegView S)). HoldNone ls) (sym h.0.later) (begun-none (then_asked_by route new.work (answers_of new.first)))

  goes-none : (over : Bool) (new : PackageView S) (round : Round) (answer : Turned) → GoesOn w t exact route now over new round answer → HoldNone new.later
  goes-none false new round answer h = subst (λ (ls : List (LegView S)). HoldNone ls) (sym h.0.later) no-legs
  goes-none true new round answer h = planned-none new answer h

  -- legs that hold none stand beside
  with-none : (front legs : List (LegView S)) (others : Seat → ℕ) (pool : Option (Pool S)) → HoldNone legs
      → AreHeld front others pool → AreHeld (front ++ legs) others pool
  with-none front legs others pool n h =
      before-back front legs others pool n.tasks (record {
        tasks = h.tasks;
        out = of-as (held_in front) others (held_in front) (beside (held_in legs) others) pool (λ seat. let e = n.none seat in omega (arith, e)) h.out;
      })

  without-none : (front : List (LegView S)) (others : Seat → ℕ) (pool : Option (Pool S)) → AreHeld (front ++ []) others pool → AreHeld front others pool
  without-none front others pool h =
      let held = front-held front [] others pool h in
      record {
        tasks = held.tasks;
        out = of-as (held_in front) (beside (held_in {S = S} []) others) (held_in front) others pool (λ seat. omega arith) held.out;
      }

  turn-by : (planned : Bool) (old new : PackageView S) (answer : Turned) (round : Round) (door after : DoorView S) (backend moved : BackendView)
      (others : Seat → ℕ) → IsPlanned planned route old → TakesTurn w t exact route now planned old new answer round door after backend moved
      → AreHeld (old.first ++ old.later) others door.pool → AreHeld (new.first ++ new.later) others after.pool
  turn-by false old new answer round door after backend moved others unplanned h held =
      with-none new.first new.later others after.pool (goes-none (all_done new.first) new round answer h.1)
      (legs-held old.first new.first no_round round door after backend moved others h.0
      (without-none old.first others door.pool
      (subst (λ (ls : List (LegView S)). AreHeld (old.first ++ ls) others door.pool) unplanned held)))
  turn-by true old new answer round door after backend moved others planned h held =
      subst (λ (ls : List (LegView S)). AreHeld (ls ++ new.later) others after.pool) (sym h.0)
      (behind-front old.first new.later others after.pool (front-held old.first old.later others door.pool held).tasks
      (legs-held old.later new.later no_round round door after backend moved (beside (held_in old.first) others) h.2
      (back-held old.first old.later others door.pool held)))

  pub package-keeps : (old new : PackageView S) (answer : Turned) (door after : DoorView S) (backend moved : BackendView) (others : Seat → ℕ)
      → AsksSo route old → IsPackageTurn w t exact route now old new answer door after backend moved
      → AreHeld (old.first ++ old.later) others door.pool → AreHeld (new.first ++ new.later) others after.pool
  package-keeps old new answer door after backend moved others asks h held =
      turn-by old.planned old new answer h.round door after backend moved others asks.then h.turns held
