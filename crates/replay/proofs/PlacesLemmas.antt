-- no door is full where fewer legs are in work than there may be sessions of a class
use Rattle.std.proofs.Common.{◌≡◌, ◌∙◌, ℕ, ◌+◌, ◌<◌, ◌≤◌, Bool, true, false, List, [], ◌∷◌, ◌++◌, length, map, Option, None, Some, refl, sym, ap, subst, arith}
use Rattle.std.specs.List.{AllByRecursion}
use Rattle.std.proofs.lemmas.List.Elements.{All-head, All-tail}
use Rattle.std.proofs.lemmas.List.Sums.{sum_by-append, sum_by-cons}
use Rattle.z_types.specs.Counts.{one_more}
use Rattle.z_types.specs.declared.address.Address.{Address}
use Rattle.z_types.specs.declared.key.SetKey.{SetKey}
use Rattle.z_types.specs.declared.sitting.Sitting as sitting
use Rattle.z_types.specs.declared.world.World as world
use Rattle.route_config.specs.declared.route.Route.{Route}
use Rattle.pool_sets.specs.Counts.{DoorCounts, is_full}
use Rattle.pool_sets.specs.Doors.{Takes}
use Rattle.pool_sets.specs.Plain.{Pool, take_of}
use Rattle.pool_sets.specs.declared.doors.Seat.{Seat}
use Rattle.pool_sets.specs.declared.doors.Taken.{Taken}
use Rattle.pool_sets.specs.declared.doors.Taken.TheVariants as taken
use Rattle.package_quiet.specs.leg.Deeds.{BackendView, Deed, door_counts, took, opened, began, heard, put_back, gave_up, redialled, no_memory, nothing}
use Rattle.package_quiet.specs.leg.LegView.{LegView}
use Rattle.package_quiet.specs.leg.Phases.{answered, is_done, seat_of}
use Rattle.package_quiet.specs.leg.Tasks.{want_of}
use Rattle.package_quiet.specs.leg.Terms.{Terms, terms_of}
use Rattle.package_quiet.specs.leg.Turns.{DoorView, IsDue, IsTurn, PoolMoves}
use Rattle.package_quiet.specs.leg.declared.accounts.Account.{Account}
use Rattle.package_quiet.specs.leg.declared.answers.Turned.{Turned}
use Rattle.package_quiet.specs.leg.declared.phases.Phase.{Phase}
use Rattle.package_quiet.specs.leg.declared.phases.Phase.TheVariants.{Begin, Dialling, Dialled, Ready, Searching, Presenting, Fetching, Scanning, Returning, Losing, Redialling, Spoiled, Done, Ended}
use Rattle.package_quiet.specs.leg.declared.tasks.Task.{Task}
use Rattle.package_quiet.specs.package.declared.turning.Round.{Round}
use Rattle.package_quiet.specs.package.steps.Packages.{AreDone, AsksSo, HasFitting, IsPackageOf, IsPlanned, PackageView, answers_of, asked_of}
use Rattle.package_quiet.specs.package.steps.Turns.{HadTurn, HasTurned, HaveTurned, IsPackageTurn, TakesTurn, no_round}
use Rattle.package_quiet.specs.package_rules.Asked.{Asked, first_asked}
use Rattle.package_quiet.specs.package_rules.Planned.{legs_named, then_asked_by}
use Rattle.std.proofs.lemmas.List.{length-map}
use Rattle.front_conn_costs.specs.front_conn.declared.stepped.Stepped.{Stepped}
use Rattle.front_conn_costs.specs.front_conn.steps.Answering.{Outside, legs_in}
use Rattle.front_conn_costs.specs.front_conn.steps.States.{ConnectionState, IsConnOf}
use Rattle.front_conn_costs.specs.front_conn.steps.Steps.{IsStepped, IsStepFrom}
use Rattle.z_types.specs.declared.marks.End.{End}
use Rattle.front_conn_seats.specs.steps.Seats.{AreHeldOn}
use Rattle.std.specs.Prelude.{IfSome}
use Rattle.front_conn_seats.specs.steps.Laws.{TurnsKeepSeats}
use Rattle.front_conn_seats.specs.steps.Seats.{AreHeld, AreOutOf, DoesItsTask, IsHeld, held_at, held_in}
use Rattle.replay.proofs.AskedLemmas.{first-named, then-named}
use Rattle.replay.proofs.FullLemmas.{IsToldFull, turn_full}
use Rattle.replay.proofs.RoomLemmas.{AtMost, held-outs, legs-most, most-both, most-less, most-upto, outs, own-most, take-out}

-- ---- a take

module _ {S : Type 0} (class : ℕ) (at : List Address) (login : Option (List ℕ)) (want : Option SetKey) (now : ℕ) where
  not-full : (p q : Pool S) (said : Taken S) (n : ℕ) → Takes (Some p) (Some q) class at login want now said → outs p.sessions ≤ n → n < p.max_sessions
      → is_full said ≡ false
  not-full p q (taken.Reuse seat parts slot hits) n h few less = refl
  not-full p q (taken.Fresh seat parts) n h few less = refl
  not-full p q (taken.Dial seat member) n h few less = refl
  not-full p q taken.Memory n h few less = refl
  not-full p q (taken.Full open_) n h few less =
      let is : is_full (take_of class at login want now p).0 ≡ true = ap (λ (r : Taken S × Pool S). is_full r.0) (sym h) in
      let much = take-out class at login want now p is in
      absurd (omega (arith, few, less, much))

  took-room : (p q : Option (Pool S)) (said : Taken S) (c : DoorCounts) (held others : Seat → ℕ) (n : ℕ) → Takes p q class at login want now said
      → AreOutOf held others p → ((seat : Seat) → held seat ≡ 0) → IsToldFull p c → AtMost others n → n < c.most
      → one_more (is_full said) c.fulls ≡ c.fulls
  took-room None q said c held others n h out none told most less = absurd out
  took-room (Some p) None said c held others n h out none told most less = absurd h
  took-room (Some p) (Some q) said c held others n h out none told most less =
      let same = told.most in
      ap (λ (b : Bool). one_more b c.fulls)
      (not-full p q said n h (held-outs p held others n out none most) (omega (arith, less, same)))

-- ---- a turn of a leg

module _ {W S : Type 0} (w : world.Ghosts W) (t : sitting.Ghosts S W) (terms : Terms) (task : Task) (now : ℕ) where
  -- a leg that takes a session holds none
  took-none : (most : ℕ) (phase : Phase S) (said : Taken S) → IsDue w t terms most task phase (took said) → seat_of phase ≡ None
  took-none most Begin said due = refl
  took-none most (Dialling seat member) said due = absurd due
  took-none most (Dialled held looks) said due = absurd due
  took-none most (Ready held items) said due = absurd due
  took-none most (Searching held items slot looks) said due = absurd due
  took-none most (Presenting held items slot hits) said due = absurd due
  took-none most (Fetching held items slot hits looks) said due = absurd due
  took-none most (Scanning held looks) said due = absurd due
  took-none most (Returning held own) said due = absurd due
  took-none most (Losing seat own) said due = absurd due
  took-none most (Redialling seat) said due = absurd due
  took-none most (Spoiled seat) said due = absurd due
  took-none most (Done own) said due = absurd due
  took-none most Ended said due = absurd due

  deed-room : (old : Phase S) (deed : Deed S) (p q : Option (Pool S)) (c : DoorCounts) (others : Seat → ℕ) (n : ℕ)
      → IsDue w t terms c.most task old deed → PoolMoves terms task now old deed p q → IsHeld old task others p → IsToldFull p c
      → AtMost others n → n < c.most → (door_counts (want_of task) deed c).fulls ≡ c.fulls
  deed-room old (took said) p q c others n due moves held told most less =
      took-room terms.class terms.at terms.login (want_of task) now p q said c (held_at (seat_of old)) others n moves held.out
      (λ seat. ap (λ (own : Option Seat). held_at own seat) (took-none c.most old said due)) told most less
  deed-room old (opened made) p q c others n due moves held told most less = refl
  deed-room old (began asked said session) p q c others n due moves held told most less = refl
  deed-room old (heard reply session) p q c others n due moves held told most less = refl
  deed-room old put_back p q c others n due moves held told most less = refl
  deed-room old gave_up p q c others n due moves held told most less = refl
  deed-room old (redialled member) p q c others n due moves held told most less = refl
  deed-room old no_memory p q c others n due moves held told most less = refl
  deed-room old nothing p q c others n due moves held told most less = refl

  pub turn-room : (exact : Bool) (old new : Phase S) (a b : Account) (answer : Turned) (door after : DoorView S) (backend moved : BackendView)
      (others : Seat → ℕ) (n : ℕ) → IsTurn w t exact terms task now old new a b answer door after backend moved
      → IsHeld old task others door.pool → IsToldFull door.pool door.counts → AtMost others n → n < door.counts.most
      → after.counts.fulls ≡ door.counts.fulls
  turn-room exact old new a b answer door after backend moved others n h held told most less =
      ap (λ (c : DoorCounts). c.fulls) h.door_counts
      ∙ deed-room old h.deed door.pool after.pool door.counts others n h.due h.pool held told most less

-- ---- legs, one after another

-- a door was not full, and what it tells is kept
pub record FoundRoom {S : Type 0} (door after : DoorView S) : Type 0 where
  pub fulls : after.counts.fulls ≡ door.counts.fulls
  pub most : after.counts.most ≡ door.counts.most
  pub told : IsToldFull after.pool after.counts

pub no-room-lost : {S : Type 0} (door : DoorView S) → IsToldFull door.pool door.counts → FoundRoom door door
no-room-lost door told = record { fulls = refl; most = refl; told = told }

pub room-on : {S : Type 0} (door mid after : DoorView S) → FoundRoom door mid → FoundRoom mid after → FoundRoom door after
room-on door mid after one other = record { fulls = other.fulls ∙ one.fulls; most = other.most ∙ one.most; told = other.told }

abbrev pub beside : (Seat → ℕ) → (Seat → ℕ) → Seat → ℕ
beside held others seat = held seat + others seat

module _ {S : Type 0} where
  pub out-as : (held others held' others' : Seat → ℕ) (pool : Option (Pool S)) → ((seat : Seat) → held seat + others seat ≡ held' seat + others' seat)
      → AreOutOf held others pool → AreOutOf held' others' pool
  out-as held others held' others' None same h = absurd h
  out-as held others held' others' (Some pool) same h =
      record { ascend = h.ascend; each = λ seat. (let e = h.each seat in let f = same seat in omega (arith, e, f)) }

  pub first-seat : (leg : LegView S) (legs : List (LegView S)) (seat : Seat)
      → held_in (leg ∷ legs) seat ≡ held_at (seat_of leg.phase) seat + held_in legs seat
  first-seat leg legs seat = sum_by-cons (λ (l : LegView S). held_at (seat_of l.phase) seat) leg legs

  first-held : (leg : LegView S) (legs : List (LegView S)) (others : Seat → ℕ) (pool : Option (Pool S)) → AreHeld (leg ∷ legs) others pool
      → IsHeld leg.phase leg.task (beside (held_in legs) others) pool
  first-held leg legs others pool h = record {
    tasks = h.tasks.0;
    out = out-as (held_in (leg ∷ legs)) others (held_at (seat_of leg.phase)) (beside (held_in legs) others) pool
        (λ seat. let e = first-seat leg legs seat in omega (arith, e)) h.out;
  }

  rest-held : (leg : LegView S) (legs : List (LegView S)) (others : Seat → ℕ) (pool : Option (Pool S))
      → AllByRecursion (λ (l : LegView S). DoesItsTask l.phase l.task) legs
      → IsHeld leg.phase leg.task (beside (held_in legs) others) pool → AreHeld legs (beside (held_at (seat_of leg.phase)) others) pool
  rest-held leg legs others pool does h = record {
    tasks = does;
    out = out-as (held_at (seat_of leg.phase)) (beside (held_in legs) others) (held_in legs) (beside (held_at (seat_of leg.phase)) others) pool
        (λ seat. omega arith) h.out;
  }

module _ {W S : Type 0} (w : world.Ghosts W) (t : sitting.Ghosts S W) (exact : Bool) (route : Route) (now : ℕ) (law : TurnsKeepSeats w t) where
  leg-room : (old new : LegView S) (answer : Turned) (door after : DoorView S) (backend moved : BackendView) (others : Seat → ℕ) (n : ℕ)
      → HadTurn w t exact route now old new answer door after backend moved → IsHeld old.phase old.task others door.pool
      → IsToldFull door.pool door.counts → AtMost others n → n < door.counts.most
      → FoundRoom door after × IsHeld new.phase new.task others after.pool
  leg-room old new answer door after backend moved others n h held told most less = (
    record {
      fulls = turn-room w t (terms_of route old.login old.leg) old.task now exact old.phase new.phase old.account new.account answer door after backend moved
          others n h.law held told most less;
      most = ap (λ (c : DoorCounts). c.most) h.law.door_counts ∙ same-most h.law.deed;
      told = turn_full w t exact (terms_of route old.login old.leg) old.task now old.phase new.phase old.account new.account answer door after backend moved
          h.law told;
    },
    subst (λ (task : Task). IsHeld new.phase task others after.pool) (sym h.task)
        (law exact (terms_of route old.login old.leg) old.task now old.phase new.phase old.account new.account answer door after backend moved others h.law held),
  )
    where
      same-most : (deed : Deed S) → (door_counts (want_of old.task) deed door.counts).most ≡ door.counts.most
      same-most (took said) = refl
      same-most (opened made) = refl
      same-most (began asked said session) = refl
      same-most (heard reply session) = refl
      same-most put_back = refl
      same-most gave_up = refl
      same-most (redialled member) = refl
      same-most no_memory = refl
      same-most nothing = refl

  one-room : (done : Bool) (old new : LegView S) (round next : Round) (door after : DoorView S) (backend moved : BackendView) (others : Seat → ℕ)
      (n : ℕ) → HasTurned w t exact route now done old new round next door after backend moved → IsHeld old.phase old.task others door.pool
      → IsToldFull door.pool door.counts → AtMost others n → n < door.counts.most
      → FoundRoom door after × IsHeld new.phase new.task others after.pool
  one-room true old new round next door after backend moved others n h held told most less =
      subst (λ (v : LegView S). FoundRoom door after × IsHeld v.phase v.task others after.pool) (sym h.0)
      (subst (λ (d : DoorView S). FoundRoom door d × IsHeld old.phase old.task others d.pool) (sym h.2)
      (record { fulls = refl; most = refl; told = told }, held))
  one-room false old new round next door after backend moved others n h held told most less =
      leg-room old new h.0 door after backend moved others n h.2 held told most less

  pub legs-room : (olds news : List (LegView S)) (round last : Round) (door after : DoorView S) (backend moved : BackendView)
      (others : Seat → ℕ) (n : ℕ) → HaveTurned w t exact route now olds news round last door after backend moved
      → AreHeld olds others door.pool → IsToldFull door.pool door.counts → AtMost others n → n + length olds ≤ door.counts.most
      → FoundRoom door after
  legs-room [] [] round last door after backend moved others n h held told most less =
      subst (λ (d : DoorView S). FoundRoom door d) (sym h.1) (record { fulls = refl; most = refl; told = told })
  legs-room [] (new ∷ news) round last door after backend moved others n h held told most less = absurd h
  legs-room (old ∷ olds) [] round last door after backend moved others n h held told most less = absurd h
  legs-room (old ∷ olds) (new ∷ news) round last door after backend moved others n h held told most less =
      let one = one-room (is_done old.phase) old new round h.next door h.between backend h.amid (beside (held_in olds) others) (length olds + n)
      h.turned (first-held old olds others door.pool held) told (most-both (held_in olds) others (length olds) n (legs-most olds) most)
      (omega (arith, less)) in
      let same = one.0.most in
      let rest = legs-room olds news h.next last h.between after h.amid moved (beside (held_at (seat_of new.phase)) others) (1 + n) h.others
      (rest-held new olds others h.between.pool held.tasks.1 one.1) one.0.told
      (most-both (held_at (seat_of new.phase)) others 1 n (own-most (seat_of new.phase)) most) (omega (arith, less, same)) in
      room-on door h.between after one.0 rest

-- ---- the legs of a request

module _ {S : Type 0} where
  -- a leg that is done holds none
  done-none : (task : Task) (phase : Phase S) → HasFitting task (answered phase) → seat_of phase ≡ None
  done-none task Begin h = absurd h
  done-none task (Dialling seat member) h = absurd h
  done-none task (Dialled held looks) h = absurd h
  done-none task (Ready held items) h = absurd h
  done-none task (Searching held items slot looks) h = absurd h
  done-none task (Presenting held items slot hits) h = absurd h
  done-none task (Fetching held items slot hits looks) h = absurd h
  done-none task (Scanning held looks) h = absurd h
  done-none task (Returning held own) h = absurd h
  done-none task (Losing seat own) h = absurd h
  done-none task (Redialling seat) h = absurd h
  done-none task (Spoiled seat) h = absurd h
  done-none task (Done own) h = refl
  done-none task Ended h = absurd h

  abbrev IsDone_ : LegView S → Type 0
  IsDone_ leg = HasFitting leg.task (answered leg.phase)

  pub done-hold : (legs : List (LegView S)) → AreDone legs → (seat : Seat) → held_in legs seat ≡ 0
  done-hold [] h seat = refl
  done-hold (leg ∷ legs) h seat =
      let all = first-seat leg legs seat in
      let own : ◌≡◌ {A = ℕ} (held_at (seat_of leg.phase) seat) 0 =
      ap (λ (o : Option Seat). held_at o seat) (done-none leg.task leg.phase (All-head IsDone_ leg legs h)) in
      let rest = done-hold legs (All-tail IsDone_ leg legs h) seat in
      omega (arith, all, own, rest)

  pub both-seats : (front legs : List (LegView S)) (seat : Seat) → held_in (front ++ legs) seat ≡ held_in front seat + held_in legs seat
  both-seats front legs seat = sum_by-append (λ (l : LegView S). held_at (seat_of l.phase) seat) front legs

  abbrev Tasks : List (LegView S) → Type 0
  Tasks legs = AllByRecursion (λ (l : LegView S). DoesItsTask l.phase l.task) legs

  front-tasks : (front legs : List (LegView S)) → Tasks (front ++ legs) → Tasks front
  front-tasks [] legs h = tt
  front-tasks (leg ∷ front) legs h = (h.0, front-tasks front legs h.1)

  back-tasks : (front legs : List (LegView S)) → Tasks (front ++ legs) → Tasks legs
  back-tasks [] legs h = h
  back-tasks (leg ∷ front) legs h = back-tasks front legs h.1

  front-alone : (front legs : List (LegView S)) (others : Seat → ℕ) (pool : Option (Pool S)) → ((seat : Seat) → held_in legs seat ≡ 0)
      → AreHeld (front ++ legs) others pool → AreHeld front others pool
  front-alone front legs others pool none h = record {
    tasks = front-tasks front legs h.tasks;
    out = out-as (held_in (front ++ legs)) others (held_in front) others pool
        (λ seat. let e = both-seats front legs seat in let z = none seat in omega (arith, e, z)) h.out;
  }

  back-alone : (front legs : List (LegView S)) (others : Seat → ℕ) (pool : Option (Pool S)) → ((seat : Seat) → held_in front seat ≡ 0)
      → AreHeld (front ++ legs) others pool → AreHeld legs others pool
  back-alone front legs others pool none h = record {
    tasks = back-tasks front legs h.tasks;
    out = out-as (held_in (front ++ legs)) others (held_in legs) others pool
        (λ seat. let e = both-seats front legs seat in let z = none seat in omega (arith, e, z)) h.out;
  }

  -- they are as many as the work of a request names at most
  abbrev pub legs_asked : PackageView S → ℕ
  legs_asked view = length (legs_named view.work)

  -- a request in work has so many at most
  abbrev pub IsUpTo : (limit : ℕ) → ConnectionState S → Type 0
  IsUpTo limit conn = (view : PackageView S) → conn.end ≡ None → conn.in_work ≡ Some view → legs_asked view ≤ limit

  few-legs : (legs : List (LegView S)) (asked : List Asked) (n : ℕ) → map asked_of legs ≡ asked → length asked ≤ n → length legs ≤ n
  few-legs legs asked n e few =
      let all : length legs ≡ length asked = sym (length-map legs asked_of) ∙ ap (λ (a : List Asked). length a) e in omega (arith, all, few)

  first-few : (route : Route) (view : PackageView S) → AsksSo route view → length view.first ≤ legs_asked view
  first-few route view asks =
      few-legs view.first (first_asked route view.work) (legs_asked view) asks.at_first (first-named route view.work)

  later-few : (route : Route) (view : PackageView S) → map asked_of view.later ≡ then_asked_by route view.work (answers_of view.first)
      → length view.later ≤ legs_asked view
  later-few route view then =
      few-legs view.later (then_asked_by route view.work (answers_of view.first)) (legs_asked view) then
      (then-named route view.work (answers_of view.first))

  -- the legs of a request hold no more seats than its work names legs
  holds-by : (planned : Bool) (route : Route) (view : PackageView S) → AsksSo route view → IsPlanned planned route view
      → AtMost (held_in (view.first ++ view.later)) (legs_asked view)
  holds-by false route view asks later =
      most-upto (held_in (view.first ++ view.later)) (length view.first) (legs_asked view) (first-few route view asks)
      (most-less (held_in (view.first ++ view.later)) (held_in view.first) (length view.first)
      (λ seat. (let e = both-seats view.first view.later seat in
      let none : held_in view.later seat ≡ 0 = ap (λ (ls : List (LegView S)). held_in ls seat) later in omega (arith, e, none)))
      (legs-most view.first))
  holds-by true route view asks then =
      most-upto (held_in (view.first ++ view.later)) (length view.later) (legs_asked view) (later-few route view then.1)
      (most-less (held_in (view.first ++ view.later)) (held_in view.later) (length view.later)
      (λ seat. (let e = both-seats view.first view.later seat in let none = done-hold view.first then.0 seat in omega (arith, e, none)))
      (legs-most view.later))

  pub holds-few : (route : Route) (view : PackageView S) → AsksSo route view → AtMost (held_in (view.first ++ view.later)) (legs_asked view)
  holds-few route view asks = holds-by view.planned route view asks asks.then

module _ {W S : Type 0} (w : world.Ghosts W) (t : sitting.Ghosts S W) (exact : Bool) (route : Route) (now : ℕ) (law : TurnsKeepSeats w t) where
  package-by : (planned : Bool) (view next : PackageView S) (answer : Turned) (round : Round) (door after : DoorView S) (backend moved : BackendView)
      (others : Seat → ℕ) (n : ℕ) → AsksSo route view → IsPlanned planned route view
      → TakesTurn w t exact route now planned view next answer round door after backend moved
      → AreHeld (view.first ++ view.later) others door.pool → IsToldFull door.pool door.counts → AtMost others n
      → n + legs_asked view ≤ door.counts.most → FoundRoom door after
  package-by false view next answer round door after backend moved others n asks later h held told most less =
      let few = first-few route view asks in
      legs-room w t exact route now law view.first next.first no_round round door after backend moved others n h.0
      (front-alone view.first view.later others door.pool (λ seat. ap (λ (ls : List (LegView S)). held_in ls seat) later) held)
      told most (omega (arith, few, less))
  package-by true view next answer round door after backend moved others n asks then h held told most less =
      let few = later-few route view then.1 in
      legs-room w t exact route now law view.later next.later no_round round door after backend moved others n h.2
      (back-alone view.first view.later others door.pool (done-hold view.first then.0) held) told most (omega (arith, few, less))

  package-room : (view next : PackageView S) (answer : Turned) (door after : DoorView S) (backend moved : BackendView)
      (others : Seat → ℕ) (n : ℕ) → AsksSo route view → IsPackageTurn w t exact route now view next answer door after backend moved
      → AreHeld (view.first ++ view.later) others door.pool → IsToldFull door.pool door.counts → AtMost others n
      → n + legs_asked view ≤ door.counts.most → FoundRoom door after
  package-room view next answer door after backend moved others n asks h held told most less =
      package-by view.planned view next answer h.round door after backend moved others n asks asks.then h.turns held told most less

  -- ---- a step of a connection

  from-room : (end : Option End) (in_work : Option (PackageView S)) (old new : ConnectionState S) (answer : Stepped) (before behind : Outside S)
      (others : Seat → ℕ) (n limit : ℕ) → old.end ≡ end → old.in_work ≡ in_work → IsConnOf w t route before.door.counts.most old
      → IsStepFrom w t exact route now end in_work old new answer before behind → AreHeld (legs_in in_work) others before.door.pool
      → IsToldFull before.door.pool before.door.counts → AtMost others n → IsUpTo limit old → n + limit ≤ before.door.counts.most
      → FoundRoom before.door behind.door
  from-room (Some end) in_work old new answer before behind others n limit e f of h held told most few less =
      subst (λ (o : Outside S). FoundRoom before.door o.door) (sym h.2) (no-room-lost before.door told)
  from-room None None old new answer before behind others n limit e f of h held told most few less =
      subst (λ (o : Outside S). FoundRoom before.door o.door) (sym h.1) (no-room-lost before.door told)
  from-room None (Some view) old new answer before behind others n limit e f of h held told most few less =
      let goes = h.turns in
      let own = few view e f in
      let package_of : IsPackageOf w t route before.door.counts.most view =
      subst (λ (i : Option (PackageView S)). IfSome i (IsPackageOf w t route before.door.counts.most)) f ((of e).in_work) in
      package-room view goes.next goes.turned before.door behind.door before.backend behind.backend others n package_of.asks goes.law held told most
      (omega (arith, own, less))

  pub step-room : (old new : ConnectionState S) (answer : Stepped) (before behind : Outside S) (others : Seat → ℕ) (n limit : ℕ)
      → IsConnOf w t route before.door.counts.most old → IsStepped w t exact route now old new answer before behind
      → AreHeldOn old others before.door.pool → IsToldFull before.door.pool before.door.counts → AtMost others n
      → IsUpTo limit old → n + limit ≤ before.door.counts.most → FoundRoom before.door behind.door
  step-room old new answer before behind others n limit of h held told most few less =
      from-room old.end old.in_work old new answer before behind others n limit refl refl of h held told most few less
