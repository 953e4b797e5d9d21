-- what each turn of a leg keeps, where this holds of what is outside, each step of a connection keeps
use Rattle.std.proofs.Common.{◌≡◌, ◌≢◌, ◌⊎◌, ℕ, Bool, true, false, inl, inr, List, [], ◌∷◌, map, Option, None, Some, Result, Ok, Err, refl, sym, ap, subst}
use Rattle.std.specs.List.{AllByRecursion}
use Rattle.z_types.specs.declared.marks.End.{End}
use Rattle.z_types.specs.declared.memory.Memory.{Memory as NoMemory}
use Rattle.z_types.specs.declared.sitting.Sitting as sitting
use Rattle.z_types.specs.declared.world.World as world
use Rattle.route_config.specs.declared.route.Route.{Route}
use Rattle.front_conn_costs.specs.front_z.declared.units.Begun.{Begun}
use Rattle.front_conn_costs.specs.front_z.declared.units.Begun.TheVariants as begun
use Rattle.package_quiet.specs.leg.Deeds.{BackendView}
use Rattle.package_quiet.specs.leg.LegView.{LegView}
use Rattle.package_quiet.specs.leg.Phases.{is_done}
use Rattle.package_quiet.specs.leg.Turns.{DoorView}
use Rattle.package_quiet.specs.leg.declared.answers.Turned.{Turned}
use Rattle.package_quiet.specs.leg.declared.answers.Turned.TheVariants as turned
use Rattle.package_quiet.specs.package_rules.Asked.{Asked, first_asked}
use Rattle.package_quiet.specs.package.declared.turning.Round.{Round}
use Rattle.package_quiet.specs.package.steps.Packages.{PackageView, new_package}
use Rattle.package_quiet.specs.package.steps.Packages.{begun as leg_begun}
use Rattle.package_quiet.specs.package.steps.Turns.{GoesOn, HadTurn, HasTurned, HaveTurned, IsPackageTurn, Plans, TakesTurn, all_done, no_round}
use Rattle.front_conn_costs.specs.front_sru.declared.begun.Begun as sru_begun
use Rattle.front_conn_costs.specs.front_sru.declared.begun.Begun.TheVariants as get
use Rattle.front_conn_costs.specs.front_sru.declared.state.SruStage.{SruStage}
use Rattle.front_conn_costs.specs.front_sru.declared.state.SruStage.TheVariants as stage
use Rattle.front_conn_costs.specs.front_conn.declared.stepped.Stepped.{Stepped}
use Rattle.front_conn_costs.specs.front_conn.declared.stepped.Stepped.TheVariants.{Idle, NotYet, Went, Memory}
use Rattle.front_conn_costs.specs.front_conn.steps.Answering.{AnsweringState, EndsAt, IsGetEndedIf, IsKeptBehind, IsKeptBehindGet, IsKeptBehindHead, Outside, WorksOn}
use Rattle.front_conn_costs.specs.front_conn.steps.States.{ConnectionState}
use Rattle.front_conn_costs.specs.front_conn.steps.Steps.{EndsByRest, GoesAhead, IsStepped, IsStepFrom, TakesHead, TakesUnit, answering_of}

module _ {S : Type 0} (P : LegView S → Type 0) where
  -- this holds of each leg of a request
  abbrev pub AreKept : PackageView S → Type 0
  AreKept view = AllByRecursion P view.first × AllByRecursion P view.later

  -- and of the request in work, where there is one
  abbrev pub LegsKept : Option (PackageView S) → Type 0
  LegsKept None = Unit {0}
  LegsKept (Some view) = AreKept view

module _ {S : Type 0} (J : DoorView S → BackendView → Type 0) (R : (door after : DoorView S) → (backend moved : BackendView) → Type 0)
    (same : (door : DoorView S) (backend : BackendView) → J door backend → R door door backend backend) where
  -- nothing was called
  unmoved : (door after : DoorView S) (backend moved : BackendView) → J door backend → after ≡ door → moved ≡ backend → R door after backend moved
  unmoved door after backend moved j e f =
      subst (λ (d : DoorView S). R door d backend moved) (sym e)
      (subst (λ (b : BackendView). R door door backend b) (sym f) (same door backend j))

module _ {S : Type 0} (route : Route) (P : LegView S → Type 0) (fresh : (asked : Asked) → P (leg_begun asked)) where
  begun-keep : (asked : List Asked) → AllByRecursion P (map leg_begun asked)
  begun-keep [] = tt
  begun-keep (ask ∷ asked) = (fresh ask, begun-keep asked)

  -- ---- a connection

  at-work : (in_work other : Option (PackageView S)) → in_work ≡ other → LegsKept P other → LegsKept P in_work
  at-work in_work other e kept = subst (λ (v : Option (PackageView S)). LegsKept P v) (sym e) kept

  behind-keeps : (old new : AnsweringState S) (end : Option End) (answer : Begun) → IsKeptBehind route old new end answer → LegsKept P new.in_work
  behind-keeps old new end (begun.Write mark own) h = at-work new.in_work None h.2 tt
  behind-keeps old new end (begun.Work job) h =
      at-work new.in_work (Some (new_package route job)) h.2 (begun-keep (first_asked route job), tt)
  behind-keeps old new end begun.Memory h = absurd h

  head-keeps : (old new : AnsweringState S) (end : Option End) (answer : sru_begun.Begun) → IsKeptBehindHead route old new end answer
      → LegsKept P new.in_work
  head-keeps old new end (get.Write mark own) h = at-work new.in_work None h.2 tt
  head-keeps old new end (get.Work job) h =
      at-work new.in_work (Some (new_package route job)) h.2 (begun-keep (first_asked route job), tt)
  head-keeps old new end get.Memory h = absurd h

  went-keeps : (old new : ConnectionState S) → LegsKept P old.in_work → TakesUnit route old new ⊎ TakesHead route old new ⊎ EndsByRest old new
      → LegsKept P new.in_work
  went-keeps old new kept (inl h) = behind-keeps (answering_of old) (answering_of new) new.end h.begun.answer h.begun.kept
  went-keeps old new kept (inr (inl h)) = head-keeps (answering_of old) (answering_of new) new.end h.taken.answer h.taken.kept
  went-keeps old new kept (inr (inr h)) = at-work new.in_work old.in_work h.in_work kept

  pub ahead-keeps : (old new : ConnectionState S) (answer : Stepped) → LegsKept P old.in_work → GoesAhead route old new answer → LegsKept P new.in_work
  ahead-keeps old new Idle kept h = subst (λ (c : ConnectionState S). LegsKept P c.in_work) (sym h.1) kept
  ahead-keeps old new NotYet kept h = absurd h
  ahead-keeps old new Went kept h = went-keeps old new kept h.2
  ahead-keeps old new Memory kept h = at-work new.in_work None h.unbegun.in_work tt

  on-keeps : (view : PackageView S) (old new : AnsweringState S) → new ≡ record old { in_work = Some view } → AreKept P view → LegsKept P new.in_work
  on-keeps view old new e kept = subst (λ (a : AnsweringState S). LegsKept P a.in_work) (sym e) kept

  -- behind a work no leg is in work, or those of a fetch that is begun are
  got-keeps : (view : PackageView S) (old new : AnsweringState S) (ended : Option End) (answer : sru_begun.Begun)
      → IsKeptBehindGet route view old new ended answer → LegsKept P new.in_work
  got-keeps view old new ended (get.Write mark end) h = at-work new.in_work None h.2 tt
  got-keeps view old new ended (get.Work job) h =
      at-work new.in_work (Some (new_package route job)) h.2 (begun-keep (first_asked route job), tt)
  got-keeps view old new ended get.Memory h = absurd h

  get-keeps : (view : PackageView S) (old new : AnsweringState S) (done : Result (Option End) NoMemory)
      → IsGetEndedIf route view old new done → LegsKept P new.in_work
  get-keeps view old new (Ok ended) h = got-keeps view old new ended h.answer h.kept
  get-keeps view old new (Err memory) h = at-work new.in_work None h.1 tt

  over-keeps : (at_ : SruStage) (view : PackageView S) (old new : AnsweringState S) (done : Result (Option End) NoMemory)
      → EndsAt route at_ view old new done → LegsKept P new.in_work
  over-keeps stage.Idle view old new (Ok ended) h = at-work new.in_work None h.1 tt
  over-keeps stage.Idle view old new (Err memory) h = at-work new.in_work None h.1 tt
  over-keeps (stage.Searching retrieval) view old new done h = get-keeps view old new done h
  over-keeps (stage.Fetching retrieval hits) view old new done h = get-keeps view old new done h

  pub works-keep : (answer : Turned) (view : PackageView S) (old new : AnsweringState S) (said : Stepped) (end : Option End) → AreKept P view
      → WorksOn route answer view old new said end → LegsKept P new.in_work
  works-keep turned.Went view old new said end kept h = on-keeps view old new h.1 kept
  works-keep turned.NotYet view old new said end kept h = on-keeps view old new h.1 kept
  works-keep turned.Done view old new said end kept h = over-keeps old.stage view old new h.done h.ends.went
  works-keep turned.Memory view old new said end kept h = on-keeps view old new h.1 kept

module _ {W S : Type 0} (w : world.Ghosts W) (t : sitting.Ghosts S W) (exact : Bool) (route : Route)
    (P : LegView S → Type 0) (J : DoorView S → BackendView → Type 0) (R : (door after : DoorView S) → (backend moved : BackendView) → Type 0)
    (same : (door : DoorView S) (backend : BackendView) → J door backend → R door door backend backend)
    (then : (door after : DoorView S) (backend moved : BackendView) → R door after backend moved → J after moved)
    (next : (door mid after : DoorView S) (backend amid moved : BackendView) → R door mid backend amid → R mid after amid moved
    → R door after backend moved)
    (fresh : (asked : Asked) → P (leg_begun asked))
    (turn : (now : ℕ) (old new : LegView S) (answer : Turned) (door after : DoorView S) (backend moved : BackendView) → P old → J door backend
    → HadTurn w t exact route now old new answer door after backend moved → P new × R door after backend moved) where
  -- ---- legs

  first-keeps : (now : ℕ) (done : Bool) (old new : LegView S) (round last : Round) (door after : DoorView S) (backend moved : BackendView)
      → P old → J door backend → HasTurned w t exact route now done old new round last door after backend moved → P new × R door after backend moved
  first-keeps now true old new round last door after backend moved p j h =
      (subst (λ (l : LegView S). P l) (sym h.0) p, unmoved J R same door after backend moved j h.2 h.3)
  first-keeps now false old new round last door after backend moved p j h = turn now old new h.0 door after backend moved p j h.2

  legs-keep : (now : ℕ) (olds news : List (LegView S)) (round last : Round) (door after : DoorView S) (backend moved : BackendView)
      → AllByRecursion P olds → J door backend → HaveTurned w t exact route now olds news round last door after backend moved
      → AllByRecursion P news × R door after backend moved
  legs-keep now [] [] round last door after backend moved are j h = (tt, unmoved J R same door after backend moved j h.1 h.2)
  legs-keep now [] (new ∷ news) round last door after backend moved are j h = absurd h
  legs-keep now (old ∷ olds) [] round last door after backend moved are j h = absurd h
  legs-keep now (old ∷ olds) (new ∷ news) round last door after backend moved are j h =
      let one = first-keeps now (is_done old.phase) old new round h.next door h.between backend h.amid are.0 j h.turned in
      let others = legs-keep now olds news h.next last h.between after h.amid moved are.1 (then door h.between backend h.amid one.1) h.others in
      ((one.0, others.0), next door h.between after backend h.amid moved one.1 others.1)

  -- ---- the legs of a request

  none-later : (legs : List (LegView S)) → legs ≡ [] → AllByRecursion P legs
  none-later legs e = subst (λ (ls : List (LegView S)). AllByRecursion P ls) (sym e) tt

  plans-later : (new : PackageView S) (answer : Turned) → Plans route new answer → AllByRecursion P new.later
  plans-later new turned.Memory h = none-later new.later h.later
  plans-later new turned.Went h = subst (λ (ls : List (LegView S)). AllByRecursion P ls) (sym h.0.later) (begun-keep route P fresh _)
  plans-later new turned.NotYet h = subst (λ (ls : List (LegView S)). AllByRecursion P ls) (sym h.0.later) (begun-keep route P fresh _)
  plans-later new turned.Done h = subst (λ (ls : List (LegView S)). AllByRecursion P ls) (sym h.0.later) (begun-keep route P fresh _)

  goes-later : (now : ℕ) (over : Bool) (new : PackageView S) (round : Round) (answer : Turned)
      → GoesOn w t exact route now over new round answer → AllByRecursion P new.later
  goes-later now false new round answer h = none-later new.later h.0.later
  goes-later now true new round answer h = plans-later new answer h

  takes-keep : (now : ℕ) (planned : Bool) (old new : PackageView S) (answer : Turned) (round : Round) (door after : DoorView S)
      (backend moved : BackendView) → AreKept P old → J door backend
      → TakesTurn w t exact route now planned old new answer round door after backend moved
      → AreKept P new × R door after backend moved
  takes-keep now false old new answer round door after backend moved are j h =
      let first = legs-keep now old.first new.first no_round round door after backend moved are.0 j h.0 in
      ((first.0, goes-later now (all_done new.first) new round answer h.1), first.1)
  takes-keep now true old new answer round door after backend moved are j h =
      let later = legs-keep now old.later new.later no_round round door after backend moved are.1 j h.2 in
      ((subst (λ (ls : List (LegView S)). AllByRecursion P ls) (sym h.0) are.0, later.0), later.1)

  pub package-keeps : (now : ℕ) (old new : PackageView S) (answer : Turned) (door after : DoorView S) (backend moved : BackendView)
      → AreKept P old → J door backend → IsPackageTurn w t exact route now old new answer door after backend moved
      → AreKept P new × R door after backend moved
  package-keeps now old new answer door after backend moved are j h =
      takes-keep now old.planned old new answer h.round door after backend moved are j h.turns

-- ---- a step of a connection, which did not run out of memory

-- where a step had memory, so had the turn of the package in work
pub had-memory : {S : Type 0} (route : Route) (said : Turned) (view : PackageView S) (old new : AnsweringState S) (answer : Stepped) (end : Option End)
    → WorksOn route said view old new answer end → answer ≢ Memory → said ≢ turned.Memory
had-memory route turned.Went view old new answer end h had e = absurd cc
had-memory route turned.NotYet view old new answer end h had e = absurd cc
had-memory route turned.Done view old new answer end h had e = absurd cc
had-memory route turned.Memory view old new answer end h had e = had h.0

module _ {W S : Type 0} (w : world.Ghosts W) (t : sitting.Ghosts S W) (exact : Bool) (route : Route)
    (P : LegView S → Type 0) (J : DoorView S → BackendView → Type 0) (R : (door after : DoorView S) → (backend moved : BackendView) → Type 0)
    (same : (door : DoorView S) (backend : BackendView) → J door backend → R door door backend backend)
    (fresh : (asked : Asked) → P (leg_begun asked))
    (turns : (now : ℕ) (old new : PackageView S) (answer : Turned) (door after : DoorView S) (backend moved : BackendView)
    → answer ≢ turned.Memory → AreKept P old → J door backend → IsPackageTurn w t exact route now old new answer door after backend moved
    → AreKept P new × R door after backend moved) where
  from-keeps : (now : ℕ) (end : Option End) (in_work : Option (PackageView S)) (old new : ConnectionState S) (answer : Stepped)
      (before behind : Outside S) → answer ≢ Memory → old.in_work ≡ in_work → LegsKept P old.in_work
      → J before.door before.backend → IsStepFrom w t exact route now end in_work old new answer before behind
      → LegsKept P new.in_work × R before.door behind.door before.backend behind.backend
  from-keeps now (Some end) in_work old new answer before behind had e kept j h = (
    subst (λ (c : ConnectionState S). LegsKept P c.in_work) (sym h.1) kept,
    unmoved J R same before.door behind.door before.backend behind.backend j (ap (λ (o : Outside S). o.door) h.2)
        (ap (λ (o : Outside S). o.backend) h.2),
  )
  from-keeps now None None old new answer before behind had e kept j h = (
    ahead-keeps route P fresh old new answer kept h.0,
    unmoved J R same before.door behind.door before.backend behind.backend j (ap (λ (o : Outside S). o.door) h.1)
        (ap (λ (o : Outside S). o.backend) h.1),
  )
  from-keeps now None (Some view) old new answer before behind had e kept j h =
      let goes = h.turns in
      let all = turns now view goes.next goes.turned before.door behind.door before.backend behind.backend
      (had-memory route goes.turned goes.next (answering_of old) (answering_of new) answer new.end goes.works had)
      (subst (λ (v : Option (PackageView S)). LegsKept P v) e kept) j goes.law in
      (works-keep route P fresh goes.turned goes.next (answering_of old) (answering_of new) answer new.end all.0 goes.works, all.1)

  pub step-keeps : (now : ℕ) (old new : ConnectionState S) (answer : Stepped) (before behind : Outside S) → answer ≢ Memory
      → LegsKept P old.in_work → J before.door before.backend → IsStepped w t exact route now old new answer before behind
      → LegsKept P new.in_work × R before.door behind.door before.backend behind.backend
  step-keeps now old new answer before behind had kept j h = from-keeps now old.end old.in_work old new answer before behind had refl kept j h
