-- The legs of a request over a quiet backend
use Rattle.std.proofs.Common.{◌≡◌, ◌≢◌, ◌∙◌, ◌⊎◌, ◌<◌, ◌≤◌, ℕ, Bool, true, false, if◌then◌else◌, inl, inr, List, [], ◌∷◌, ◌++◌, map, length, get_or, slice_get, Contains, Option, None, Some, refl, sym, ap, subst}
use Rattle.std.specs.Option.{option_map_or}
use Rattle.std.proofs.lemmas.List.Elements.{All-contains, All-nil, Contains-get_or}
use Rattle.std.proofs.lemmas.Option.{slice_get_cases}
use Rattle.std.proofs.lemmas.Bool.{and_parts, or_parts}
use Rattle.z_types.specs.declared.address.Address.{Address}
use Rattle.z_types.specs.declared.sitting.Sitting as sitting
use Rattle.z_types.specs.declared.work.Work.{Work}
use Rattle.z_types.specs.declared.world.World as world
use Rattle.z_types.specs.Under.{under}
use Rattle.route_config.specs.declared.route.Class.{Class}
use Rattle.route_config.specs.declared.route.Route.{Route}
use Rattle.gw_outside.specs.Counts.{Counts}
use Rattle.package.specs.leg.Deeds.{BackendView}
use Rattle.package.specs.leg.LegView.{LegView}
use Rattle.package.specs.leg.Phases.{is_done}
use Rattle.package.specs.leg.Terms.{class_of, sites, terms_of}
use Rattle.package.proofs.leg.Sites.{IsInside, inside_of}
use Rattle.package.specs.leg.Turns.{DoorView}
use Rattle.package.specs.leg.declared.answers.Turned.{Turned}
use Rattle.package.specs.leg.declared.answers.Turned.TheVariants as turned
use Rattle.package.specs.package_rules.Asked.{Asked, first_asked}
use Rattle.package.specs.package_rules.Planned.{then_asked_by}
use Rattle.package.specs.declared.turning.Round.{Round}
use Rattle.package.specs.steps.Packages.{PackageView, answers_of, begun, new_package}
use Rattle.package.specs.steps.Turns.{GoesOn, HasTurned, HaveTurned, IsPackageTurn, Plans, TakesTurn, all_done, is_memory, no_round, round_after}
use Rattle.package_quiet.specs.steps.Quiet.{AreTold, AreWell, CountsStay, IsCalm, IsToldRoute, IsWellAt, IsWellLeg, WentWell}
use Rattle.package_quiet.proofs.TurnLemmas.{HadMemory, stay-where, turn-well}

-- ---- the addresses of a leg

module _ {W : Type 0} (w : world.Ghosts W) where
  members-told : (classes : List Class) (place : ℕ) → ((class : Class) → Contains classes class → AreTold w class.addresses)
      → ((x : Class) × (place < length classes) × (slice_get classes place ≡ Some x) × (get_or classes place x ≡ x))
      ⊎ ((length classes ≤ place) × (slice_get classes place ≡ None))
      → AreTold w (option_map_or (λ (c : Class). c.addresses) (slice_get classes place) [])
  members-told classes place told (inl h) =
      subst (λ (c : Option Class). AreTold w (option_map_or (λ (x : Class). x.addresses) c [])) (sym h.2)
      (told h.0 (subst (λ (x : Class). Contains classes x) h.3 (Contains-get_or classes place h.0 h.1)))
  members-told classes place told (inr h) =
      subst (λ (c : Option Class). AreTold w (option_map_or (λ (x : Class). x.addresses) c [])) (sym h.1)
      (λ address is. absurd (All-contains (λ (a : Address). ⊥) [] address (All-nil (λ (a : Address). ⊥)) is))

-- they are told, inside the login of who asks
pub leg-told : {W : Type 0} (w : world.Ghosts W) (route : Route) (login : Option (List ℕ)) (leg : ℕ) → IsToldRoute w route
    → AreTold w (sites (terms_of route login leg))
leg-told w route login leg told address is =
    let members = members-told (under login w) route.classes (class_of route leg) (told login) (slice_get_cases route.classes (class_of route leg)).1 in
    let of : IsInside login (terms_of route login leg).at address = inside_of login (terms_of route login leg).at address is in
    subst w.told (sym of.is) (members of.own of.member)

-- ---- memory

no-memory : (answer : Turned) → is_memory answer ≡ false → answer ≢ turned.Memory
no-memory answer has says = let wrong : true ≡ false = sym (ap is_memory says) ∙ has in absurd cc

-- some legs had memory in a round, or all are done behind it
abbrev pub HadMemories : {S : Type 0} → Round → List (LegView S) → Type 0
HadMemories last news = (last.lacks ≡ false) ⊎ (all_done news ≡ true)

stay-then : (had one two : Type 0) (a b c : Counts) → (had → one) → (had → two) → CountsStay one a b → CountsStay two b c → CountsStay had a c
stay-then had one two a b c first later h k = record {
  faults = k.faults ∙ h.faults;
  waits = k.waits ∙ h.waits;
  gones = λ has. k.gones (later has) ∙ h.gones (first has);
}

pub stay-still : (had : Type 0) (a : Counts) → CountsStay had a a
stay-still had a = record { faults = refl; waits = refl; gones = λ has. refl }

module _ {W S : Type 0} (w : world.Ghosts W) (t : sitting.Ghosts S W) (route : Route) where
  -- ---- two parts

  abbrev Are : List (LegView S) → Type 0
  Are legs = AreWell w t route legs

  front-well : (front legs : List (LegView S)) → Are (front ++ legs) → Are front
  front-well [] legs h = tt
  front-well (leg ∷ front) legs h = (h.0, front-well front legs h.1)

  back-well : (front legs : List (LegView S)) → Are (front ++ legs) → Are legs
  back-well [] legs h = h
  back-well (leg ∷ front) legs h = back-well front legs h.1

  both-well : (front legs : List (LegView S)) → Are front → Are legs → Are (front ++ legs)
  both-well [] legs h k = k
  both-well (leg ∷ front) legs h k = (h.0, both-well front legs h.1 k)

  -- ---- legs that are begun

  begun-well : (asked : List Asked) → Are (map begun asked)
  begun-well [] = tt
  begun-well (ask ∷ asked) =
      (record { whole = tt; none = record { gones = refl; faults = refl; spent = refl; looks = refl } }, begun-well asked)

  pub new-well : (work : Work) → Are ((new_package {S = S} route work).first ++ (new_package {S = S} route work).later)
  new-well work = both-well (map begun (first_asked route work)) [] (begun-well (first_asked route work)) tt

module _ {W S : Type 0} (w : world.Ghosts W) (t : sitting.Ghosts S W) (exact : Bool) (route : Route) (now : ℕ) where
  -- memory that was wanting in a turn is known behind it
  first-lacks : (done : Bool) (old new : LegView S) (round next : Round) (door after : DoorView S) (backend moved : BackendView)
      → HasTurned w t exact route now done old new round next door after backend moved → next.lacks ≡ false → round.lacks ≡ false
  first-lacks true old new round next door after backend moved h has = ap (λ (r : Round). r.lacks) (sym h.1) ∙ has
  first-lacks false old new round next door after backend moved h has =
      (or_parts round.lacks (is_memory h.0) (ap (λ (r : Round). r.lacks) (sym h.1) ∙ has)).0

  -- and behind the others
  pub lacks-kept : (olds news : List (LegView S)) (round last : Round) (door after : DoorView S) (backend moved : BackendView)
      → HaveTurned w t exact route now olds news round last door after backend moved → last.lacks ≡ false → round.lacks ≡ false
  lacks-kept [] [] round last door after backend moved h has = ap (λ (r : Round). r.lacks) (sym h.0) ∙ has
  lacks-kept [] (new ∷ news) round last door after backend moved h has = absurd h
  lacks-kept (old ∷ olds) [] round last door after backend moved h has = absurd h
  lacks-kept (old ∷ olds) (new ∷ news) round last door after backend moved h has =
      first-lacks (is_done old.phase) old new round h.next door h.between backend h.amid h.turned
      (lacks-kept olds news h.next last h.between after h.amid moved h.others has)

  -- a leg that was turned had memory
  pub leg-memory : (answer : Turned) (old new : LegView S) (news : List (LegView S)) (round next last : Round) → is_done old.phase ≡ false
      → next ≡ round_after round answer → (last.lacks ≡ false → next.lacks ≡ false) → HadMemories last (new ∷ news)
      → HadMemory answer old.phase new.phase
  leg-memory answer old new news round next last goes is kept (inl has) =
      inl (no-memory answer ((or_parts round.lacks (is_memory answer) (ap (λ (r : Round). r.lacks) (sym is) ∙ kept has)).1))
  leg-memory answer old new news round next last goes is kept (inr done) =
      inr (goes, (and_parts (is_done new.phase) (all_done news) done).0)

  pub rest-memory : (new : LegView S) (news : List (LegView S)) (last : Round) → HadMemories last (new ∷ news) → HadMemories last news
  rest-memory new news last (inl has) = inl has
  rest-memory new news last (inr done) = inr ((and_parts (is_done new.phase) (all_done news) done).1)

  module _ (e : exact ≡ true) (told : IsToldRoute w route) where
    -- one leg
    first-well : (done : Bool) (old new : LegView S) (news : List (LegView S)) (round next last : Round) (door after : DoorView S)
        (backend moved : BackendView) → is_done old.phase ≡ done → (last.lacks ≡ false → next.lacks ≡ false)
        → HasTurned w t exact route now done old new round next door after backend moved
        → IsCalm w t door.pool backend → IsWellLeg w t route old
        → IsWellLeg w t route new × WentWell w t (HadMemories last (new ∷ news)) after.pool backend moved
    first-well true old new news round next last door after backend moved is kept h calm well = (
      subst (λ (v : LegView S). IsWellLeg w t route v) (sym h.0) well,
      subst (λ (d : DoorView S). WentWell w t (HadMemories last (new ∷ news)) d.pool backend moved) (sym h.2)
          (subst (λ (b : BackendView). WentWell w t (HadMemories last (new ∷ news)) door.pool backend b) (sym h.3)
          (record { calm = calm; counts = stay-still (HadMemories last (new ∷ news)) backend.counts })),
    )
    first-well false old new news round next last door after backend moved is kept h calm well =
        let both = turn-well w t exact (terms_of route old.login old.leg) old.task now old.phase new.phase old.account new.account h.0 door after backend
        moved e (leg-told w route old.login old.leg told) h.2.law calm well in (
          subst (λ (o : Option (List ℕ)). IsWellAt w t (terms_of route o new.leg) new.phase new.account) (sym h.2.login)
              (subst (λ (l : ℕ). IsWellAt w t (terms_of route old.login l) new.phase new.account) (sym h.2.leg) both.0),
          record {
            calm = both.1.calm;
            counts = stay-where (HadMemory h.0 old.phase new.phase) (HadMemories last (new ∷ news)) backend.counts moved.counts
                (λ had. leg-memory h.0 old new news round next last is h.1 kept had) both.1.counts;
          },
        )

    -- legs, one after another
    legs-well : (olds news : List (LegView S)) (round last : Round) (door after : DoorView S) (backend moved : BackendView)
        → HaveTurned w t exact route now olds news round last door after backend moved
        → IsCalm w t door.pool backend → AreWell w t route olds
        → AreWell w t route news × WentWell w t (HadMemories last news) after.pool backend moved
    legs-well [] [] round last door after backend moved h calm well = (
      tt,
      subst (λ (d : DoorView S). WentWell w t (HadMemories {S = S} last []) d.pool backend moved) (sym h.1)
          (subst (λ (b : BackendView). WentWell w t (HadMemories {S = S} last []) door.pool backend b) (sym h.2)
          (record { calm = calm; counts = stay-still (HadMemories {S = S} last []) backend.counts })),
    )
    legs-well [] (new ∷ news) round last door after backend moved h calm well = absurd h
    legs-well (old ∷ olds) [] round last door after backend moved h calm well = absurd h
    legs-well (old ∷ olds) (new ∷ news) round last door after backend moved h calm well =
        let first = first-well (is_done old.phase) old new news round h.next last door h.between backend h.amid refl
        (lacks-kept olds news h.next last h.between after h.amid moved h.others) h.turned calm well.0 in
        let others = legs-well olds news h.next last h.between after h.amid moved h.others first.1.calm well.1 in (
          (first.0, others.0),
          record {
            calm = others.1.calm;
            counts = stay-then (HadMemories last (new ∷ news)) (HadMemories last (new ∷ news)) (HadMemories last news) backend.counts
                h.amid.counts moved.counts (λ had. had) (λ had. rest-memory new news last had) first.1.counts others.1.counts;
          },
        )

    -- ---- the turn of a package

    planned-well : (new : PackageView S) (answer : Turned) → Plans route new answer → AreWell w t route new.later
    planned-well new turned.Memory h = subst (λ (ls : List (LegView S)). AreWell w t route ls) (sym h.later) tt
    planned-well new turned.Went h =
        subst (λ (ls : List (LegView S)). AreWell w t route ls) (sym h.0.later) (begun-well w t route (then_asked_by route new.work (answers_of new.first)))
    planned-well new turned.NotYet h =
        subst (λ (ls : List (LegView S)). AreWell w t route ls) (sym h.0.later) (begun-well w t route (then_asked_by route new.work (answers_of new.first)))
    planned-well new turned.Done h =
        subst (λ (ls : List (LegView S)). AreWell w t route ls) (sym h.0.later) (begun-well w t route (then_asked_by route new.work (answers_of new.first)))

    goes-well : (over : Bool) (new : PackageView S) (round : Round) (answer : Turned) → GoesOn w t exact route now over new round answer
        → AreWell w t route new.later
    goes-well false new round answer h = subst (λ (ls : List (LegView S)). AreWell w t route ls) (sym h.0.later) tt
    goes-well true new round answer h = planned-well new answer h

    -- memory was had where the package's turn says so
    lacks-said : (lacks : Bool) (other answer : Turned) → answer ≡ (if lacks then turned.Memory else other) → answer ≢ turned.Memory
        → lacks ≡ false
    lacks-said false other answer is has = refl
    lacks-said true other answer is has = absurd (has is)

    goes-memory : (over : Bool) (new : PackageView S) (round : Round) (answer : Turned) → all_done new.first ≡ over
        → GoesOn w t exact route now over new round answer → answer ≢ turned.Memory → HadMemories round new.first
    goes-memory false new round answer is h has = inl (lacks-said round.lacks _ answer h.1 has)
    goes-memory true new round answer is h has = inr is

    turn-by : (planned : Bool) (old new : PackageView S) (answer : Turned) (round : Round) (door after : DoorView S) (backend moved : BackendView)
        → TakesTurn w t exact route now planned old new answer round door after backend moved
        → IsCalm w t door.pool backend → AreWell w t route (old.first ++ old.later)
        → AreWell w t route (new.first ++ new.later) × WentWell w t (answer ≢ turned.Memory) after.pool backend moved
    turn-by false old new answer round door after backend moved h calm well =
        let legs = legs-well old.first new.first no_round round door after backend moved h.0 calm (front-well w t route old.first old.later well) in (
          both-well w t route new.first new.later legs.0 (goes-well (all_done new.first) new round answer h.1),
          record {
            calm = legs.1.calm;
            counts = stay-where (HadMemories round new.first) (answer ≢ turned.Memory) backend.counts moved.counts
                (λ has. goes-memory (all_done new.first) new round answer refl h.1 has) legs.1.counts;
          },
        )
    turn-by true old new answer round door after backend moved h calm well =
        let legs = legs-well old.later new.later no_round round door after backend moved h.2 calm (back-well w t route old.first old.later well) in (
          both-well w t route new.first new.later
              (subst (λ (ls : List (LegView S)). AreWell w t route ls) (sym h.0) (front-well w t route old.first old.later well)) legs.0,
          record {
            calm = legs.1.calm;
            counts = stay-where (HadMemories round new.later) (answer ≢ turned.Memory) backend.counts moved.counts
                (λ has. inl (lacks-said round.lacks _ answer h.3 has)) legs.1.counts;
          },
        )

    pub package-well : (old new : PackageView S) (answer : Turned) (door after : DoorView S) (backend moved : BackendView)
        → IsPackageTurn w t exact route now old new answer door after backend moved
        → IsCalm w t door.pool backend → AreWell w t route (old.first ++ old.later)
        → AreWell w t route (new.first ++ new.later) × WentWell w t (answer ≢ turned.Memory) after.pool backend moved
    package-well old new answer door after backend moved h calm well =
        turn-by old.planned old new answer h.round door after backend moved h.turns calm well
