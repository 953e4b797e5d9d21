-- The legs of a request, while no more befalls links than they bear
use Rattle.std.proofs.Common.{Option, ◌≡◌, ◌∙◌, ◌≤◌, ℕ, Bool, true, false, List, [], ◌∷◌, ◌++◌, map, refl, sym, ap, subst, arith}
use Rattle.z_types.specs.declared.sitting.Sitting as sitting
use Rattle.z_types.specs.declared.work.Work.{Work}
use Rattle.z_types.specs.declared.world.World as world
use Rattle.gw_outside.specs.Happened.{Happened}
use Rattle.route_config.specs.declared.route.Route.{Route}
use Rattle.package.specs.leg.Deeds.{BackendView}
use Rattle.package.specs.leg.LegView.{LegView}
use Rattle.package.specs.leg.Phases.{is_done}
use Rattle.package.specs.leg.Terms.{terms_of}
use Rattle.package.specs.leg.Turns.{DoorView}
use Rattle.package.specs.leg.declared.answers.Turned.{Turned}
use Rattle.package.specs.leg.declared.answers.Turned.TheVariants as turned
use Rattle.package.specs.package_rules.Asked.{Asked, first_asked}
use Rattle.package.specs.package_rules.Planned.{then_asked_by}
use Rattle.package.specs.declared.turning.Round.{Round}
use Rattle.package.specs.steps.Packages.{PackageView, answers_of, begun, new_package}
use Rattle.package.specs.steps.Turns.{GoesOn, HasTurned, HaveTurned, IsPackageTurn, Plans, TakesTurn, all_done, no_round}
use Rattle.package_quiet.specs.steps.Bearing.{AllBear, AreBearable, AreNoWorse, BearsAt, BearsOn, DialsGoOn, IsBorneBy, LegBears}
use Rattle.package_quiet.specs.steps.Quiet.{IsToldRoute}
use Rattle.package_quiet.proofs.CountLemmas.{dials-on}
use Rattle.package_quiet.proofs.LegBearing.{leg-stays}
use Rattle.package_quiet.proofs.PackageLemmas.{leg-told}
use Rattle.package_quiet.proofs.TurnBearing.{turn-bears}

-- ---- legs

module _ {W S : Type 0} (w : world.Ghosts W) (t : sitting.Ghosts S W) (route : Route) where
  abbrev Bear : Happened → List (LegView S) → Type 0
  Bear h legs = AllBear w t route h legs

  front-bears : (h : Happened) (front legs : List (LegView S)) → Bear h (front ++ legs) → Bear h front
  front-bears h [] legs k = tt
  front-bears h (leg ∷ front) legs k = (k.0, front-bears h front legs k.1)

  back-bears : (h : Happened) (front legs : List (LegView S)) → Bear h (front ++ legs) → Bear h legs
  back-bears h [] legs k = k
  back-bears h (leg ∷ front) legs k = back-bears h front legs k.1

  both-bear : (h : Happened) (front legs : List (LegView S)) → Bear h front → Bear h legs → Bear h (front ++ legs)
  both-bear h [] legs k l = l
  both-bear h (leg ∷ front) legs k l = (k.0, both-bear h front legs k.1 l)

  -- legs that wait their turn, as no worse becomes of links
  one-stays : (old new : Happened) (leg : LegView S) → AreNoWorse old new → LegBears w t route old leg → LegBears w t route new leg
  one-stays old new leg worse k =
      record { stands = leg-stays w t (terms_of route leg.login leg.leg) old new worse leg.phase leg.account.gones k.stands; borne = k.borne }

  pub all-stay : (old new : Happened) (legs : List (LegView S)) → AreNoWorse old new → Bear old legs → Bear new legs
  all-stay old new [] worse k = tt
  all-stay old new (leg ∷ legs) worse k = (one-stays old new leg worse k.0, all-stay old new legs worse k.1)

  begun-bear : (h : Happened) (asked : List Asked) → AreBearable route.pool h → Bear h (map begun asked)
  begun-bear h [] bearable = tt
  begun-bear h (ask ∷ asked) bearable =
      let early = (bearable.each 0).delay in (
        record { stands = refl; borne = record { unfailing = refl; few_looks = omega (arith, early); few_gone = omega (arith) } },
        begun-bear h asked bearable,
      )

  pub new-bears : (work : Work) (h : Happened) → AreBearable route.pool h
      → Bear h ((new_package {S = S} route work).first ++ (new_package {S = S} route work).later)
  new-bears work h bearable = both-bear h (map begun (first_asked route work)) [] (begun-bear h (first_asked route work) bearable) tt

no-worse-still : (h : Happened) → AreNoWorse h h
no-worse-still h = record { presents = λ target. omega (arith); cut = λ target. refl }

no-worse-on : (a b c : Happened) → AreNoWorse a b → AreNoWorse b c → AreNoWorse a c
no-worse-on a b c h k = record {
  presents = λ target. (let one = h.presents target in let other = k.presents target in omega (arith, one, other));
  cut = λ target. k.cut target ∙ h.cut target;
}

-- ---- links that are made

module _ {W S : Type 0} (w : world.Ghosts W) (t : sitting.Ghosts S W) (exact : Bool) (route : Route) (now : ℕ) where
  same-dials : (backend moved : BackendView) → moved ≡ backend → backend.counts.dials ≤ moved.counts.dials
  same-dials backend moved e = let same = ap (λ (b : BackendView). b.counts.dials) e in omega (arith, same)

  first-dials : (done : Bool) (old new : LegView S) (round next : Round) (door after : DoorView S) (backend moved : BackendView)
      → HasTurned w t exact route now done old new round next door after backend moved → DialsGoOn moved.counts
      → backend.counts.dials ≤ moved.counts.dials
  first-dials true old new round next door after backend moved h go = same-dials backend moved h.3
  first-dials false old new round next door after backend moved h go =
      dials-on w t exact h.2.law.deed backend.counts moved.counts h.2.law.backend_moves.counts go

  legs-dial : (olds news : List (LegView S)) (round last : Round) (door after : DoorView S) (backend moved : BackendView)
      → HaveTurned w t exact route now olds news round last door after backend moved → DialsGoOn moved.counts
      → backend.counts.dials ≤ moved.counts.dials
  legs-dial [] [] round last door after backend moved h go = same-dials backend moved h.2
  legs-dial [] (new ∷ news) round last door after backend moved h go = absurd h
  legs-dial (old ∷ olds) [] round last door after backend moved h go = absurd h
  legs-dial (old ∷ olds) (new ∷ news) round last door after backend moved h go =
      let others = legs-dial olds news h.next last h.between after h.amid moved h.others go in
      let first = first-dials (is_done old.phase) old new round h.next door h.between backend h.amid h.turned (omega (arith, others, go)) in
      omega (arith, first, others)

  turn-dials : (planned : Bool) (old new : PackageView S) (answer : Turned) (round : Round) (door after : DoorView S) (backend moved : BackendView)
      → TakesTurn w t exact route now planned old new answer round door after backend moved → DialsGoOn moved.counts
      → backend.counts.dials ≤ moved.counts.dials
  turn-dials false old new answer round door after backend moved h go = legs-dial old.first new.first no_round round door after backend moved h.0 go
  turn-dials true old new answer round door after backend moved h go = legs-dial old.later new.later no_round round door after backend moved h.2 go

  pub package-dials : (old new : PackageView S) (answer : Turned) (door after : DoorView S) (backend moved : BackendView)
      → IsPackageTurn w t exact route now old new answer door after backend moved → DialsGoOn moved.counts
      → backend.counts.dials ≤ moved.counts.dials
  package-dials old new answer door after backend moved h go = turn-dials old.planned old new answer h.round door after backend moved h.turns go

-- ---- a turn

module _ {W S : Type 0} (w : world.Ghosts W) (t : sitting.Ghosts S W) (route : Route) (now : ℕ) (told : IsToldRoute w route) where
  abbrev Bears : Happened → List (LegView S) → Type 0
  Bears h legs = AllBear w t route h legs

  abbrev Borne : DoorView S → BackendView → Type 0
  Borne door backend = IsBorneBy w t route.pool door.pool backend

  abbrev On : DoorView S → BackendView → BackendView → Type 0
  On after backend moved = BearsOn w t route.pool after.pool backend moved

  still-on : (door : DoorView S) (backend : BackendView) → Borne door backend → On door backend backend
  still-on door backend borne = record { borne = borne; worse = no-worse-still backend.happened }

  -- one leg
  first-bears : (done : Bool) (old new : LegView S) (round next : Round) (door after : DoorView S) (backend moved : BackendView)
      → HasTurned w t true route now done old new round next door after backend moved → DialsGoOn moved.counts → Borne door backend
      → LegBears w t route backend.happened old → LegBears w t route moved.happened new × On after backend moved
  first-bears true old new round next door after backend moved h go borne bears = (
    subst (λ (v : LegView S). LegBears w t route moved.happened v) (sym h.0)
        (subst (λ (b : BackendView). LegBears w t route b.happened old) (sym h.3) bears),
    subst (λ (d : DoorView S). On d backend moved) (sym h.2)
        (subst (λ (b : BackendView). On door backend b) (sym h.3) (still-on door backend borne)),
  )
  first-bears false old new round next door after backend moved h go borne bears =
      let law = h.2.law in
      let terms = terms_of route old.login old.leg in
      let both = turn-bears w t true terms old.task now old.phase new.phase old.account new.account h.0 door after backend moved refl
      (leg-told w route old.login old.leg told) law go borne bears in (
        subst (λ (o : Option (List ℕ)). BearsAt w t (terms_of route o new.leg) moved.happened new.phase new.account) (sym h.2.login)
            (subst (λ (l : ℕ). BearsAt w t (terms_of route old.login l) moved.happened new.phase new.account) (sym h.2.leg) both.0),
        both.1,
      )

  -- legs, one after another
  legs-bear : (olds news : List (LegView S)) (round last : Round) (door after : DoorView S) (backend moved : BackendView)
      → HaveTurned w t true route now olds news round last door after backend moved → DialsGoOn moved.counts → Borne door backend
      → Bears backend.happened olds → Bears moved.happened news × On after backend moved
  legs-bear [] [] round last door after backend moved h go borne bear = (
    tt,
    subst (λ (d : DoorView S). On d backend moved) (sym h.1)
        (subst (λ (b : BackendView). On door backend b) (sym h.2) (still-on door backend borne)),
  )
  legs-bear [] (new ∷ news) round last door after backend moved h go borne bear = absurd h
  legs-bear (old ∷ olds) [] round last door after backend moved h go borne bear = absurd h
  legs-bear (old ∷ olds) (new ∷ news) round last door after backend moved h go borne bear =
      let later = legs-dial w t true route now olds news h.next last h.between after h.amid moved h.others go in
      let first = first-bears (is_done old.phase) old new round h.next door h.between backend h.amid h.turned (omega (arith, later, go)) borne bear.0 in
      let others = legs-bear olds news h.next last h.between after h.amid moved h.others go first.1.borne
      (all-stay w t route backend.happened h.amid.happened olds first.1.worse bear.1) in (
        (one-stays w t route h.amid.happened moved.happened new others.1.worse first.0, others.0),
        record {
          borne = others.1.borne;
          worse = no-worse-on backend.happened h.amid.happened moved.happened first.1.worse others.1.worse;
        },
      )

  -- ---- the turn of a package

  planned-bears : (new : PackageView S) (answer : Turned) (h : Happened) → AreBearable route.pool h → Plans route new answer → Bears h new.later
  planned-bears new turned.Memory h bearable k = subst (λ (ls : List (LegView S)). Bears h ls) (sym k.later) tt
  planned-bears new turned.Went h bearable k = subst (λ (ls : List (LegView S)). Bears h ls) (sym k.0.later) (begun-bear w t route h (then_asked_by route new.work (answers_of new.first)) bearable)
  planned-bears new turned.NotYet h bearable k = subst (λ (ls : List (LegView S)). Bears h ls) (sym k.0.later) (begun-bear w t route h (then_asked_by route new.work (answers_of new.first)) bearable)
  planned-bears new turned.Done h bearable k = subst (λ (ls : List (LegView S)). Bears h ls) (sym k.0.later) (begun-bear w t route h (then_asked_by route new.work (answers_of new.first)) bearable)

  goes-bear : (over : Bool) (new : PackageView S) (round : Round) (answer : Turned) (h : Happened) → AreBearable route.pool h
      → GoesOn w t true route now over new round answer → Bears h new.later
  goes-bear false new round answer h bearable k = subst (λ (ls : List (LegView S)). Bears h ls) (sym k.0.later) tt
  goes-bear true new round answer h bearable k = planned-bears new answer h bearable k

  turn-by : (planned : Bool) (old new : PackageView S) (answer : Turned) (round : Round) (door after : DoorView S) (backend moved : BackendView)
      → TakesTurn w t true route now planned old new answer round door after backend moved → DialsGoOn moved.counts → Borne door backend
      → Bears backend.happened (old.first ++ old.later) → Bears moved.happened (new.first ++ new.later) × On after backend moved
  turn-by false old new answer round door after backend moved h go borne bear =
      let legs = legs-bear old.first new.first no_round round door after backend moved h.0 go borne
      (front-bears w t route backend.happened old.first old.later bear) in (
        both-bear w t route moved.happened new.first new.later legs.0
            (goes-bear (all_done new.first) new round answer moved.happened legs.1.borne.bearable h.1),
        legs.1,
      )
  turn-by true old new answer round door after backend moved h go borne bear =
      let legs = legs-bear old.later new.later no_round round door after backend moved h.2 go borne
      (back-bears w t route backend.happened old.first old.later bear) in (
        both-bear w t route moved.happened new.first new.later
            (subst (λ (ls : List (LegView S)). Bears moved.happened ls) (sym h.0)
            (all-stay w t route backend.happened moved.happened old.first legs.1.worse
            (front-bears w t route backend.happened old.first old.later bear))) legs.0,
        legs.1,
      )

pub package-bears : {W S : Type 0} (w : world.Ghosts W) (t : sitting.Ghosts S W) (exact : Bool) (route : Route) (now : ℕ) (old new : PackageView S)
    (answer : Turned) (door after : DoorView S) (backend moved : BackendView) → exact ≡ true → IsToldRoute w route
    → IsPackageTurn w t exact route now old new answer door after backend moved → DialsGoOn moved.counts
    → IsBorneBy w t route.pool door.pool backend → AllBear w t route backend.happened (old.first ++ old.later)
    → AllBear w t route moved.happened (new.first ++ new.later) × BearsOn w t route.pool after.pool backend moved
package-bears w t true route now old new answer door after backend moved e told h go borne bear =
    turn-by w t route now told old.planned old new answer h.round door after backend moved h.turns go borne bear
package-bears w t false route now old new answer door after backend moved e told h go borne bear = absurd cc
