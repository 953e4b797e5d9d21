-- For contracts alone: what a turn does to the legs of a request, their door and their backend
-- (this project's own)
use Rattle.std.specs.Prelude.{◌≡◌, ℕ, ◌&&◌, ◌||◌, Bool, true, false, List, [], ◌∷◌, map, if◌then◌else◌}
use Rattle.z_types.specs.declared.sitting.Sitting as sitting
use Rattle.z_types.specs.declared.world.World as world
use Rattle.route_config.specs.declared.route.Route.{Route}
use Rattle.leg.specs.Deeds.{BackendView}
use Rattle.leg.specs.LegView.{LegView}
use Rattle.leg.specs.Phases.{is_done}
use Rattle.leg.specs.Terms.{terms_of}
use Rattle.leg.specs.Turns.{DoorView, IsTurn}
use Rattle.leg.specs.declared.answers.Turned.{Turned}
use Rattle.leg.specs.declared.answers.Turned.TheVariants as turned
use Rattle.package_rules.specs.Planned.{then_asked_by}
use Rattle.package.specs.declared.turning.Round.{Round}
use Rattle.package.specs.steps.Packages.{PackageView, answers_of, begun}

-- ---- what legs answered to their turns

abbrev pub is_memory : Turned → Bool
is_memory turned.Memory = true
is_memory answer = false

abbrev pub is_not_yet : Turned → Bool
is_not_yet turned.NotYet = true
is_not_yet answer = false

-- none was turned yet
abbrev pub no_round : Round
no_round = record { some = false; waits = true; lacks = false }

-- one more was
abbrev pub round_after : Round → Turned → Round
round_after round answer = record {
  some = true;
  waits = round.waits && is_not_yet answer;
  lacks = round.lacks || is_memory answer;
}

-- what the turn of a package answers: want of memory where a leg lacked it; that all legs are done;
-- that some were not done before it, and each of these heard nothing; or that it went on
abbrev pub round_answer : (over : Bool) → Round → Turned
round_answer over round =
    if round.lacks then turned.Memory
    else if over then turned.Done
    else if round.some && round.waits then turned.NotYet
    else turned.Went

-- once it is known what is asked then
abbrev pub done_or_went : (over : Bool) → Turned
done_or_went over = if over then turned.Done else turned.Went

-- ---- the turns of legs, one after another

-- whether each leg is done
abbrev pub all_done : {S : Type 0} → List (LegView S) → Bool
all_done [] = true
all_done (leg ∷ legs) = is_done leg.phase && all_done legs

-- ---- what is asked then

-- nothing more is known to be asked: while some of the first legs are not done, or for want of
-- memory
pub record IsUnplanned {S : Type 0} (new : PackageView S) : Type 0 where
  pub planned : new.planned ≡ false
  pub later : new.later ≡ []

-- it is known what is asked then: legs for it are begun
pub record IsPlannedNow {S : Type 0} (route : Route) (new : PackageView S) : Type 0 where
  pub planned : new.planned ≡ true
  pub later : new.later ≡ map begun (then_asked_by route new.work (answers_of new.first))

-- it is known then, or memory is wanting for that
abbrev pub Plans : {S : Type 0} → Route → PackageView S → Turned → Type 0
Plans route new turned.Memory = IsUnplanned new
Plans route new answer = IsPlannedNow route new × (answer ≡ done_or_went (all_done new.later))

module _ {W S : Type 0} (w : world.Ghosts W) (t : sitting.Ghosts S W) (exact : Bool) (route : Route)
    (now : ℕ) where
  -- a leg had its turn, by its law
  pub record HadTurn (old new : LegView S) (answer : Turned) (door after : DoorView S)
      (backend moved : BackendView) : Type 0 where
    pub leg : new.leg ≡ old.leg
    pub login : new.login ≡ old.login
    pub task : new.task ≡ old.task
    pub law : IsTurn w t exact
        (terms_of route old.login old.leg) old.task now old.phase new.phase old.account new.account
        answer door after backend moved

  -- a leg that is done stays as it is, and nothing is called; any other has its turn
  abbrev pub HasTurned : (done : Bool) → (old new : LegView S) → (round next : Round)
      → (door after : DoorView S) → (backend moved : BackendView) → Type 0
  HasTurned true old new round next door after backend moved =
      (new ≡ old) × (next ≡ round) × (after ≡ door) × (moved ≡ backend)
  HasTurned false old new round next door after backend moved =
      (answer : Turned) × (next ≡ round_after round answer)
      × HadTurn old new answer door after backend moved

  -- the first has its turn, and the others go on from there
  pub record HasTurnedFirst
      (Others : (round : Round) → (door : DoorView S) → (backend : BackendView) → Type 0)
      (old new : LegView S) (round : Round) (door : DoorView S)
      (backend : BackendView) : Type 0 where
    pub next : Round
    pub between : DoorView S
    pub amid : BackendView
    pub turned : HasTurned (is_done old.phase) old new round next door between backend amid
    pub others : Others next between amid

  -- each leg that is not done has one turn, one after another
  abbrev pub HaveTurned : (old new : List (LegView S)) → (round last : Round)
      → (door after : DoorView S) → (backend moved : BackendView) → Type 0
  HaveTurned [] [] round last door after backend moved =
      (last ≡ round) × (after ≡ door) × (moved ≡ backend)
  HaveTurned (old ∷ olds) (new ∷ news) round last door after backend moved =
      HasTurnedFirst (λ next between amid. HaveTurned olds news next last between after amid moved)
      old new round door backend
  HaveTurned olds news round last door after backend moved = ⊥

  -- ---- the turn of a package

  -- once all first legs are done
  abbrev pub GoesOn : (over : Bool) → PackageView S → Round → Turned → Type 0
  GoesOn false new round answer = IsUnplanned new × (answer ≡ round_answer false round)
  GoesOn true new round answer = Plans route new answer

  -- the first legs have their turns until all are done; then, from the next turn on, those for what
  -- is asked then
  abbrev pub TakesTurn : (planned : Bool) → (old new : PackageView S) → Turned → (round : Round)
      → (door after : DoorView S) → (backend moved : BackendView) → Type 0
  TakesTurn false old new answer round door after backend moved =
      HaveTurned old.first new.first no_round round door after backend moved
      × GoesOn (all_done new.first) new round answer
  TakesTurn true old new answer round door after backend moved =
      (new.first ≡ old.first) × (new.planned ≡ true)
      × HaveTurned old.later new.later no_round round door after backend moved
      × (answer ≡ round_answer (all_done new.later) round)

  pub record IsPackageTurn (old new : PackageView S) (answer : Turned) (door after : DoorView S)
      (backend moved : BackendView)
      : Type 0 where
    pub work : new.work ≡ old.work
    pub round : Round
    pub turns : TakesTurn old.planned old new answer round door after backend moved
