-- For contracts alone: all that a leg goes through over a told pool at one moment, where nothing
-- goes wrong, among others that use other classes (this project's own)
use Rattle.std.specs.Prelude.{◌≡◌, ◌⊎◌, ℕ, Bool, List, Option, Some}
use Rattle.z_types.specs.declared.sitting.Sitting as sitting
use Rattle.z_types.specs.declared.world.World as world
use Rattle.route_config.specs.declared.route.Route.{Route}
use Rattle.pool_sets.specs.Plain.{Pool}
use Rattle.leg.specs.Accounts.{no_account}
use Rattle.leg.specs.Deeds.{BackendView}
use Rattle.leg.specs.Terms.{class_of, terms_of}
use Rattle.leg.specs.Turns.{DoorView, IsTurn}
use Rattle.leg.specs.declared.accounts.Account.{Account}
use Rattle.leg.specs.declared.answers.Turned.{Turned}
use Rattle.leg.specs.declared.phases.Phase.{Phase}
use Rattle.leg.specs.declared.phases.Phase.TheVariants.{Begin}
use Rattle.leg.specs.declared.tasks.Task.{Task}
use Rattle.leg_shares.specs.steps.Pools.{IsPoolOf, StaysInClass}
use Rattle.leg_shares.specs.steps.Sharing.{WentOn}

-- a leg, what it has counted, and the pool
pub record Point (S : Type 0) : Type 0 where
  pub phase : Phase S
  pub account : Account
  pub pool : Pool S

-- a leg that has not begun
abbrev pub at_first : {S : Type 0} → Pool S → Point S
at_first pool = record { phase = Begin; account = no_account; pool = pool }

module _ {W S : Type 0} (w : world.Ghosts W) (t : sitting.Ghosts S W) (exact : Bool) (route : Route)
    (login : Option (List ℕ)) (place : ℕ) (task : Task) (now : ℕ)
  where
    -- the leg of a place of the route takes a turn
    pub record TakesTurn (old new : Point S) : Type 0 where
      pub answer : Turned
      pub door : DoorView S
      pub after : DoorView S
      pub backend : BackendView
      pub moved : BackendView
      pub told : door.pool ≡ Some old.pool
      pub told_then : after.pool ≡ Some new.pool
      pub turn : IsTurn w t exact (terms_of route login place) task now old.phase new.phase
          old.account new.account answer door after backend moved
      pub well : WentOn answer new.account

    -- others use other classes
    pub record OthersGoOn (old new : Point S) : Type 0 where
      pub phase : new.phase ≡ old.phase
      pub account : new.account ≡ old.account
      pub of : IsPoolOf route new.pool
      pub own : StaysInClass route (class_of route place) now old.pool new.pool

    -- one of these
    abbrev pub GoesOn : (old new : Point S) → Type 0
    GoesOn old new = TakesTurn old new ⊎ OthersGoOn old new
