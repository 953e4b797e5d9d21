-- For contracts alone: what it is that nothing goes wrong over a quiet backend, at addresses that
-- are told (this project's own)
use Rattle.std.specs.Prelude.{◌≡◌, ℕ, List, Contains, Option}
use Rattle.std.specs.List.{AllByRecursion}
use Rattle.z_types.specs.declared.address.Address.{Address}
use Rattle.z_types.specs.declared.sitting.Sitting as sitting
use Rattle.z_types.specs.declared.world.World as world
use Rattle.z_types.specs.Under.{under}
use Rattle.gw_outside.specs.Counts.{Counts}
use Rattle.gw_outside.specs.Happened.{AreQuiet}
use Rattle.pool_sets.specs.Plain.{Pool}
use Rattle.route_config.specs.declared.route.Class.{Class}
use Rattle.route_config.specs.declared.route.Route.{Route}
use Rattle.package.specs.leg.Deeds.{BackendView}
use Rattle.package.specs.leg.LegView.{LegView}
use Rattle.package.specs.leg.Terms.{Terms, terms_of}
use Rattle.package.specs.leg.declared.accounts.Account.{Account}
use Rattle.package.specs.leg.declared.phases.Phase.{Phase}
use Rattle.package_quiet.specs.steps.Whole.{IsWholeIn, IsWholePool}

-- these addresses are told
abbrev pub AreTold : {W : Type 0} → world.Ghosts W → List Address → Type 0
AreTold w at = (address : Address) → Contains at address → w.told address

-- nothing is made to happen to any link, and the sessions of the pool that are idle are whole
pub record IsCalm {W S : Type 0} (w : world.Ghosts W) (t : sitting.Ghosts S W)
    (pool : Option (Pool S)) (backend : BackendView)
    : Type 0 where
  pub quiet : AreQuiet backend.happened
  pub sessions : IsWholePool w t pool

-- no call failed and no look was in vain; and no set was gone, where memory was not wanting
pub record CountsStay (had_memory : Type 0) (old new : Counts) : Type 0 where
  pub faults : new.faults ≡ old.faults
  pub waits : new.waits ≡ old.waits
  pub gones : had_memory → new.gones ≡ old.gones

-- an account has no cause of a mark but perhaps a full door
pub record HasNoCause (account : Account) : Type 0 where
  pub gones : account.gones ≡ 0
  pub faults : account.faults ≡ 0
  pub spent : account.spent ≡ 0
  pub looks : account.looks ≡ 0

module _ {W S : Type 0} (w : world.Ghosts W) (t : sitting.Ghosts S W) where
  -- nothing went wrong, and nothing can behind it
  pub record WentWell (had_memory : Type 0) (after : Option (Pool S))
      (backend moved : BackendView) : Type 0 where
    pub calm : IsCalm w t after moved
    pub counts : CountsStay had_memory backend.counts moved.counts

  -- a leg with such an account, whose session is whole
  pub record IsWellAt (terms : Terms) (phase : Phase S) (account : Account) : Type 0 where
    pub whole : IsWholeIn w t terms phase
    pub none : HasNoCause account

  -- all legs of a route are so
  abbrev pub IsWellLeg : Route → LegView S → Type 0
  IsWellLeg route leg = IsWellAt (terms_of route leg.login leg.leg) leg.phase leg.account

  abbrev pub AreWell : Route → List (LegView S) → Type 0
  AreWell route legs = AllByRecursion (IsWellLeg route) legs

-- each class of a route has addresses alone that are told, by themselves and inside every login
abbrev pub IsToldRoute : {W : Type 0} → world.Ghosts W → Route → Type 0
IsToldRoute w route =
    (login : Option (List ℕ)) (class : Class) → Contains route.classes class
    → AreTold (under login w) class.addresses
