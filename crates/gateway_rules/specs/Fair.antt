-- Where the answers of a route's targets are known, whichever member of a group is asked
-- (this project's own)
use Rattle.std.specs.Prelude.{◌≡◌, ℕ, List, Option, Some, Contains}
use Rattle.z_types.specs.declared.address.Address.{Address}
use Rattle.z_types.specs.declared.key.SetKey.{SetKey}
use Rattle.z_types.specs.declared.scan.ScanAsk.{ScanAsk}
use Rattle.z_types.specs.declared.world.World as world
use Rattle.z_types.specs.Under.{under}
use Rattle.route_config.specs.declared.route.Class.{Class}
use Rattle.route_config.specs.declared.route.Route.{Route}
use Rattle.virt_db.specs.Legs.{LegAt, leg_at}

-- two addresses mean the same: a search, a record and a scan at one of them are those at the other
pub record MeansAs {W : Type 0} (w : world.Ghosts W) (one other : Address) : Type 0 where
  pub search : (key : SetKey) → w.search one key ≡ w.search other key
  pub record_ : (key : SetKey) (position : ℕ) (syntax element : Option (List ℕ))
      → w.record_ one key position syntax element ≡ w.record_ other key position syntax element
  pub scan : (dbs : List (List ℕ)) (ask : ScanAsk) → w.scan one dbs ask ≡ w.scan other dbs ask

-- every member of a class is told, and the members mean the same; a class is a target, or the
-- targets of a group
pub record IsFairClass {W : Type 0} (w : world.Ghosts W) (class : Class) : Type 0 where
  pub told : (address : Address) → Contains class.addresses address → w.told address
  pub same : (one other : Address) → Contains class.addresses one → Contains class.addresses other
      → MeansAs w one other

-- a fair route: each class that its legs go to is, by itself and inside every login; a target that
-- no leg goes to is asked for nothing
abbrev pub IsFair : {W : Type 0} → world.Ghosts W → Route → Type 0
IsFair w route =
    (login : Option (List ℕ)) (class : Class) → Contains route.classes class
    → IsFairClass (under login w) class

-- what an address means is what a leg means, and it is told
pub record AnswersFor {W : Type 0} (w : world.Ghosts W) (leg : LegAt)
    (address : Address) : Type 0 where
  pub told : w.told address
  pub means : MeansAs w address leg.address

-- on a fair route every member of the class that a leg goes to answers for the leg, by itself and
-- inside every login
abbrev pub MembersAnswer : {W : Type 0} → world.Ghosts W → Type 0
MembersAnswer w =
    (route : Route) (login : Option (List ℕ)) (place : ℕ) (leg : LegAt) (address : Address)
    → IsFair w route → leg_at route place ≡ Some leg → Contains leg.class.addresses address
    → AnswersFor (under login w) leg address
