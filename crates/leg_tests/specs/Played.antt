-- For contracts alone: what holds of the legs that are played (this project's own)
use Rattle.std.specs.Prelude.{◌≡◌, ℕ, ◌<◌, ◌≤◌, List, length, Option, None, Some}
use Rattle.std.specs.List.{AllByRecursion}
use Rattle.z_types.specs.Numbers.{HasNumbers}
use Rattle.z_types.specs.declared.query.Attr.{Attr}
use Rattle.z_types.specs.declared.sitting.Sitting as sitting
use Rattle.z_types.specs.declared.world.World as world
use Rattle.route_config.specs.declared.route.Route.{Route}
use Rattle.leg.specs.LegView.{LegView}
use Rattle.leg.specs.Turns.{IsLegOf}

-- an attribute of one type and value
pub record IsOneAttribute (attrs : List Attr) : Type 0 where
  pub one : length attrs ≡ 1
  pub numbers : AllByRecursion HasNumbers attrs

-- records at positions of small numbers
pub record AreFew (first count : ℕ) : Type 0 where
  pub from_one : 1 ≤ first
  pub some : 1 ≤ count
  pub near : first ≤ 5000
  pub few : count ≤ 5000

module _ {W S : Type 0} (w : world.Ghosts W) (t : sitting.Ghosts S W) (route : Route)
    (most : ℕ) where
  -- a leg that is played is one of the route
  abbrev pub IsPlayed : Option (LegView S) → Type 0
  IsPlayed None = Unit {0}
  IsPlayed (Some leg) = IsLegOf w t route most leg

  -- so are both, of a route that has a leg
  pub record ArePlayed (leg other : Option (LegView S)) : Type 0 where
    pub some : 0 < length route.legs
    pub first : IsPlayed leg
    pub second : IsPlayed other
