-- For contracts alone: the legs of a request that share their classes, over a told pool at one
-- moment (this project's own)
use Rattle.std.specs.Prelude.{◌≡◌, ◌⊎◌, ℕ, Bool, true, false, List, [], Option, Some}
use Rattle.std.specs.List.{AllByRecursion}
use Rattle.z_types.specs.declared.sitting.Sitting as sitting
use Rattle.z_types.specs.declared.world.World as world
use Rattle.route_config.specs.declared.route.Route.{Route}
use Rattle.pool_sets.specs.Plain.{Pool}
use Rattle.package_quiet.specs.leg.LegView.{LegView}
use Rattle.package_quiet.specs.package.declared.turning.Round.{Round}
use Rattle.package_quiet.specs.package.steps.Packages.{PackageView}
use Rattle.package_quiet.specs.package.steps.Turns.{all_done}
use Rattle.sharing_rules.specs.Uses.{Use}
use Rattle.package_shares.specs.steps.Together.{AreSharing, HadItsCost, MayShare, uses_behind}

-- memory was had in a round of turns, or all legs are done behind it
abbrev pub HadMemory : {S : Type 0} → Round → List (LegView S) → Type 0
HadMemory last news = (last.lacks ≡ false) ⊎ (all_done news ≡ true)

module _ {W S : Type 0} (w : world.Ghosts W) (route : Route) (now : ℕ) (before : List Use) where
  -- the legs of a package go to different classes, which may be used
  pub record MayPackageShare (view : PackageView S) : Type 0 where
    pub first : MayShare w route now before view.first
    pub later : MayShare w route now (uses_behind route now before view.first) view.later

module _ {W S : Type 0} (w : world.Ghosts W) (t : sitting.Ghosts S W) (route : Route) (now : ℕ)
    (before : List Use) where
  -- the first legs share their classes; once all are done, and it is known what is asked then, the
  -- legs for that share theirs behind the uses of the first
  abbrev pub PackageShares : (planned : Bool) → PackageView S → Pool S → Type 0
  PackageShares false view pool =
      AreSharing w t route now before view.first pool × (view.later ≡ [])
  PackageShares true view pool =
      AllByRecursion (HadItsCost w route now before) view.first
      × AreSharing w t route now (uses_behind route now before view.first) view.later pool

  -- so behind a turn over a pool that is told
  pub record PackageSharesOver (view : PackageView S) (after : Option (Pool S)) : Type 0 where
    pub pool : Pool S
    pub told : after ≡ Some pool
    pub shares : PackageShares view.planned view pool
