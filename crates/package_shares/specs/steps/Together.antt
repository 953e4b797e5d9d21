-- For contracts alone: legs together over a told pool at one moment, each of a class of its own,
-- all under one login (this project's own)
use Rattle.std.specs.Prelude.{◌≡◌, ℕ, nat_eq, false, List, [], ◌∷◌, map, Option, Some}
use Rattle.std.specs.List.{AllByRecursion, IsDistinct, list_any}
use Rattle.z_types.specs.declared.sitting.Sitting as sitting
use Rattle.z_types.specs.declared.world.World as world
use Rattle.route_config.specs.declared.route.Route.{Route}
use Rattle.pool_sets.specs.Plain.{Pool}
use Rattle.package_quiet.specs.leg.Kept.{one_if}
use Rattle.package_quiet.specs.leg.LegView.{LegView}
use Rattle.package_quiet.specs.leg.Phases.{IsDone}
use Rattle.package_quiet.specs.leg.Tasks.{want_of}
use Rattle.package_quiet.specs.leg.Terms.{class_of}
use Rattle.sharing_rules.specs.Sharers.{Sharers, same_sharers}
use Rattle.sharing_rules.specs.Uses.{Use}
use Rattle.sharing_rules.specs.steps.Shared.{dial_due, search_due, use_now}
use Rattle.package_quiet.specs.steps.Quiet.{HasNoCause}
use Rattle.leg_shares.specs.steps.Pools.{IsPoolOf, MayUse, sharers_at}
use Rattle.leg_shares.specs.steps.Sharing.{IsKeptBehind, Shares}

-- ---- their uses

module _ {S : Type 0} where
  -- the class of a leg
  abbrev pub class_in : Route → LegView S → ℕ
  class_in route leg = class_of route leg.leg

  abbrev pub classes_of : Route → List (LegView S) → List ℕ
  classes_of route legs = map (class_in route) legs

  -- who shares with a leg
  abbrev pub who_in : Route → LegView S → Sharers
  who_in route leg = sharers_at route leg.login leg.leg

  -- they share with none of the legs
  abbrev pub IsOfNone : Route → List (LegView S) → Sharers → Type 0
  IsOfNone route legs who = list_any (same_sharers who) (map (who_in route) legs) ≡ false

  -- no two go to one class
  abbrev pub AreApart : Route → List (LegView S) → Type 0
  AreApart route legs = IsDistinct nat_eq (classes_of route legs)

  -- the use of a leg
  abbrev pub use_of : Route → ℕ → LegView S → Use
  use_of route now leg = use_now (who_in route leg) now (want_of leg.task)

  -- those of legs behind others, the last one first
  abbrev pub uses_behind : Route → ℕ → List Use → List (LegView S) → List Use
  uses_behind route now before [] = before
  uses_behind route now before (leg ∷ legs) =
      uses_behind route now (use_of route now leg ∷ before) legs

  -- nothing went wrong with them
  abbrev pub AreUndisturbed : List (LegView S) → Type 0
  AreUndisturbed legs = AllByRecursion (λ leg. HasNoCause leg.account) legs

module _ {W S : Type 0} (w : world.Ghosts W) (route : Route) (now : ℕ) (before : List Use) where
  -- each class is kept behind these uses, under each login
  pub record AreAllKept (pool : Pool S) : Type 0 where
    pub of : IsPoolOf route pool
    pub each : (who : Sharers) → IsKeptBehind w route who now before pool

  -- legs go to different classes, which may be used
  pub record MayShare (legs : List (LegView S)) : Type 0 where
    pub apart : AreApart route legs
    pub each : AllByRecursion
        (λ leg. MayUse w route (who_in route leg) now before (want_of leg.task)) legs

  -- a leg that is done had the dials and searches that its use needs
  pub record HadItsCost (leg : LegView S) : Type 0 where
    pub done : IsDone leg.phase
    pub dials : leg.account.dials ≡ one_if (dial_due route (who_in route leg) now before)
    pub searches : leg.account.searches
        ≡ one_if (search_due w route (who_in route leg) now before (want_of leg.task))

-- ---- where they stand

module _ {W S : Type 0} (w : world.Ghosts W) (t : sitting.Ghosts S W) (route : Route) (now : ℕ)
    (before : List Use) where
  abbrev pub IsSharing : Pool S → LegView S → Type 0
  IsSharing pool leg =
      Shares w t route (who_in route leg) now before leg.task leg.phase leg.account pool

  -- each shares its class, and what is shared with none of them is kept
  pub record AreSharing (legs : List (LegView S)) (pool : Pool S) : Type 0 where
    pub of : IsPoolOf route pool
    pub each : AllByRecursion (IsSharing pool) legs
    pub rest : (who : Sharers) → IsOfNone route legs who → IsKeptBehind w route who now before pool

  -- so over a pool that is told
  pub record AreSharingOver (legs : List (LegView S)) (after : Option (Pool S)) : Type 0 where
    pub pool : Pool S
    pub told : after ≡ Some pool
    pub share : AreSharing legs pool
