-- For contracts alone: where a client stands within a run of its connection
-- (this project's own): what its steps have begun since the run began, one work behind another
use Rattle.std.specs.Prelude.{◌≡◌, ℕ, ◌+◌, Bool, List, [], ◌∷◌, ◌++◌, map}
use Rattle.z_types.specs.Bounds.{within64}
use Rattle.z_types.specs.declared.sitting.Sitting as sitting
use Rattle.z_types.specs.declared.work.Work.{Work}
use Rattle.z_types.specs.declared.world.World as world
use Rattle.route_config.specs.declared.route.Route.{Route}
use Rattle.replay.specs.gateway_rules.OneAnswer.{AreMarksPlain}
use Rattle.z_types.specs.declared.marks.Mark.{Mark}
use Rattle.package_shares.specs.package.steps.Drives.{PackageAt}
use Rattle.package_shares.specs.package.steps.Packages.{PackageView, new_package}
use Rattle.replay.specs.front_conn.declared.totals.Total.{Total}
use Rattle.replay.specs.front_conn.steps.Answering.{Outside}
use Rattle.replay.specs.front_conn.steps.Totals.{totals_for}
use Rattle.sharing_rules.specs.Needed.{count_after}
use Rattle.sharing_rules.specs.Uses.{Use, uses_of}
use Rattle.replay.specs.front_conn_costs.steps.Conns.{AreTotalsOf}
use Rattle.replay.specs.front_conn_costs.steps.Numbers.{Number}
use Rattle.package_shares.specs.steps.Requests.{AreTurns, IsKeptAt, MayWork, behind}
use Rattle.replay_shares.specs.Orderly.{dated}
use Rattle.replay_shares.specs.steps.Costs.{cost_on, is_needed}
use Rattle.replay_shares.specs.steps.Resting.{IsKeptOver}

-- the uses of works at a moment
abbrev pub uses_now : Route → (now : ℕ) → List Work → List Use
uses_now route now works = uses_of route (map (dated now) works)

module _ {W S : Type 0} (w : world.Ghosts W) (t : sitting.Ghosts S W) (exact : Bool) (route : Route)
    (now : ℕ) (before : List Use) (start : List Total) where
  -- these works were done: each was answered under the mark Plain, and each class has cost what
  -- their uses need
  pub record HaveDone (works : List Work) (totals : List Total) (marks : List Mark) : Type 0 where
    pub made : AreTotalsOf route (totals_for route totals)
    pub plain : AreMarksPlain marks
    pub cost : (number : Number) (class others : ℕ)
        → within64 (others + cost_on number class totals)
        ≡ within64 (others + (cost_on number class start
        + count_after (is_needed w route number class) before (uses_now route now works)))

  -- no request is in work, and the pool is kept behind the uses of the works
  pub record RestsBehind (works : List Work) (totals : List Total) (marks : List Mark)
      (outside : Outside S) : Type 0 where
    pub done : HaveDone works totals marks
    pub kept : IsKeptOver w t route now (behind before (uses_now route now works)) outside

  -- the request of the last of the works is in work: it was begun behind the others, and had its
  -- turns
  pub record IsInWork (view : PackageView S) (works : List Work) (totals : List Total)
      (marks : List Mark) (outside : Outside S)
      : Type 0 where
    pub earlier : List Work
    pub is : works ≡ earlier ++ view.work ∷ []
    pub done : HaveDone earlier totals marks
    pub made : AreTotalsOf route totals
    pub may : MayWork route now (behind before (uses_now route now earlier)) view.work
    pub first : PackageAt S
    pub mids : List (PackageAt S)
    pub begins : first.view ≡ new_package route view.work
    pub kept : IsKeptAt w t route now (behind before (uses_now route now earlier)) first
    pub turns : AreTurns w t exact route now first mids
        (record { view = view; door = outside.door; backend = outside.backend })
