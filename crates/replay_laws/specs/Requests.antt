-- Requests whose legs met no cause of a mark (this project's own)
use Rattle.std.specs.Prelude.{◌≡◌, ℕ, ◌≤◌, ◌<◌}
use Rattle.std.specs.List.{AllByRecursion}
use Rattle.z_types.specs.declared.marks.Mark.TheVariants.{Plain}
use Rattle.z_types.specs.declared.sitting.Sitting as sitting
use Rattle.z_types.specs.declared.world.World as world
use Rattle.route_config.specs.declared.route.PoolNumbers.{PoolNumbers}
use Rattle.route_config.specs.declared.route.Route.{Route}
use Rattle.replay.specs.leg.declared.accounts.Account.{Account}
use Rattle.replay.specs.package.steps.Ends.{cause_in}
use Rattle.replay.specs.package.steps.Packages.{IsPackageOf, PackageView, all_accounts}

-- what a leg counted causes no mark: no call failed that may not be tried again, fewer looks were
-- in vain on one ask than the pool is patient, no more sets were gone than it repeats, and no door
-- was full
pub record CausesNoMark (pool : PoolNumbers) (account : Account) : Type 0 where
  pub unfailing : account.spent ≡ 0
  pub few_looks : account.looks < pool.patience
  pub few_gone : account.gones ≤ pool.repeats
  pub has_room : account.fulls ≡ 0

-- then the mark of the request is Plain
abbrev pub UncausedRequestIsPlain : {W S : Type 0} → world.Ghosts W → sitting.Ghosts S W → Type 0
UncausedRequestIsPlain {W} {S} w t =
    (route : Route) (most : ℕ) (view : PackageView S) → IsPackageOf w t route most view
    → AllByRecursion (CausesNoMark route.pool) (all_accounts view)
    → (cause_in route view).mark ≡ Plain
