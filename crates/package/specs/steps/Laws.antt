-- For contracts alone: what comes of a package that is over (this project's own)
use Rattle.std.specs.Prelude.{◌≡◌, ℕ}
use Rattle.z_types.specs.declared.sitting.Sitting as sitting
use Rattle.z_types.specs.declared.world.World as world
use Rattle.route_config.specs.Sound.{IsSound}
use Rattle.route_config.specs.declared.route.Route.{Route}
use Rattle.gateway_rules.specs.Fair.{IsFair}
use Rattle.gateway_rules.specs.Marks.{IsAllowed}
use Rattle.gateway_rules.specs.Outcomes.{classes_asked, outcome_of}
use Rattle.gateway_rules.specs.Works.{FitsWork}
use Rattle.package_rules.specs.Truth.{AreAnswered, HasWorldsHits, HaveMembers}
use Rattle.package.specs.steps.Ends.{cause_in, outcome_in}
use Rattle.package.specs.steps.Packages.{IsOver, IsPackageOf, PackageView, answers_of}

module _ {W S : Type 0} (w : world.Ghosts W) (t : sitting.Ghosts S W) where
  -- its legs answered what they were asked
  abbrev pub IsAnswered : Type 0
  IsAnswered =
      (route : Route) (most : ℕ) (view : PackageView S) → IsPackageOf w t route most view
      → IsOver view → AreAnswered w route view.work (answers_of view.first) (answers_of view.later)

  -- so, on a fair route, what comes of it is what comes of its work under its cause
  abbrev pub OutcomeIsTrue : Type 0
  OutcomeIsTrue =
      (route : Route) (most : ℕ) (view : PackageView S) → IsPackageOf w t route most view
      → IsOver view → IsFair w route → IsSound route → HasWorldsHits w route view.work
      → outcome_in route view ≡ outcome_of w route view.work (cause_in route view)

  -- on every route it fits the work
  abbrev pub OutcomeFits : Type 0
  OutcomeFits =
      (route : Route) (most : ℕ) (view : PackageView S) → IsPackageOf w t route most view
      → IsOver view → FitsWork view.work (outcome_in route view)

  -- and its cause is allowed
  abbrev pub CauseIsAllowed : Type 0
  CauseIsAllowed =
      (route : Route) (most : ℕ) (view : PackageView S) → IsPackageOf w t route most view
      → IsOver view → IsSound route → HaveMembers route
      → IsAllowed (record { classes = classes_asked route view.work; cause = cause_in route view })
