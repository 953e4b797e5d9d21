-- The numbers of marks (this project's own): each Silent says as many looks as the pool is patient,
-- and each Full as many sessions of a class as the door opens at most
use Rattle.std.specs.Prelude.{◌≡◌, ℕ, List}
use Rattle.std.specs.List.{AllByRecursion}
use Rattle.z_types.specs.declared.marks.Mark.{Mark}
use Rattle.z_types.specs.declared.marks.Mark.TheVariants.{Silent, Full}
use Rattle.route_config.specs.declared.route.PoolNumbers.{PoolNumbers}
use Rattle.replay.specs.declared.reports.ClientReport.{ClientReport}

module _ (pool : PoolNumbers) (most : ℕ) where
  abbrev pub IsMarkOf : Mark → Type 0
  IsMarkOf (Silent looks) = looks ≡ pool.patience
  IsMarkOf (Full sessions) = sessions ≡ most
  IsMarkOf mark = Unit {0}

  -- those of all clients
  abbrev pub AreMarksOf : List ClientReport → Type 0
  AreMarksOf clients = AllByRecursion (λ client. AllByRecursion IsMarkOf client.marks) clients
