-- For contracts alone: the two works of a GET, one behind the other (this project's own)
use Rattle.std.specs.Prelude.{◌≡◌, ◌≤◌, ℕ, List, length}
use Rattle.z_types.specs.Bounds.{most_legs}
use Rattle.z_types.specs.declared.world.World as world
use Rattle.z_sets.specs.Askable.{IsAskableQuery}
use Rattle.route_config.specs.declared.route.Route.{Route}
use Rattle.limit_rules.specs.Limits.{most_records}
use Rattle.gateway_rules.specs.Marks.{plain}
use Rattle.sru_rules.specs.declared.retrieval.Retrieval.{Retrieval}
use Rattle.sru_rules.specs.Asking.{fetch_work}
use Rattle.sru_rules.specs.Run.{next_of}
use Rattle.sru_rules.specs.Settling.{fetches}

-- a retrieval is within the bounds of works: its legs are not too many, and targets may be asked
-- for its query; its first record is counted from 1, and its records are not too many
pub record IsRetrieval (retrieval : Retrieval) : Type 0 where
  pub few_legs : length retrieval.legs ≤ most_legs
  pub askable : IsAskableQuery retrieval.query
  pub from_one : 1 ≤ retrieval.asked.start
  pub few_records : retrieval.asked.maximum ≤ most_records

-- no leg was marked in the search, and a fetch from these hits follows it
abbrev pub HasFound : {W : Type 0} → world.Ghosts W → Route → Retrieval → (hits : List ℕ) → Type 0
HasFound w route retrieval hits =
    next_of w route retrieval plain ≡ fetches hits (fetch_work route.schemas retrieval hits)
