-- For contracts alone: what is kept of a GET between its works, and the parts of what came of one
-- (this project's own)
use Rattle.std.specs.Prelude.{◌≡◌, ℕ, Bool, true, false, List, [], None, Some, if◌then◌else◌}
use Rattle.z_types.specs.declared.outcome.Fetched.TheVariants as fetched
use Rattle.z_types.specs.declared.outcome.Outcome.{Outcome}
use Rattle.z_types.specs.declared.sru.SruItem.{SruItem}
use Rattle.z_types.specs.declared.sru.SruItem.TheVariants.{Data, Fault}
use Rattle.sru_rules.specs.gateway_rules.Settling.{why_failed, found_hits, fetched_of}
use Rattle.sru_rules.specs.Diagnostics.{not_in_schema}
use Rattle.sru_rules.specs.steps.Works.{IsRetrieval}
use Rattle.front_sru.specs.declared.outcomes.Came.{Came}
use Rattle.front_sru.specs.declared.outcomes.Came.TheVariants.{Failed, Good}
use Rattle.front_sru.specs.declared.state.SruStage.{SruStage}
use Rattle.front_sru.specs.declared.state.SruStage.TheVariants.{Idle, Searching, Fetching}

-- what waits is within the bounds of works
abbrev pub IsKept : SruStage → Type 0
IsKept Idle = Unit {0}
IsKept (Searching retrieval) = IsRetrieval retrieval
IsKept (Fetching retrieval hits) = IsRetrieval retrieval

-- a GET waits for no work
abbrev pub is_idle : SruStage → Bool
is_idle Idle = true
is_idle other = false

-- a GET that waited for its search waits for its fetch, from a result set with these hits
abbrev pub fetching : SruStage → (hits : List ℕ) → SruStage
fetching (Searching retrieval) hits = Fetching retrieval hits
fetching other hits = other

-- ---- what came of a work

-- neither hits nor records
abbrev pub nothing_came : Came
nothing_came = Good [] fetched.None

-- the parts of an outcome
abbrev pub IsCameOf : Outcome → Came → Type 0
IsCameOf outcome (Failed diag) = why_failed outcome ≡ Some diag
IsCameOf outcome (Good hits records) =
    (why_failed outcome ≡ None) × (hits ≡ found_hits outcome) × (records ≡ fetched_of outcome)

-- a record in octets, where these are XML
abbrev pub data_if : Bool → (version octets : List ℕ) → SruItem
data_if is_xml version octets = if is_xml then Data octets else Fault (not_in_schema version)
