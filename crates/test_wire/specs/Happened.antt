-- What was made to happen to the links of test targets, as it is kept (this project's own)
use Rattle.std.specs.Prelude.{◌≡◌, ◌≢◌, ℕ, true, unwrap_or}
use Rattle.std.specs.BTreeMap as tree
use Rattle.std.specs.BTreeMap.{BTreeMap}
use Rattle.std.specs.Ordering.{nat_cmp}
use Rattle.gw_outside.specs.declared.happenings.Happening.{Happening}
use Rattle.gw_outside.specs.Happened.{Happened, nothing_happens}

-- what was made to happen, by the number of the target
abbrev pub Table : Type 0
Table = BTreeMap ℕ Happening

-- what was made to happen to the links of a target
abbrev pub happening_of : Table → ℕ → Happening
happening_of table target = unwrap_or (tree.get nat_cmp table target) nothing_happens

-- nothing else happens to any link
abbrev pub happened_in : Table → Happened
happened_in table = record { steady = true; lent = 0; of_target = happening_of table }

-- this is kept of a target from now on, and of the others what was
pub record IsPut (target : ℕ) (happening : Happening) (old new : Table) : Type 0 where
  pub own : happening_of new target ≡ happening
  pub others : (other : ℕ) → other ≢ target → happening_of new other ≡ happening_of old other
