use Rattle.std.proofs.Common.{◌≡◌, take, length}
use Rattle.unit_forms.specs.Requests.{database_names}
use Rattle.z_write.proofs.requests.database_names_len.Given as goal

abbrev pub invariant-loop-name : goal.invariant-loop-name
invariant-loop-name l = l.len ≡ length (database_names (take l.name-index l.dbs))
