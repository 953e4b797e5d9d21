use Rattle.std.proofs.Common.{◌≡◌, ◌++◌, take}
use Rattle.unit_forms.specs.Requests.{database_names}
use Rattle.z_write.proofs.requests.put_database_names.Given as goal

abbrev pub invariant-loop-name : goal.invariant-loop-name
invariant-loop-name l = l.out ≡ l.fn.out ++ database_names (take l.name-index l.dbs)
