use Rattle.std.proofs.Common.{◌≡◌, ◌++◌, take}
use Rattle.std.specs.List.{flat_map}
use Rattle.unit_forms.specs.Records.{diag_octets}
use Rattle.z_write.proofs.records.put_diags.Given as goal

abbrev pub invariant-loop-diag : goal.invariant-loop-diag
invariant-loop-diag l = l.out ≡ l.fn.out ++ flat_map diag_octets (take l.diag-index l.diags)
