use Rattle.std.proofs.Common.{◌≡◌, ◌++◌, take}
use Rattle.std.specs.List.{flat_map}
use Rattle.unit_forms.specs.Records.{named_octets}
use Rattle.z_write.proofs.records.put_records.Given as goal

abbrev pub invariant-loop-named : goal.invariant-loop-named
invariant-loop-named l = l.out ≡ l.fn.out ++ flat_map named_octets (take l.named-index l.records)
