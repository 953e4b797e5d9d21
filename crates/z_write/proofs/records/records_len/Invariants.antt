use Rattle.std.proofs.Common.{◌≡◌, take, length}
use Rattle.std.specs.List.{flat_map}
use Rattle.unit_forms.specs.Records.{named_octets}
use Rattle.z_write.proofs.records.records_len.Given as goal

abbrev pub invariant-loop-named : goal.invariant-loop-named
invariant-loop-named l = l.len ≡ length (flat_map named_octets (take l.named-index l.records))
