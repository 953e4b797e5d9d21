use Rattle.std.proofs.Common.{◌≡◌, take, length}
use Rattle.std.specs.List.{flat_map}
use Rattle.unit_forms.specs.Replies.{entry_octets}
use Rattle.z_write.proofs.scans.entries_len.Given as goal

abbrev pub invariant-loop-entry : goal.invariant-loop-entry
invariant-loop-entry l = l.len ≡ length (flat_map entry_octets (take l.entry-index l.entries))
