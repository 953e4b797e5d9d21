use Rattle.std.proofs.Common.{◌≡◌, take, length}
use Rattle.std.specs.List.{flat_map}
use Rattle.unit_forms.specs.Query.{attr_octets}
use Rattle.z_write.proofs.queries.attrs_len.Given as goal

abbrev pub invariant-loop-attr : goal.invariant-loop-attr
invariant-loop-attr l = l.len ≡ length (flat_map attr_octets (take l.attr-index l.attrs))
