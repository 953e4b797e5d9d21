use Rattle.std.proofs.Common.{◌≡◌, ◌++◌, take}
use Rattle.std.specs.List.{flat_map}
use Rattle.unit_forms.specs.Query.{attr_octets}
use Rattle.z_write.proofs.queries.put_attrs.Given as goal

abbrev pub invariant-loop-attr : goal.invariant-loop-attr
invariant-loop-attr l = l.out ≡ l.fn.out ++ flat_map attr_octets (take l.attr-index l.attrs)
