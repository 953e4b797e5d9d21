use Rattle.std.proofs.Common.{take}
use Rattle.std.specs.List.{AllByRecursion}
use Rattle.z_client.specs.Typed.{IsTypedAttr}
use Rattle.z_client.proofs.typed.attrs_are_typed.Given as goal

abbrev pub invariant-loop-attr : goal.invariant-loop-attr
invariant-loop-attr l = AllByRecursion IsTypedAttr (take l.attr-index l.attrs)
