use Rattle.std.proofs.Common.{◌≡◌, ◌++◌, take}
use Rattle.std.specs.List.{flat_map}
use Rattle.z_ber.specs.Written.{septets}
use Rattle.z_ber.proofs.spell.put_arcs.Given as goal

abbrev pub invariant-loop-arc : goal.invariant-loop-arc
invariant-loop-arc l = l.out ≡ l.initial.out ++ flat_map septets (take l.arc-index l.arcs)
