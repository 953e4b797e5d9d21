use Rattle.std.proofs.Common.{◌≡◌, ◌≤◌, ◌*◌, length, take}
use Rattle.std.specs.List.{flat_map}
use Rattle.z_ber.specs.Written.{septets}
use Rattle.z_ber.proofs.spell.arcs_len.Given as goal

abbrev pub invariant-loop-arc : goal.invariant-loop-arc
invariant-loop-arc l = (l.len ≡ length (flat_map septets (take l.arc-index l.arcs))) × (l.len ≤ 65 * l.arc-index)
