use Rattle.std.proofs.Common.{◌≡◌, map, take}
use Rattle.z_sets.specs.Expansion.{in_set}
use Rattle.z_sets.proofs.expansion.attributes_in_set.Given as goal

abbrev pub invariant-loop-attr : goal.invariant-loop-attr
invariant-loop-attr l = l.list ≡ map (in_set l.arcs) (take l.attr-index l.attr-items)
