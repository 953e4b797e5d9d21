use Rattle.std.proofs.Common.{◌≡◌, ◌<◌, ◌^◌, true, length, ◌++◌, option_map}
use Rattle.unit_forms.specs.Reading.Contents.{arcs_after}
use Rattle.z_fields.proofs.oids.arcs_in.Given as goal

abbrev pub invariant-loop-left : goal.invariant-loop-left
invariant-loop-left l = record {
  so_far : arcs_after true 0 l.fn.octets ≡ option_map (λ rest. l.arcs.items ++ rest) (arcs_after l.first l.high l.left);
  small : l.high < 2 ^ 33;
}

abbrev pub decreases-loop-left : goal.decreases-loop-left
decreases-loop-left l = length l.left
