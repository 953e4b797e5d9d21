use Rattle.std.proofs.Common.{◌≡◌, length}
use Rattle.unit_forms.specs.Reading.Elements.{is_one_of}
use Rattle.z_fields.proofs.elements.is_one_of.Given as goal

-- no tag that was passed is the wanted one
abbrev pub invariant-loop-left : goal.invariant-loop-left
invariant-loop-left l = is_one_of l.left l.tag ≡ is_one_of l.fn.choice l.tag

abbrev pub decreases-loop-left : goal.decreases-loop-left
decreases-loop-left l = length l.left
