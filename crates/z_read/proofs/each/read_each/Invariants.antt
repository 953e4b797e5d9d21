use Rattle.unit_forms.specs.Reading.Rows.{each_with}
use Rattle.z_fields.specs.Trees.{count}
use Rattle.z_read.specs.Parts.{read_joined, IsPassed}
use Rattle.z_read.proofs.each.read_each.Given as goal

abbrev pub invariant-loop-items : goal.invariant-loop-items
invariant-loop-items g l =
    IsPassed read_joined (each_with l.tag g.P.Part.reading l.fn.elements) (each_with l.tag g.P.Part.reading l.elements) l.items

abbrev pub decreases-loop-items : goal.decreases-loop-items
decreases-loop-items g l = count l.elements
