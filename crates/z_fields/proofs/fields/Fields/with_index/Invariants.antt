use Rattle.z_fields.specs.Index.{Indexes}
use Rattle.z_fields.specs.Trees.{count}
use Rattle.z_fields.proofs.fields.Fields.with_index.Given as goal

abbrev pub invariant-loop-one : goal.invariant-loop-one
invariant-loop-one l = Indexes l.fn.field.inner l.places l.kept.items l.elements

abbrev pub decreases-loop-one : goal.decreases-loop-one
decreases-loop-one l = count l.elements
