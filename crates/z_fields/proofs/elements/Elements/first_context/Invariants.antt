use Rattle.std.proofs.Common.{◌≡◌}
use Rattle.unit_forms.specs.Reading.Elements.{first_context}
use Rattle.z_fields.specs.Trees.{count}
use Rattle.z_fields.proofs.elements.Elements.first_context.Given as goal

abbrev pub invariant-loop-field : goal.invariant-loop-field
invariant-loop-field l = first_context l.fn.self ≡ first_context l.self

abbrev pub decreases-loop-field : goal.decreases-loop-field
decreases-loop-field l = count l.self
