use Rattle.std.proofs.Common.{true}
use Rattle.unit_forms.specs.Reading.Answers.{read_as, each, all_asked}
use Rattle.unit_forms.specs.Reading.Attributes.{attr_of}
use Rattle.z_fields.specs.Trees.{count}
use Rattle.z_read.specs.Parts.{asked_joined, IsPassed}
use Rattle.z_read.proofs.attributes.every_attr.Given as goal

abbrev pub invariant-loop-attrs : goal.invariant-loop-attrs
invariant-loop-attrs l =
    IsPassed asked_joined (read_as all_asked (each (λ field. true) attr_of l.fn.elements)) (each (λ field. true) attr_of l.elements) l.attrs

abbrev pub decreases-loop-attrs : goal.decreases-loop-attrs
decreases-loop-attrs l = count l.elements
