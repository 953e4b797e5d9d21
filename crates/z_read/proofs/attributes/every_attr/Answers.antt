use Rattle.unit_forms.specs.Reading.Attributes.{attr_of}
use Rattle.z_read.proofs.EachLemmas.{served_on}
use Rattle.z_read.proofs.attributes.every_attr.Goals as goal

pub loop-attrs-preserved : goal.loop-attrs-preserved
loop-attrs-preserved c =
    served_on attr_of c.args.elements c.loop-attrs.elements c.next.new.self _ _ _ _ c.loop-attrs.invariant c.in-Some.ensures.first c.in-Some.ensures.others c.attr_of-attr.ensures c.attr_behind-attrs.ensures
