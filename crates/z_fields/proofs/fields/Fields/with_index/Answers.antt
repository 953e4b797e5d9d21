use Rattle.std.proofs.Common.{rules, refl}
use Rattle.z_fields.proofs.IndexLemmas.{index_begin, index_on}
use Rattle.z_fields.proofs.fields.Fields.with_index.Goals as goal

pub loop-one-init : goal.loop-one-init
loop-one-init c =
    index_begin c.args.field.now.inner c.elements-elements.result _ c.in_ok-kept.kept.items refl refl (search rules) (search rules)

pub loop-one-preserved : goal.loop-one-preserved
loop-one-preserved c =
    index_on
    c.args.field.now.inner
    c.loop-one.elements
    c.next.new.self
    c.loop-one.places
    c.keep.new.places
    c.loop-one.kept.items
    c.keep.new.kept.items
    c.in-Some.one
    c.loop-one.invariant
    (search rules)
    (search rules)
    (search rules)
    (search rules)
