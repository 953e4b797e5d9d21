use Rattle.std.proofs.Common.{sym, ap, ◌∙◌}
use Rattle.std.proofs.lemmas.Result.{on_ok_weaker}
use Rattle.z_types.specs.TreeOf.{tree_of}
use Rattle.z_write.proofs.StructureLaws.{puts_and, puts_or, puts_and_not}
use Rattle.z_write.proofs.structures.+put_structure.Goals as goal

pub returns-in_ok-put_structure-in-And-2-clause-ok :
    goal.returns-in_ok-put_structure-in-And-2-clause-ok
returns-in_ok-put_structure-in-And-2-clause-ok t c =
    let is = sym c.query.view_is ∙ ap tree_of c.in-And.is in
    on_ok_weaker
    c.put_operator.result
    (λ last.
    puts_and
    c.args.query.now
    c.in-And.left.value
    c.in-And.right.value
    c.deref.result.now
    c.deref-in-And.result.now
    c.args.lens.now.items
    c.open_operator.new.lens.items
    c.put_structure.new.lens.items
    c.put_structure-in-And.new.lens.items
    c.args.out.now
    c.open_operator.new.out
    c.put_structure.new.out
    c.put_structure-in-And.new.out
    c.put_operator.new.out
    is
    c.deref.ensures
    c.deref-in-And.ensures
    c.in_ok-open_operator-in-And.ensures.ok
    c.in_ok-put_structure-in-And.ensures.ok
    c.in_ok-put_structure-in-And-2.ensures.ok
    last)
    c.put_operator.ensures.ok

pub returns-in_ok-put_structure-in-Or-2-clause-ok :
    goal.returns-in_ok-put_structure-in-Or-2-clause-ok
returns-in_ok-put_structure-in-Or-2-clause-ok t c =
    let is = sym c.query.view_is ∙ ap tree_of c.in-Or.is in
    on_ok_weaker
    c.put_operator-in-Or.result
    (λ last.
    puts_or
    c.args.query.now
    c.in-Or.left.value
    c.in-Or.right.value
    c.deref-in-Or.result.now
    c.deref-in-Or-2.result.now
    c.args.lens.now.items
    c.open_operator-in-Or.new.lens.items
    c.put_structure-in-Or.new.lens.items
    c.put_structure-in-Or-2.new.lens.items
    c.args.out.now
    c.open_operator-in-Or.new.out
    c.put_structure-in-Or.new.out
    c.put_structure-in-Or-2.new.out
    c.put_operator-in-Or.new.out
    is
    c.deref-in-Or.ensures
    c.deref-in-Or-2.ensures
    c.in_ok-open_operator-in-Or.ensures.ok
    c.in_ok-put_structure-in-Or.ensures.ok
    c.in_ok-put_structure-in-Or-2.ensures.ok
    last)
    c.put_operator-in-Or.ensures.ok

pub returns-in_ok-put_structure-in-AndNot-2-clause-ok :
    goal.returns-in_ok-put_structure-in-AndNot-2-clause-ok
returns-in_ok-put_structure-in-AndNot-2-clause-ok t c =
    let is = sym c.query.view_is ∙ ap tree_of c.in-AndNot.is in
    on_ok_weaker
    c.put_operator-in-AndNot.result
    (λ last.
    puts_and_not
    c.args.query.now
    c.in-AndNot.left.value
    c.in-AndNot.right.value
    c.deref-in-AndNot.result.now
    c.deref-in-AndNot-2.result.now
    c.args.lens.now.items
    c.open_operator-in-AndNot.new.lens.items
    c.put_structure-in-AndNot.new.lens.items
    c.put_structure-in-AndNot-2.new.lens.items
    c.args.out.now
    c.open_operator-in-AndNot.new.out
    c.put_structure-in-AndNot.new.out
    c.put_structure-in-AndNot-2.new.out
    c.put_operator-in-AndNot.new.out
    is
    c.deref-in-AndNot.ensures
    c.deref-in-AndNot-2.ensures
    c.in_ok-open_operator-in-AndNot.ensures.ok
    c.in_ok-put_structure-in-AndNot.ensures.ok
    c.in_ok-put_structure-in-AndNot-2.ensures.ok
    last)
    c.put_operator-in-AndNot.ensures.ok
