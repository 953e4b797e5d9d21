use Rattle.std.proofs.Common.{arith, take, sym, subst, ap, ◌∙◌, ◌≡◌, ◌++◌, ◌∷◌, []}
use Rattle.virt_db.specs.Legs.{distinct}
use Rattle.virt_db.specs.Names.{HasNames}
use Rattle.virt_db.proofs.DistinctLemmas.{distinct-new, distinct-met, take-next}
use Rattle.virt_db.proofs.legs.distinct_names.Goals as goal
use Rattle.virt_db.proofs.legs.distinct_names.Goals.{then-branch+in_ok-copy+in_ok-push, else-branch}

pub loop-name-preserved : goal.loop-name-preserved
loop-name-preserved c =
    let names = c.args.names.now in
    let taken = take c.loop-name.name-index names in
    let name = c.name-item.result in
    let so_far = c.loop-name.invariant in
    let next = take-next names c.loop-name.name-index name (omega arith) c.name-item.is in
    let new = c.in_ok-see.ensures.new taken so_far.1 in
    subst (λ met. (c.if-branch.list ≡ distinct met) × HasNames c.see.new.seen met) (sym next) (
      elim c.if-branch.branch [
        | then-branch+in_ok-copy+in_ok-push w ↦
            distinct-new taken c.loop-name.list c.if-branch.list name so_far.0 (sym w.if-branch.true ∙ new)
            (w.list-is ∙ w.in_ok-push.ensures.ok ∙ ap (λ last. c.loop-name.list ++ last ∷ []) w.in_ok-copy.ensures)
        | else-branch w ↦
            distinct-met taken c.loop-name.list c.if-branch.list name so_far.0 (sym w.if-branch.false ∙ new) w.list-is
      ],
      c.in_ok-see.ensures.seen taken so_far.1,
    )
