use Rattle.leg.specs.Terms.{lent_terms}
use Rattle.leg.proofs.Fetched.{items_join, items_right}
use Rattle.leg.proofs.presents.with_items.Goals as goal

pub returns-then-len-count-clause-session : goal.returns-then-len-count-clause-session
returns-then-len-count-clause-session g c =
    (c.requires.held, items_join g.W.World g.S.Sitting c.args.task.now c.args.held c.args.items c.args.others c.in-Ok.items c.in-Ok.ensures c.requires.items c.requires.next (rw c.in-Records.is (rw c.len.ensures at c.if-len-count.true)), c.requires.own)

pub returns-clause-stands : goal.returns-clause-stands
returns-clause-stands g c = λ most account.
    (c.requires.among, items_right g.W.World g.S.Sitting (lent_terms c.args.terms.now) c.args.task.now c.args.held c.args.items c.args.others c.in-Ok.items c.in-Ok.ensures c.requires.items c.requires.next, tt)
