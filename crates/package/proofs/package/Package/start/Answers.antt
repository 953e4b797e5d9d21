use Rattle.package.proofs.BegunLemmas.{new_is}
use Rattle.package.proofs.package.Package.start.Goals as goal

pub returns-clause-of : goal.returns-clause-of
returns-clause-of g c most =
    rw (c.in-Ok.ensures, c.new-later.ensures.items)
    (new_is g.W.World g.S.Sitting c.args.route.now most c.args.work c.requires.there c.requires.can_begin c.requires.askable)
