use Rattle.pool_core.proofs.Chosen.{number_given}
use Rattle.pool_index.proofs.pool.IndexedPool.first_idle.Goals as goal

pub returns-clause-given : goal.returns-clause-given
returns-clause-given g c =
    rw (← c.self.view_is) (number_given c.args.class c.self.inside.given c.args.at.now c.self.inside.register.sessions c.idle.result c.idle.ensures.number c.self.invariant.ascends)
