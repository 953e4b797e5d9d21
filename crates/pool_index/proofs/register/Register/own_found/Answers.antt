use Rattle.pool_index.proofs.Registers.{reindexed}
use Rattle.pool_index.proofs.register.Register.own_found.Goals as goal

pub invariant_of-self : goal.invariant_of-self
invariant_of-self g c =
    reindexed g.D.Digest.own c.self.inside.index c.self.inside.tallies.items c.self.inside.roster.sessions c.self.invariant c.first_own.new.index c.first_own.ensures.found
