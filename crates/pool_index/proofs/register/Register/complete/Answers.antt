use Rattle.std.proofs.Common.{ap}
use Rattle.pool_index.proofs.Registers.{register_lacking, register_filled}
use Rattle.pool_index.proofs.register.Register.complete.Goals as goal

pub invariant_of-self : goal.invariant_of-self
invariant_of-self g c =
    register_lacking g.D.Digest.own c.self.inside.index c.self.inside.tallies.items c.self.inside.roster.sessions c.self.invariant c.emptied-pairs.new.self (ap (λ i. i.whole) c.emptied-pairs.ensures.lacks)

pub invariant_of-self-2 : goal.invariant_of-self-2
invariant_of-self-2 g c =
    register_filled g.D.Digest.own c.self.inside.index c.self.inside.tallies.items c.self.inside.roster.sessions c.self.invariant c.refill.new.self c.gather.new.pairs.items c.refill.ensures.pairs c.in-Ok.ensures.gathered
