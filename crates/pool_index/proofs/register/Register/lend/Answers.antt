use Rattle.std.proofs.Common.{get_or}
use Rattle.std.proofs.lemmas.List.{get_or_default}
use Rattle.pool_roster.proofs.Given.{some_item}
use Rattle.pool_index.proofs.Registers.{register_lent}
use Rattle.pool_index.proofs.register.Register.lend.Goals as goal

pub invariant_of-self : goal.invariant_of-self
invariant_of-self g c =
    let os = c.self.inside.roster.sessions in
    let within = rw (← c.self.view_is) at c.requires.within in
    let d = some_item os c.args.place within in
    let o = get_or os c.args.place d in
    let there = rw (← c.self.view_is) at c.requires.there in
    rw (c.lend.ensures.out d) (register_lent g.D.Digest.own c.self.inside.index c.self.inside.tallies.items os c.self.invariant c.args.place o c.args.address within (get_or_default os c.args.place d o within) (there d))
