use Rattle.std.proofs.Common.{not, ◌==◌}
use Rattle.std.proofs.lemmas.List.Elements.{All-filter}
use Rattle.pool_index.specs.Tallies.{IsTally}
use Rattle.pool_index.proofs.Registers.{retallied, added_right}
use Rattle.pool_index.proofs.register.Register.tally.Goals as goal

pub invariant_of-self : goal.invariant_of-self
invariant_of-self g c =
    let os = c.self.inside.roster.sessions in
    let ts = c.self.inside.tallies.items in
    retallied g.D.Digest.own c.self.inside.index ts os c.self.invariant c.drop_class.new.tallies.items
    (rw c.drop_class.ensures (All-filter (λ t. not (t.class == c.args.class)) (IsTally os) ts c.self.invariant.right))

pub invariant_of-self-2 : goal.invariant_of-self-2
invariant_of-self-2 g c =
    let os = c.self.inside.roster.sessions in
    let ts = c.self.inside.tallies.items in
    retallied g.D.Digest.own c.self.inside.index ts os c.self.invariant c.add.new.tallies.items
    (added_right os c.in-Ok.tally c.drop_class.new.tallies.items c.add.new.tallies.items c.add.ensures c.in-Ok.ensures
    (rw c.drop_class.ensures (All-filter (λ t. not (t.class == c.args.class)) (IsTally os) ts c.self.invariant.right)))
