use Rattle.std.proofs.Common.{◌∙◌, ap, sym, length}
use Rattle.pool_index.proofs.Registers.{register_less, register_fresh}
use Rattle.pool_index.proofs.register.Register.expire.Goals as goal

pub invariant_of-self : goal.invariant_of-self
invariant_of-self g c =
    rw c.expire.ensures (register_less g.D.Digest.own c.self.inside.index c.self.inside.tallies.items c.self.inside.roster.sessions c.self.invariant c.args.now c.self.inside.roster.session_ttl c.self.inside.roster.set_ttl
    c.forget.new.self c.clear.new.self.items (ap (λ i. i.whole) c.forget.ensures.lacks) c.clear.ensures.items)

pub invariant_of-self-else-len-open_before : goal.invariant_of-self-else-len-open_before
invariant_of-self-else-len-open_before g c =
    let same = ap (λ r. length r.sessions) (sym c.expire.ensures) ∙ sym c.len.ensures ∙ c.if-len-open_before.false ∙ c.len-open_before.ensures in
    rw c.expire.ensures (register_fresh g.D.Digest.own c.self.inside.index c.self.inside.tallies.items c.self.inside.roster.sessions c.self.invariant c.args.now c.self.inside.roster.session_ttl c.self.inside.roster.set_ttl same)
