use Rattle.std.proofs.Common.{◌∙◌, ap, subst, map, All}
use Rattle.pool_roster.specs.Told.{digest_by, settled, StandSince}
use Rattle.pool_roster.proofs.Lazy.{expires_each}
use Rattle.pool_roster.proofs.Rosters.{roster_each}
use Rattle.pool_roster.proofs.roster.Roster.expire_each.Goals as goal

pub invariant_of-self : goal.invariant_of-self
invariant_of-self g c =
    let now = c.args.now in
    let x = c.self.inside.expiries in
    let ttl = c.self.inside.set_ttl in
    let bs = c.self.inside.berths.items in
    let left = c.settle_each.ensures ∙ ap (map (settled x ttl 0)) c.drop_old.ensures in
    rw left (roster_each (digest_by g.D.Digest.own g.D.Digest.digest) c.self.inside.index x c.self.inside.oldest ttl now c.self.inside.session_ttl c.oldest-self-inside.result bs c.self.invariant
    (subst (All (λ b. StandSince c.oldest-self-inside.result b.session.stand)) (c.as_slice.ensures.value ∙ left) c.oldest-self-inside.ensures))

pub returns : goal.returns
returns g c =
    let x = c.self.inside.expiries in
    let ttl = c.self.inside.set_ttl in
    let left = c.settle_each.ensures ∙ ap (map (settled x ttl 0)) c.drop_old.ensures in
    rw (← c.self.view_is, left) (ap (λ os. (record { sessions = os; session_ttl = c.self.inside.session_ttl; set_ttl = ttl })) (expires_each x c.args.now c.self.inside.session_ttl ttl c.self.inside.berths.items))
