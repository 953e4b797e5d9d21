use Rattle.pool_roster.specs.Told.{digest_by}
use Rattle.std.proofs.Common.{ap}
use Rattle.pool_roster.proofs.Rosters.{roster_lazily, told_lazily}
use Rattle.pool_roster.proofs.roster.Roster.expire.Goals as goal

pub invariant_of-self : goal.invariant_of-self
invariant_of-self g c =
    let quiet = c.is_quiet.ensures c.if-is_quiet.true in
    roster_lazily (digest_by g.D.Digest.own g.D.Digest.digest) c.self.inside.index c.self.inside.expiries c.self.inside.oldest c.self.inside.set_ttl c.args.now c.self.inside.session_ttl c.self.inside.berths.items quiet.forward quiet.young c.self.invariant

pub returns-then-is_quiet : goal.returns-then-is_quiet
returns-then-is_quiet g c =
    let quiet = c.is_quiet.ensures c.if-is_quiet.true in
    rw (← c.self.view_is) (ap (λ os. (record { sessions = os; session_ttl = c.self.inside.session_ttl; set_ttl = c.self.inside.set_ttl }))
    (told_lazily (digest_by g.D.Digest.own g.D.Digest.digest) c.self.inside.index c.self.inside.expiries c.self.inside.oldest c.self.inside.set_ttl c.args.now c.self.inside.session_ttl c.self.inside.berths.items quiet.forward quiet.young c.self.invariant))
