use Rattle.pool_roster.specs.Told.{digest_by}
use Rattle.std.proofs.Common.{ap}
use Rattle.pool_core.specs.PoolView.{out_session}
use Rattle.pool_roster.proofs.Rosters.{dialled_roster, told_push}
use Rattle.pool_roster.proofs.roster.Roster.add_out.Goals as goal

pub invariant_of-self-2 : goal.invariant_of-self-2
invariant_of-self-2 g c =
    rw (c.in-Ok-add.ensures.ok, c.reserve.ensures) (dialled_roster (digest_by g.D.Digest.own g.D.Digest.digest) c.self.inside.index c.self.inside.expiries c.self.inside.oldest c.self.inside.set_ttl c.self.inside.berths.items c.args.number c.args.class 0 c.args.login c.args.address c.self.invariant (rw (← c.self.view_is) at c.requires.next))

pub returns-clause-ok : goal.returns-clause-ok
returns-clause-ok g c =
    rw (← c.self.view_is, c.in-Ok-add.ensures.ok) (ap (λ os. (record { sessions = os; session_ttl = c.self.inside.session_ttl; set_ttl = c.self.inside.set_ttl })) (told_push c.self.inside.expiries c.self.inside.set_ttl c.self.inside.berths.items (out_session c.args.number c.args.class c.args.login 0 c.args.address)))
