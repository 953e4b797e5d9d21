use Rattle.pool_roster.specs.Told.{digest_by}
use Rattle.std.proofs.Common.{ap}
use Rattle.pool_roster.proofs.Counting.{told_without_number}
use Rattle.pool_roster.specs.Told.{told}
use Rattle.pool_roster.proofs.Settling.{rises}
use Rattle.pool_roster.proofs.Rosters.{rise_in, roster_dropped}
use Rattle.pool_roster.proofs.roster.Roster.drop_number.Goals as goal

pub drop_number-requires : goal.drop_number-requires
drop_number-requires g c =
    let x = c.self.inside.expiries in
    let ttl = c.self.inside.set_ttl in
    let bs = c.self.inside.berths.items in
    record { order = rises x ttl bs (rise_in (told x ttl bs) c.self.invariant.ascends) }

pub invariant_of-self : goal.invariant_of-self
invariant_of-self g c =
    rw c.drop_number.ensures (roster_dropped (digest_by g.D.Digest.own g.D.Digest.digest) c.self.inside.index c.self.inside.expiries c.self.inside.oldest c.self.inside.set_ttl c.args.number c.self.inside.berths.items c.self.invariant)

pub returns : goal.returns
returns g c =
    rw (← c.self.view_is, c.drop_number.ensures) (ap (λ os. (record { sessions = os; session_ttl = c.self.inside.session_ttl; set_ttl = c.self.inside.set_ttl })) (told_without_number c.self.inside.expiries c.self.inside.set_ttl c.args.number c.self.inside.berths.items))
