use Rattle.std.proofs.Common.{subst}
use Rattle.std.specs.Prelude.{OnOk}
use Rattle.pool_roster.specs.Told.{digest_by, sharers_of, AreGathered}
use Rattle.pool_roster.proofs.listing.gather_from.Goals as goal

pub returns-in-Idle-clause-gathered : goal.returns-in-Idle-clause-gathered
returns-in-Idle-clause-gathered g c =
    rw c.in-Idle.is (subst (λ t. OnOk c.gather.result (AreGathered (digest_by g.D.Digest.own g.D.Digest.digest (sharers_of c.args.session.now)) c.gather.new.pairs.items c.args.session.now.number t.entries)) c.table.ensures
    (subst (λ n. OnOk c.gather.result (AreGathered (g.D.Digest.digest n) c.gather.new.pairs.items c.args.session.now.number c.table.result.now.entries)) c.own_of.ensures c.gather.ensures.gathered))
