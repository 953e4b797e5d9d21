use Rattle.pool_roster.specs.Told.{digest_by}
use Rattle.std.proofs.Common.{refl}
use Rattle.pool_roster.proofs.Spending.{listed_after}
use Rattle.pool_roster.proofs.seek.take_out_spent.Goals as goal

pub returns-then-is_spent-clause-listed : goal.returns-then-is_spent-clause-listed
returns-then-is_spent-clause-listed g c =
    listed_after (digest_by g.D.Digest.own g.D.Digest.digest) c.take_out.result c.args.pair c.args.index.now c.take_out.new.self c.args.berths.now c.take_out.ensures.taken c.take_out.ensures.same c.take_out.ensures.whole (c.if-is_spent.ensures.spent refl) c.requires.listed
