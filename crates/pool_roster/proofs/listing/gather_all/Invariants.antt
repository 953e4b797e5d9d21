use Rattle.std.proofs.Common.{All, take}
use Rattle.pool_roster.specs.Told.{digest_by, sharers_of, AreGathered, sets_of}
use Rattle.pool_roster.proofs.listing.gather_all.Given as goal

abbrev pub invariant-loop-berth : goal.invariant-loop-berth
invariant-loop-berth g l = All (λ b. AreGathered (digest_by g.D.Digest.own g.D.Digest.digest (sharers_of b.session)) l.pairs.items b.session.number (sets_of b.session.stand)) (take l.berth-index l.berths)
