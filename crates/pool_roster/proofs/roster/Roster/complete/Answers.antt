use Rattle.std.proofs.Common.{ap, subst, All}
use Rattle.pool_roster.specs.Told.{digest_by, sharers_of, AreGathered, sets_of}
use Rattle.pool_roster.proofs.Rosters.{roster_lacking, roster_filled}
use Rattle.pool_roster.proofs.roster.Roster.complete.Goals as goal

pub invariant_of-self : goal.invariant_of-self
invariant_of-self g c =
    roster_lacking (digest_by g.D.Digest.own g.D.Digest.digest) c.self.inside.index c.self.inside.expiries c.self.inside.oldest c.self.inside.set_ttl c.emptied-pairs.new.self c.self.inside.berths.items (ap (λ i. i.whole) c.emptied-pairs.ensures.lacks) c.self.invariant

pub invariant_of-self-2 : goal.invariant_of-self-2
invariant_of-self-2 g c =
    roster_filled (digest_by g.D.Digest.own g.D.Digest.digest) c.self.inside.index c.self.inside.expiries c.self.inside.oldest c.self.inside.set_ttl c.refill.new.self c.gather_all.new.pairs.items c.self.inside.berths.items c.refill.ensures.pairs
    (subst (All (λ b. AreGathered (digest_by g.D.Digest.own g.D.Digest.digest (sharers_of b.session)) c.gather_all.new.pairs.items b.session.number (sets_of b.session.stand))) c.as_slice.ensures.value c.in-Ok.ensures.gathered) c.self.invariant
