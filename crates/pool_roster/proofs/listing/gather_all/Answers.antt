use Rattle.std.proofs.Common.{arith, subst, take, All, Contains}
use Rattle.std.proofs.lemmas.List.{take_all}
use Rattle.std.proofs.lemmas.List.Elements.{All-more, All-weaker}
use Rattle.pool_sets.specs.Table.{Entry}
use Rattle.pool_keys.specs.Pairs.{pair}
use Rattle.pool_roster.specs.Told.{digest_by, sharers_of, AreGathered, sets_of}
use Rattle.pool_roster.proofs.listing.gather_all.Goals as goal

pub loop-berth-preserved : goal.loop-berth-preserved
loop-berth-preserved g c =
    let digest = digest_by g.D.Digest.own g.D.Digest.digest in
    let xs = c.args.berths.now in
    let i = c.loop-berth.berth-index in
    let old = c.loop-berth.pairs.items in
    let new = c.gather_from.new.pairs.items in
    All-more (λ b. AreGathered (digest (sharers_of b.session)) new b.session.number (sets_of b.session.stand)) xs i c.berth-item.result (omega arith)
    (All-weaker (λ b. AreGathered (digest (sharers_of b.session)) old b.session.number (sets_of b.session.stand)) (λ b. AreGathered (digest (sharers_of b.session)) new b.session.number (sets_of b.session.stand))
    (λ b h. All-weaker (λ (e : Entry). Contains old (pair (digest (sharers_of b.session) e.key) b.session.number)) (λ e. Contains new (pair (digest (sharers_of b.session) e.key) b.session.number)) (λ e k. c.in-Ok.ensures.gains (pair (digest (sharers_of b.session) e.key) b.session.number) k) (sets_of b.session.stand) h)
    (take i xs) c.loop-berth.invariant)
    (subst (λ b. AreGathered (digest (sharers_of b.session)) new b.session.number (sets_of b.session.stand)) c.berth-item.is c.in-Ok.ensures.gathered)

pub returns : goal.returns
returns g c = record {
  gathered = subst (All (λ b. AreGathered (digest_by g.D.Digest.own g.D.Digest.digest (sharers_of b.session)) c.loop-berth.pairs.items b.session.number (sets_of b.session.stand))) (take_all c.loop-berth.berth-index c.args.berths.now (omega arith)) c.loop-berth.invariant;
}
