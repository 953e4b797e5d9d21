use Rattle.std.proofs.Common.{◌≢◌, get_or, subst, sym}
use Rattle.std.proofs.lemmas.List.{get_or_default}
use Rattle.std.proofs.lemmas.List.Elements.{All-nil}
use Rattle.pool_sets.specs.Table.{Entry}
use Rattle.pool_roster.specs.Told.{digest_by, sharers_of, LacksDigest, sets_of}
use Rattle.pool_roster.proofs.Spending.{spent_at, lacks_at}
use Rattle.pool_roster.proofs.seek.is_spent.Goals as goal

pub returns-in-Idle-clause-spent : goal.returns-in-Idle-clause-spent
returns-in-Idle-clause-spent g c =
    let digest = digest_by g.D.Digest.own g.D.Digest.digest in
    let bs = c.args.berths.now in
    let b = get_or bs c.in-Some.place c.index-berths-place.result in
    let there = get_or_default bs c.in-Some.place c.index-berths-place.result b c.in-Some.ensures.some.within in
    λ h. spent_at digest c.args.pair bs c.in-Some.place b c.in-Some.ensures.some there c.requires.order
    (subst (λ s. LacksDigest (digest (sharers_of b.session)) c.args.pair.digest (sets_of s)) (sym c.in-Idle.is)
    (subst (λ t. LacksDigest (digest (sharers_of b.session)) c.args.pair.digest t.entries) c.table.ensures
    (subst (λ n. LacksDigest (g.D.Digest.digest n) c.args.pair.digest c.table.result.now.entries) c.own_of.ensures (c.lacks_digest.ensures.lacks h))))

pub returns-in-Idle-clause-stands : goal.returns-in-Idle-clause-stands
returns-in-Idle-clause-stands g c =
    let digest = digest_by g.D.Digest.own g.D.Digest.digest in
    let bs = c.args.berths.now in
    let b = get_or bs c.in-Some.place c.index-berths-place.result in
    let there = get_or_default bs c.in-Some.place c.index-berths-place.result b c.in-Some.ensures.some.within in
    λ h spent. c.lacks_digest.ensures.has h
    (subst (λ n. LacksDigest (g.D.Digest.digest n) c.args.pair.digest c.table.result.now.entries) (sym c.own_of.ensures) (subst (λ t. LacksDigest (digest (sharers_of b.session)) c.args.pair.digest t.entries) (sym c.table.ensures)
    (subst (λ s. LacksDigest (digest (sharers_of b.session)) c.args.pair.digest (sets_of s)) c.in-Idle.is (lacks_at digest c.args.pair bs c.in-Some.place b c.in-Some.ensures.some there spent))))

pub returns-in-Out-clause-spent : goal.returns-in-Out-clause-spent
returns-in-Out-clause-spent g c =
    let digest = digest_by g.D.Digest.own g.D.Digest.digest in
    let bs = c.args.berths.now in
    let b = get_or bs c.in-Some.place c.index-berths-place.result in
    let there = get_or_default bs c.in-Some.place c.index-berths-place.result b c.in-Some.ensures.some.within in
    λ h. spent_at digest c.args.pair bs c.in-Some.place b c.in-Some.ensures.some there c.requires.order
    (subst (λ s. LacksDigest (digest (sharers_of b.session)) c.args.pair.digest (sets_of s)) (sym c.in-Out.is) (All-nil (λ (e : Entry). digest (sharers_of b.session) e.key ≢ c.args.pair.digest)))
