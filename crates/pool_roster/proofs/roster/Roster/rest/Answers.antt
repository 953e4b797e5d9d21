use Rattle.std.proofs.Common.{◌<◌, ap, subst}
use Rattle.std.proofs.lemmas.List.{length-map}
use Rattle.pool_sets.specs.declared.sessions.Stand.TheVariants.{Idle}
use Rattle.pool_sets.specs.Sessions.{with_stand}
use Rattle.pool_roster.specs.Told.{digest_by, sharers_of, seen, AreListed}
use Rattle.pool_roster.proofs.Rosters.{rested_roster, told_set, rest_seen}
use Rattle.pool_roster.proofs.roster.Roster.rest.Goals as goal

pub invariant_of-self : goal.invariant_of-self
invariant_of-self g c =
    let bs = c.self.inside.berths.items in
    let x = c.self.inside.expiries in
    let ttl = c.self.inside.set_ttl in
    let b = c.index_mut-berth.result.now in
    let w = subst (λ n. c.args.place < n) (length-map bs (seen x ttl)) (rw (← c.self.view_is) at c.requires.within) in
    let listed = subst (λ t. AreListed (digest_by g.D.Digest.own g.D.Digest.digest (sharers_of b.session)) c.list_all.new.index b.session.number t.entries) c.table.ensures (subst (λ n. AreListed (g.D.Digest.digest n) c.list_all.new.index b.session.number c.table.result.now.entries) c.own_of.ensures c.list_all.ensures.listed) in
    rw (c.rest.ensures, c.min-self-inside.ensures) (rested_roster (digest_by g.D.Digest.own g.D.Digest.digest) c.self.inside.index x c.self.inside.oldest ttl c.list_all.new.index c.args.since c.args.place bs b c.args.pooled c.self.invariant w c.index_mut-berth.ensures.value c.list_all.ensures.grows listed)

pub returns : goal.returns
returns g c =
    let bs = c.self.inside.berths.items in
    let x = c.self.inside.expiries in
    let ttl = c.self.inside.set_ttl in
    let b = c.index_mut-berth.result.now in
    let w = subst (λ n. c.args.place < n) (length-map bs (seen x ttl)) (rw (← c.self.view_is) at c.requires.within) in
    rw (← c.self.view_is, c.rest.ensures) (record {
      idle = λ d. ap (λ os. (record { sessions = os; session_ttl = c.self.inside.session_ttl; set_ttl = ttl }))
          (told_set x ttl c.args.place bs b _ (with_stand (Idle c.args.pooled c.args.since)) w c.index_mut-berth.ensures.value (rest_seen x ttl b c.args.pooled c.args.since) d);
    })
