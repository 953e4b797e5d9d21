use Rattle.std.proofs.Common.{◌<◌, ◌∙◌, sym, ap, subst}
use Rattle.std.proofs.lemmas.List.{length-map}
use Rattle.pool_sets.specs.declared.sessions.Stand.TheVariants.{Out}
use Rattle.pool_sets.specs.Sessions.{idle_parts, with_stand}
use Rattle.pool_roster.specs.Told.{digest_by, seen}
use Rattle.pool_roster.proofs.Rosters.{lent_roster, told_at, told_set, left_now}
use Rattle.pool_roster.proofs.roster.Roster.lend.Goals as goal

pub invariant_of-self : goal.invariant_of-self
invariant_of-self g c =
    let bs = c.self.inside.berths.items in
    let x = c.self.inside.expiries in
    let ttl = c.self.inside.set_ttl in
    let w = subst (λ n. c.args.place < n) (length-map bs (seen x ttl)) (rw (← c.self.view_is) at c.requires.within) in
    rw c.lend_out.ensures.out (lent_roster (digest_by g.D.Digest.own g.D.Digest.digest) c.self.inside.index x c.self.inside.oldest ttl c.args.place bs c.index_mut.result.now c.args.address c.self.invariant w c.index_mut.ensures.value)

pub returns-clause-pooled : goal.returns-clause-pooled
returns-clause-pooled g c =
    let bs = c.self.inside.berths.items in
    let x = c.self.inside.expiries in
    let ttl = c.self.inside.set_ttl in
    let w = subst (λ n. c.args.place < n) (length-map bs (seen x ttl)) (rw (← c.self.view_is) at c.requires.within) in
    rw (← c.self.view_is) (λ d. c.lend_out.ensures.pooled ∙ ap (λ o. idle_parts o.stand) (sym (told_at x ttl c.args.place bs c.index_mut.result.now d w c.index_mut.ensures.value)))

pub returns-clause-out : goal.returns-clause-out
returns-clause-out g c =
    let bs = c.self.inside.berths.items in
    let x = c.self.inside.expiries in
    let ttl = c.self.inside.set_ttl in
    let w = subst (λ n. c.args.place < n) (length-map bs (seen x ttl)) (rw (← c.self.view_is) at c.requires.within) in
    let b = c.index_mut.result.now in
    rw (← c.self.view_is, c.lend_out.ensures.out) (λ d. ap (λ os. (record { sessions = os; session_ttl = c.self.inside.session_ttl; set_ttl = ttl }))
    (told_set x ttl c.args.place bs b _ (with_stand (Out c.args.address)) w c.index_mut.ensures.value (left_now x ttl (with_stand (Out c.args.address) (seen x ttl b))) d))
