use Rattle.std.proofs.Common.{◌≡◌, ◌<◌, ◌∙◌, sym, ap, subst, true}
use Rattle.std.proofs.lemmas.List.{length-map}
use Rattle.pool_sets.specs.Sessions.{is_out}
use Rattle.pool_core.specs.PoolView.{at_member}
use Rattle.pool_roster.specs.Told.{digest_by, seen}
use Rattle.pool_roster.proofs.Lazy.{seen_out}
use Rattle.pool_roster.proofs.Rosters.{moved_roster, told_at, told_set, moved_seen}
use Rattle.pool_roster.proofs.roster.Roster.move_to.Goals as goal

pub invariant_of-self : goal.invariant_of-self
invariant_of-self g c =
    let bs = c.self.inside.berths.items in
    let x = c.self.inside.expiries in
    let ttl = c.self.inside.set_ttl in
    let b = c.index_mut.result.now in
    let e = c.index_mut.ensures.value in
    let w = subst (λ n. c.args.place < n) (length-map bs (seen x ttl)) (rw (← c.self.view_is) at c.requires.within) in
    let all_out = rw (← c.self.view_is) at c.requires.out in
    let out : is_out b.session.stand ≡ true = sym (seen_out x ttl b) ∙ ap (λ o. is_out o.stand) (sym (told_at x ttl c.args.place bs b (seen x ttl b) w e)) ∙ all_out (seen x ttl b) in
    rw (c.move_to.ensures out) (moved_roster (digest_by g.D.Digest.own g.D.Digest.digest) c.self.inside.index x c.self.inside.oldest ttl c.args.place bs b c.args.member c.args.to.now c.self.invariant w e)

pub returns : goal.returns
returns g c =
    let bs = c.self.inside.berths.items in
    let x = c.self.inside.expiries in
    let ttl = c.self.inside.set_ttl in
    let b = c.index_mut.result.now in
    let e = c.index_mut.ensures.value in
    let w = subst (λ n. c.args.place < n) (length-map bs (seen x ttl)) (rw (← c.self.view_is) at c.requires.within) in
    let all_out = rw (← c.self.view_is) at c.requires.out in
    let out : is_out b.session.stand ≡ true = sym (seen_out x ttl b) ∙ ap (λ o. is_out o.stand) (sym (told_at x ttl c.args.place bs b (seen x ttl b) w e)) ∙ all_out (seen x ttl b) in
    rw (← c.self.view_is, c.move_to.ensures out) (record {
      moved = λ d. ap (λ os. (record { sessions = os; session_ttl = c.self.inside.session_ttl; set_ttl = ttl }))
          (told_set x ttl c.args.place bs b _ (at_member c.args.member c.args.to.now) w e (moved_seen x ttl b c.args.member c.args.to.now) d);
    })
