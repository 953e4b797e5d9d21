use Rattle.pool_roster.specs.Told.{digest_by}
use Rattle.std.specs.Prelude.{option_copied}
use Rattle.std.proofs.Common.{◌∙◌, ap, position, is_some}
use Rattle.pool_sets.specs.Sessions.{idle_with}
use Rattle.pool_roster.proofs.Lazy.{settled_all}
use Rattle.pool_roster.proofs.Rosters.{settled_place, roster_settled}
use Rattle.pool_roster.proofs.roster.Roster.holder_searched.Goals as goal

pub invariant_of-self : goal.invariant_of-self
invariant_of-self g c =
    rw c.settle_each.ensures (roster_settled (digest_by g.D.Digest.own g.D.Digest.digest) c.self.inside.index c.self.inside.expiries c.self.inside.oldest c.self.inside.set_ttl c.self.inside.berths.items c.self.invariant)

pub returns-clause-place : goal.returns-clause-place
returns-clause-place g c =
    let class = c.args.class in
    let at = c.args.at.now in
    let login = option_copied c.args.login in
    let key = c.args.key.now in
    rw (← c.self.view_is) (c.holder_place.ensures ∙ ap (position (λ b. is_some (idle_with class at login key b.session))) (c.as_slice.ensures.value ∙ c.settle_each.ensures) ∙ settled_place c.self.inside.expiries c.self.inside.set_ttl class at login key c.self.inside.berths.items)

pub returns-clause-same : goal.returns-clause-same
returns-clause-same g c =
    rw (← c.self.view_is, c.settle_each.ensures) (ap (λ os. (record { sessions = os; session_ttl = c.self.inside.session_ttl; set_ttl = c.self.inside.set_ttl })) (settled_all c.self.inside.expiries c.self.inside.set_ttl c.self.inside.berths.items))
