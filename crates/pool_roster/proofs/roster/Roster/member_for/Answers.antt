use Rattle.std.proofs.Common.{◌∙◌, ap, filter, map}
use Rattle.std.specs.Prelude.{option_copied}
use Rattle.pool_sets.specs.Sessions.{member_for}
use Rattle.pool_core.specs.Loads.{is_counted}
use Rattle.pool_roster.proofs.Counting.{told_member}
use Rattle.pool_roster.proofs.roster.Roster.member_for.Goals as goal

pub returns-clause-member : goal.returns-clause-member
returns-clause-member g c =
    let but = option_copied c.args.but in
    rw (← c.self.view_is) (c.member_for.ensures.member ∙ ap (λ bs. member_for c.args.class c.args.at.now (filter (is_counted but) (map (λ b. b.session) bs))) c.as_slice.ensures.value ∙ told_member c.self.inside.expiries c.self.inside.set_ttl but c.args.class c.args.at.now c.self.inside.berths.items)
