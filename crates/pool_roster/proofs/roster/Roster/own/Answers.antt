use Rattle.std.proofs.Common.{◌∙◌, ap, position, is_some}
use Rattle.std.specs.Prelude.{option_copied}
use Rattle.pool_sets.specs.Sessions.{idle_for}
use Rattle.pool_roster.proofs.Counting.{told_own}
use Rattle.pool_roster.proofs.roster.Roster.own.Goals as goal

pub returns : goal.returns
returns g c =
    rw (← c.self.view_is) (c.own_place.ensures ∙ ap (position (λ b. is_some (idle_for c.args.class c.args.at.now (option_copied c.args.login) b.session))) c.as_slice.ensures.value ∙ told_own c.self.inside.expiries c.self.inside.set_ttl c.args.class c.args.at.now (option_copied c.args.login) c.self.inside.berths.items)
