use Rattle.pool_roster.specs.Told.{told}
use Rattle.pool_roster.proofs.Rosters.{rise_in}
use Rattle.pool_roster.proofs.roster.Roster.rises.Goals as goal

pub returns : goal.returns
returns g c = rw (← c.self.view_is) (rise_in (told c.self.inside.expiries c.self.inside.set_ttl c.self.inside.berths.items) c.self.invariant.ascends)
