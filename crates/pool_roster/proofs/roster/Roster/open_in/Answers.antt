use Rattle.std.proofs.Common.{◌∙◌, ap, count_by}
use Rattle.pool_sets.specs.Sessions.{in_class}
use Rattle.pool_roster.proofs.Counting.{told_open}
use Rattle.pool_roster.proofs.roster.Roster.open_in.Goals as goal

pub returns : goal.returns
returns g c = record {
  count = rw (← c.self.view_is) (c.open_in.ensures.count ∙ ap (count_by (λ b. in_class c.args.class c.args.at.now b.session)) c.as_slice.ensures.value ∙ told_open c.self.inside.expiries c.self.inside.set_ttl c.args.class c.args.at.now c.self.inside.berths.items);
}
