use Rattle.std.proofs.Common.{◌∙◌, Some, ap, sym, get_or}
use Rattle.std.proofs.lemmas.List.{get_or_default}
use Rattle.pool_sets.specs.Sessions.{idle_in}
use Rattle.pool_core.proofs.First.{first_at}
use Rattle.pool_core.proofs.Chosen.{idle_number_at, no_idle_number}
use Rattle.pool_roster.proofs.Given.{some_item}
use Rattle.pool_index.proofs.Registers.{reindexed}
use Rattle.pool_index.proofs.register.Register.idle_found.Goals as goal

pub invariant_of-self : goal.invariant_of-self
invariant_of-self g c =
    reindexed g.D.Digest.own c.self.inside.index c.self.inside.tallies.items c.self.inside.roster.sessions c.self.invariant c.first_idle.new.index c.in_default.ensures.found

pub returns-in_default-clause-number : goal.returns-in_default-clause-number
returns-in_default-clause-number g c =
    rw (← c.self.view_is) (no_idle_number c.args.class c.args.at.now c.self.inside.roster.sessions (sym c.in_default.ensures.place))

pub returns-clause-number : goal.returns-clause-number
returns-clause-number g c =
    let os = c.self.inside.roster.sessions in
    let i = c.in-Some.place in
    let at = sym c.in-Some.ensures.place in
    let within = (first_at (idle_in c.args.class c.args.at.now) os i at).within in
    let d = some_item os i within in
    let o = get_or os i d in
    rw (← c.self.view_is) (ap Some (c.number.ensures d) ∙ idle_number_at c.args.class c.args.at.now os i o at (get_or_default os i d o within))
