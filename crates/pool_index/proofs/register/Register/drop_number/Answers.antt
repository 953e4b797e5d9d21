use Rattle.std.proofs.Common.{◌∙◌, ap, refl, sym, get_or}
use Rattle.std.proofs.lemmas.List.{get_or_default}
use Rattle.pool_roster.specs.RosterView.{with_told}
use Rattle.pool_roster.proofs.Given.{some_item}
use Rattle.pool_index.proofs.Registers.{register_removed, number_removed, no_number_dropped}
use Rattle.pool_index.proofs.register.Register.drop_number.Goals as goal

pub invariant_of-self : goal.invariant_of-self
invariant_of-self g c =
    let os = c.self.inside.roster.sessions in
    let is = c.in-Some.ensures.some in
    let d = some_item os c.in-Some.place is.within in
    let o = get_or os c.in-Some.place d in
    let left = ap (λ r. r.sessions) c.drop_number.ensures ∙ number_removed os c.in-Some.place c.args.number c.rises.ensures is in
    rw (left, c.change_all.ensures d) (register_removed g.D.Digest.own c.self.inside.index c.self.inside.tallies.items os c.self.invariant c.take_out.new.index c.in-Some.place o c.rises.ensures is.within (get_or_default os c.in-Some.place d o is.within) (c.take_out.ensures d))

pub returns-in_default : goal.returns-in_default
returns-in_default g c =
    let r = c.self.inside.roster in
    rw (← c.self.view_is) (ap (λ os. with_told os r) (sym (no_number_dropped c.args.number r.sessions (c.in_default.ensures.none refl))))
