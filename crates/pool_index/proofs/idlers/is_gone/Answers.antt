use Rattle.std.proofs.Common.{◌≡◌, ◌∙◌, true, get_or, sym, subst}
use Rattle.pool_sets.specs.Sessions.{is_out}
use Rattle.pool_index.proofs.Registers.{one_session}
use Rattle.pool_index.proofs.idlers.is_gone.Goals as goal

pub returns-in-Some : goal.returns-in-Some
returns-in-Some g c = λ e k d w same.
    let os = c.args.roster.now.sessions in
    let is = c.in-Some.ensures.some in
    let at = one_session os c.in-Some.place c.args.number c.requires.order is.within is.number_there k d w same in
    subst (λ m. is_out (get_or os m d).stand ≡ true) (sym at) (sym (c.is_out.ensures d) ∙ e)
