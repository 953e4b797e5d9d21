use Rattle.std.specs.Prelude.{option_copied}
use Rattle.std.proofs.Common.{◌≡◌, false, is_some, get_or, sym, subst}
use Rattle.pool_sets.specs.Sessions.{idle_for}
use Rattle.pool_index.proofs.Registers.{one_session}
use Rattle.pool_index.proofs.idlers.own_at.Goals as goal

pub returns-else-is_own-clause-none : goal.returns-else-is_own-clause-none
returns-else-is_own-clause-none g c = λ e k d w same.
    let os = c.args.roster.now.sessions in
    let is = c.in-Some.ensures.some in
    let at = one_session os c.in-Some.place c.args.number c.requires.order is.within is.number_there k d w same in
    subst (λ m. is_some (idle_for c.args.class c.args.at.now (option_copied c.args.login) (get_or os m d)) ≡ false) (sym at) (sym (c.if-is_own.ensures d))
