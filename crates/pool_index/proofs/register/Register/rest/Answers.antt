use Rattle.std.proofs.Common.{◌≡◌, true, ◌∙◌, ◌<◌, ap, subst, sym, get_or, map}
use Rattle.std.proofs.lemmas.List.{get_or_default, get_or-set_same, length-set}
use Rattle.pool_sets.specs.declared.sessions.Stand.TheVariants.{Idle}
use Rattle.pool_sets.specs.Sessions.{with_stand}
use Rattle.pool_roster.proofs.Given.{some_item}
use Rattle.pool_index.specs.Tallies.{changed}
use Rattle.pool_index.specs.RegisterView.{IsFound}
use Rattle.pool_index.proofs.Registers.{register_put}
use Rattle.pool_index.proofs.register.Register.rest.Goals as goal

pub change_all-requires-2 : goal.change_all-requires-2
change_all-requires-2 g c =
    let os = c.self.inside.roster.sessions in
    let within = rw (← c.self.view_is) at c.requires.within in
    let d = some_item os c.args.place within in
    let y = with_stand (Idle c.args.pooled c.args.since) (get_or os c.args.place d) in
    record { within = rw (c.rest.ensures.idle d) (subst (λ n. c.args.place < n) (sym (length-set os c.args.place y)) within) }

pub list-requires : goal.list-requires
list-requires g c =
    let os = c.self.inside.roster.sessions in
    let within = rw (← c.self.view_is) at c.requires.within in
    let d = some_item os c.args.place within in
    let y = with_stand (Idle c.args.pooled c.args.since) (get_or os c.args.place d) in
    record { within = rw (c.rest.ensures.idle d) (subst (λ n. c.args.place < n) (sym (length-set os c.args.place y)) within) }

pub invariant_of-self : goal.invariant_of-self
invariant_of-self g c =
    let os = c.self.inside.roster.sessions in
    let within = rw (← c.self.view_is) at c.requires.within in
    let d = some_item os c.args.place within in
    let o = get_or os c.args.place d in
    let y = with_stand (Idle c.args.pooled c.args.since) o in
    let is = get_or_default os c.args.place d o within in
    let put = ap (λ r. r.sessions) (c.rest.ensures.idle d) in
    let now = ap (λ l. get_or l c.args.place d) put ∙ get_or-set_same os c.args.place y d within in
    let gone = c.change_all.ensures d in
    let come = subst (λ x. c.change_all-2.new.tallies.items ≡ map (changed true x) c.change_all.new.tallies.items) now (c.change_all-2.ensures d) in
    let listed = subst (IsFound g.D.Digest.own c.list.new.index) now (c.list.ensures.listed d) in
    rw (put, come, gone) (register_put g.D.Digest.own c.self.inside.index c.self.inside.tallies.items os c.self.invariant c.list.new.index c.args.place o y within is c.list.ensures.grows listed)
