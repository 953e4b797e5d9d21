use Rattle.std.proofs.Common.{◌≡◌, true, ◌∙◌, ◌++◌, ◌∷◌, [], ap, subst, get_or, map, refl}
use Rattle.std.proofs.Math.Seq.{get_or-append_seam}
use Rattle.pool_core.specs.PoolView.{out_session}
use Rattle.pool_index.specs.Tallies.{changed}
use Rattle.pool_index.proofs.Registers.{register_pushed}
use Rattle.pool_index.proofs.register.Register.add_out.Goals as goal

pub invariant_of-self-2 : goal.invariant_of-self-2
invariant_of-self-2 g c =
    let os = c.self.inside.roster.sessions in
    let o = out_session c.args.number c.args.class c.args.login 0 c.args.address in
    let longer = ap (λ r. r.sessions) c.in-Ok.ensures.ok in
    let now = ap (λ l. get_or l c.len-place.result o) longer ∙ ap (λ n. get_or (os ++ o ∷ []) n o) c.len-place.ensures ∙ get_or-append_seam os o [] o in
    let come = subst (λ x. c.change_all.new.tallies.items ≡ map (changed true x) c.self.inside.tallies.items) now (c.change_all.ensures o) in
    rw (longer, come, c.reserve.ensures) (register_pushed g.D.Digest.own c.self.inside.index c.self.inside.tallies.items os c.self.invariant o refl (rw (← c.self.view_is) at c.requires.few))
