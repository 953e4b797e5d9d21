use Rattle.std.proofs.Common.{◌∙◌, subst, sym}
use Rattle.pool_index.specs.Tallies.{IsTally, IsTallyFor, IsTallyPlace}
use Rattle.pool_index.proofs.Registers.{open_told}
use Rattle.pool_index.proofs.register.Register.open_in.Goals as goal

pub returns-in-Some : goal.returns-in-Some
returns-in-Some g c =
    let os = c.self.inside.roster.sessions in
    let ts = c.self.inside.tallies.items in
    let is = subst (λ l. IsTallyPlace c.args.class c.args.at.now l c.in-Some.place) c.as_slice.ensures.value c.in-Some.ensures in
    let t = c.index.result.now in
    let for = subst (IsTallyFor c.args.class c.args.at.now) (sym c.index.ensures) (is.there t) in
    let right = subst (IsTally os) (sym c.index.ensures) (c.self.invariant.right c.in-Some.place t is.within) in
    record { count = rw (← c.self.view_is) (c.count.ensures ∙ open_told c.args.class c.args.at.now t os for right) }
