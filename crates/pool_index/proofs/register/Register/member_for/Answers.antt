use Rattle.std.specs.Prelude.{option_copied}
use Rattle.std.proofs.Common.{◌∙◌, subst, sym}
use Rattle.pool_index.specs.Tallies.{IsTallyFor, IsTallyPlace}
use Rattle.pool_index.proofs.Registers.{member_told}
use Rattle.pool_index.proofs.register.Register.member_for.Goals as goal

pub returns-clause-member : goal.returns-clause-member
returns-clause-member g c =
    let os = c.self.inside.roster.sessions in
    let ts = c.self.inside.tallies.items in
    let is = subst (λ l. IsTallyPlace c.args.class c.args.at.now l c.in-Some.place) c.as_slice.ensures.value c.in-Some.ensures in
    let t = c.index.result.now in
    let for = subst (IsTallyFor c.args.class c.args.at.now) (sym c.index.ensures) (is.there t) in
    rw (← c.self.view_is) (c.least.ensures.place ∙ member_told (option_copied c.args.but) c.args.class c.args.at.now t os c.loads_but-loads.result for c.loads_but-loads.ensures c.requires.members)
