use Rattle.std.proofs.Common.{ap, get_or}
use Rattle.std.proofs.lemmas.List.{get_or_default}
use Rattle.std.specs.Prelude.{option_copied}
use Rattle.pool_sets.specs.Sessions.{idle_for}
use Rattle.pool_core.proofs.First.{first_at}
use Rattle.pool_core.proofs.Chosen.{fresh_plain, is_lent, idle_has_parts, ready_at}
use Rattle.pool_core.proofs.Seats.{pool_out}
use Rattle.pool_roster.proofs.Given.{some_item}
use Rattle.pool_index.proofs.There.{there_again}
use Rattle.pool_index.proofs.pool.IndexedPool.fresh.Goals as goal

pub spot-requires : goal.spot-requires
spot-requires g c = record {
  within = (first_at (idle_for c.args.class c.args.at.now (option_copied c.args.login)) c.self.inside.register.sessions c.args.place (rw (← c.self.view_is) at c.requires.first)).within;
}

pub number-number-requires : goal.number-number-requires
number-number-requires g c = record {
  within = (first_at (idle_for c.args.class c.args.at.now (option_copied c.args.login)) c.self.inside.register.sessions c.args.place (rw (← c.self.view_is) at c.requires.first)).within;
}

pub lend-requires : goal.lend-requires
lend-requires g c =
    let os = c.self.inside.register.sessions in
    let first = first_at (idle_for c.args.class c.args.at.now (option_copied c.args.login)) os c.args.place (rw (← c.self.view_is) at c.requires.first) in
    record {
      within = first.within;
      there = λ d.
          let o = get_or os c.args.place d in
          let h = is_lent c.args.class c.args.at.now (option_copied c.args.login) os c.args.place o first (get_or_default os c.args.place d o first.within) in
          there_again c.args.class c.args.at.now o h.0 c.in-Some.spot h.1.idle (c.in-Some.ensures d);
    }

pub unreachable-requires : goal.unreachable-requires
unreachable-requires g c =
    let os = c.self.inside.register.sessions in
    let first = first_at (idle_for c.args.class c.args.at.now (option_copied c.args.login)) os c.args.place (rw (← c.self.view_is) at c.requires.first) in
    let d = some_item os c.args.place first.within in
    let o = get_or os c.args.place d in
    let h = is_lent c.args.class c.args.at.now (option_copied c.args.login) os c.args.place o first (get_or_default os c.args.place d o first.within) in
    idle_has_parts c.args.class c.args.at.now o h.0 h.1.idle (c.in_default-lend.ensures.pooled d)

pub invariant_of-self : goal.invariant_of-self
invariant_of-self g c =
    let os = c.self.inside.register.sessions in
    let first = first_at (idle_for c.args.class c.args.at.now (option_copied c.args.login)) os c.args.place (rw (← c.self.view_is) at c.requires.first) in
    let d = some_item os c.args.place first.within in
    let o = get_or os c.args.place d in
    rw (c.lend.ensures.out d) (pool_out g.S.Sitting os c.self.inside.given c.self.inside.opens c.args.place o c.in-Some.spot first.within (get_or_default os c.args.place d o first.within) c.self.invariant)

pub returns-clause-plain : goal.returns-clause-plain
returns-clause-plain g c =
    let os = c.self.inside.register.sessions in
    let first = first_at (idle_for c.args.class c.args.at.now (option_copied c.args.login)) os c.args.place (rw (← c.self.view_is) at c.requires.first) in
    let d = some_item os c.args.place first.within in
    let o = get_or os c.args.place d in
    rw (← c.self.view_is, c.lend.ensures.out d, c.number-number.ensures d, c.apart.ensures.same)
    (fresh_plain c.args.class c.args.at.now (option_copied c.args.login) _ c.args.place o c.in-Some-lend.pooled c.in-Some.spot
    first c.self.invariant.ascends (get_or_default os c.args.place d o first.within) (c.in-Some-lend.ensures.pooled d) (c.in-Some.ensures d))

pub returns-clause-fits : goal.returns-clause-fits
returns-clause-fits g c =
    let os = c.self.inside.register.sessions in
    let first = first_at (idle_for c.args.class c.args.at.now (option_copied c.args.login)) os c.args.place (rw (← c.self.view_is) at c.requires.first) in
    let d = some_item os c.args.place first.within in
    let o = get_or os c.args.place d in
    let e = get_or_default os c.args.place d o first.within in
    let h = is_lent c.args.class c.args.at.now (option_copied c.args.login) os c.args.place o first e in (
      ready_at g.W.World g.S.Sitting c.args.class c.number-number.result c.args.at.now (option_copied c.args.login) os c.args.place o h.0 c.in-Some-lend.pooled c.apart.result h.1 first.within e c.self.invariant.rests (c.in-Some-lend.ensures.pooled d)
          (rw (← c.apart.ensures.same) at c.apart.ensures.kept) (ap (λ p. p.session) c.apart.ensures.same) (ap (λ p. p.address) c.apart.ensures.same),
      tt,
    )

pub returns-clause-bound : goal.returns-clause-bound
returns-clause-bound g c =
    let os = c.self.inside.register.sessions in
    let first = first_at (idle_for c.args.class c.args.at.now (option_copied c.args.login)) os c.args.place (rw (← c.self.view_is) at c.requires.first) in
    let d = some_item os c.args.place first.within in
    let o = get_or os c.args.place d in
    rw (c.lend.ensures.out d) (pool_out g.S.Sitting os c.self.inside.given c.self.inside.opens c.args.place o c.in-Some.spot first.within (get_or_default os c.args.place d o first.within) c.self.invariant).bound
