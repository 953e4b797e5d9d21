use Rattle.std.proofs.Common.{◌∙◌, ◌<◌, ◌≤◌, sym, ap, subst, arith, get_or}
use Rattle.std.proofs.lemmas.List.{get_or_default}
use Rattle.pool_sets.specs.Plain.{is_seat}
use Rattle.pool_core.proofs.Seats.{counted, place_of, no_place, pool_put, put_at, put_nowhere, put_too_large}
use Rattle.pool_roster.proofs.Given.{some_item}
use Rattle.pool_index.proofs.pool.IndexedPool.put_back.Goals as goal

pub returns-then-max-self : goal.returns-then-max-self
returns-then-max-self g c =
    let large = subst (λ n. c.self.inside.sets_max < n) c.max.ensures c.if-max-self.true in
    let v = c.args.self.now in
    let same = ap (λ w. w.pool.sets_max) c.self.view_is in
    c.drop_seat.ensures ∙ ap (counted v.fulls v.opens v.booked) (put_too_large c.args.seat c.args.parts c.args.now v.pool (subst (λ n. n < c.args.parts.table.most) same large))

pub rest-requires : goal.rest-requires
rest-requires g c = record { within = (place_of (is_seat c.args.seat) c.self.inside.register.sessions c.in-Some.place (sym c.in-Some.ensures)).0 }

pub invariant_of-self : goal.invariant_of-self
invariant_of-self g c =
    let os = c.self.inside.register.sessions in
    let at = place_of (is_seat c.args.seat) os c.in-Some.place (sym c.in-Some.ensures) in
    let d = some_item os c.in-Some.place at.0 in
    let o = get_or os c.in-Some.place d in
    rw (c.rest.ensures.idle d, c.join.ensures) (pool_put g.S.Sitting os c.self.inside.given c.self.inside.opens c.self.inside.opens c.in-Some.place _ o at.0 (ap (λ x. x.number) (get_or_default os c.in-Some.place d o at.0)) c.requires.rests (omega arith) c.self.invariant)

pub returns-in-Some : goal.returns-in-Some
returns-in-Some g c =
    let os = c.self.inside.register.sessions in
    let at = place_of (is_seat c.args.seat) os c.in-Some.place (sym c.in-Some.ensures) in
    let d = some_item os c.in-Some.place at.0 in
    let o = get_or os c.in-Some.place d in
    let small = subst (λ n. n ≤ c.self.inside.sets_max) c.max.ensures c.if-max-self.false in
    rw (← c.self.view_is, c.rest.ensures.idle d, c.join.ensures) (ap (counted c.self.inside.fulls c.self.inside.opens c.self.inside.booked) (put_at c.args.seat c.args.parts c.args.now _ c.in-Some.place o at.0 at.1 (get_or_default os c.in-Some.place d o at.0) c.self.invariant.ascends small))

pub returns-in_default : goal.returns-in_default
returns-in_default g c =
    let none = no_place (is_seat c.args.seat) c.self.inside.register.sessions (sym c.in_default.ensures) in
    let small = subst (λ n. n ≤ c.self.inside.sets_max) c.max.ensures c.if-max-self.false in
    rw (← c.self.view_is) (ap (counted c.self.inside.fulls c.self.inside.opens c.self.inside.booked) (put_nowhere c.args.seat c.args.parts c.args.now _ none small))
