use Rattle.std.proofs.Common.{◌∙◌, sym, ap, subst, refl, arith, get_or, ℕ, List}
use Rattle.std.proofs.lemmas.List.{get_or_default}
use Rattle.z_types.specs.Members.{IsMember}
use Rattle.pool_sets.specs.Sessions.{Session}
use Rattle.pool_sets.specs.Plain.{Pool, is_seat}
use Rattle.pool_core.proofs.Dialled.{address_is}
use Rattle.pool_core.proofs.Seats.{counted, place_of, no_place, pool_put, redial_at, redial_nowhere, member_nowhere, member_at, seat_number}
use Rattle.pool_roster.proofs.Given.{some_item}
use Rattle.pool_index.proofs.pool.IndexedPool.move_seat.Goals as goal

abbrev pool_of : {S : Type 0} → List (Session S) → ℕ → ℕ → ℕ → ℕ → ℕ → Pool S
pool_of os given a b x y = record { sessions = os; given = given; max_sessions = a; sets_max = b; session_ttl = x; set_ttl = y }

pub returns-in_default-clause-member : goal.returns-in_default-clause-member
returns-in_default-clause-member g c =
    let none = no_place (is_seat c.args.seat.now) c.self.inside.register.sessions (sym c.in_default.ensures) in
    rw (← c.self.view_is) (member_nowhere c.args.seat.now c.args.at.now (pool_of c.self.inside.register.sessions c.self.inside.given c.self.inside.max_sessions c.self.inside.sets_max c.self.inside.register.session_ttl c.self.inside.register.set_ttl) none)

pub returns-in_default-clause-plain : goal.returns-in_default-clause-plain
returns-in_default-clause-plain g c =
    let none = no_place (is_seat c.args.seat.now) c.self.inside.register.sessions (sym c.in_default.ensures) in
    rw (← c.self.view_is) (ap (counted c.self.inside.fulls c.self.inside.opens c.self.inside.booked) (redial_nowhere c.args.seat.now c.args.at.now (pool_of c.self.inside.register.sessions c.self.inside.given c.self.inside.max_sessions c.self.inside.sets_max c.self.inside.register.session_ttl c.self.inside.register.set_ttl) none))

pub move_to-requires : goal.move_to-requires
move_to-requires g c =
    let at = place_of (is_seat c.args.seat.now) c.self.inside.register.sessions c.in-Some.place (sym c.in-Some.ensures) in
    record {
      within = at.0;
      out = λ d. (seat_number c.args.seat.now (get_or c.self.inside.register.sessions c.in-Some.place d) (at.1 d)).1;
      short = subst IsMember (sym c.index-at-member.is) (c.requires.short c.member_for-member.result c.index-at-member.result c.member_for-member.ensures.within);
    }

pub invariant_of-self : goal.invariant_of-self
invariant_of-self g c =
    let os = c.self.inside.register.sessions in
    let at = place_of (is_seat c.args.seat.now) os c.in-Some.place (sym c.in-Some.ensures) in
    let d = some_item os c.in-Some.place at.0 in
    let o = get_or os c.in-Some.place d in
    rw (c.move_to.ensures.moved d) (pool_put g.S.Sitting os c.self.inside.given c.self.inside.opens c.self.inside.opens c.in-Some.place _ o at.0 (ap (λ x. x.number) (get_or_default os c.in-Some.place d o at.0)) tt (omega arith) c.self.invariant)

pub returns-clause-member : goal.returns-clause-member
returns-clause-member g c =
    let os = c.self.inside.register.sessions in
    let at = place_of (is_seat c.args.seat.now) os c.in-Some.place (sym c.in-Some.ensures) in
    let d = some_item os c.in-Some.place at.0 in
    rw (← c.self.view_is) (c.member_for-member.ensures.member ∙ member_at c.args.seat.now c.args.at.now (pool_of c.self.inside.register.sessions c.self.inside.given c.self.inside.max_sessions c.self.inside.sets_max c.self.inside.register.session_ttl c.self.inside.register.set_ttl) c.in-Some.place d at.0 (at.1 d))

pub returns-clause-plain : goal.returns-clause-plain
returns-clause-plain g c =
    let os = c.self.inside.register.sessions in
    let at = place_of (is_seat c.args.seat.now) os c.in-Some.place (sym c.in-Some.ensures) in
    let d = some_item os c.in-Some.place at.0 in
    let o = get_or os c.in-Some.place d in
    let there = address_is c.args.at.now c.member_for-member.result c.index-at-member.result c.index-at-member.result c.member_for-member.ensures.within c.index-at-member.is refl in
    let member = c.member_for-member.ensures.member ∙ member_at c.args.seat.now c.args.at.now (pool_of c.self.inside.register.sessions c.self.inside.given c.self.inside.max_sessions c.self.inside.sets_max c.self.inside.register.session_ttl c.self.inside.register.set_ttl) c.in-Some.place d at.0 (at.1 d) in
    rw (← c.self.view_is, c.move_to.ensures.moved d, there) (ap (counted c.self.inside.fulls c.self.inside.opens c.self.inside.booked) (redial_at c.args.seat.now c.args.at.now (pool_of c.self.inside.register.sessions c.self.inside.given c.self.inside.max_sessions c.self.inside.sets_max c.self.inside.register.session_ttl c.self.inside.register.set_ttl) c.in-Some.place o c.member_for-member.result at.0 at.1 (get_or_default os c.in-Some.place d o at.0) c.self.invariant.ascends member))
