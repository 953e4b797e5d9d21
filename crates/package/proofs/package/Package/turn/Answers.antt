use Rattle.std.proofs.Common.{◌≡◌, ◌∙◌, ◌+◌, ◌++◌, true, false, List, length, ap, sym, subst, arith}
use Rattle.std.proofs.lemmas.List.{append-nil, length-append, length-map, map-append}
use Rattle.leg.specs.LegView.{LegView}
use Rattle.leg.specs.declared.accounts.Account.{Account}
use Rattle.package.specs.steps.Packages.{AreDone, accounts_of}
use Rattle.package.proofs.CountLemmas.{kept_first}
use Rattle.package.proofs.PlanLemmas.{done_answer, first_turned, is_planned, later_turned, none_later, plans_of, plans_over}
use Rattle.package.proofs.package.Package.turn.Goals as goal

pub turn_all-round-requires-clause-of : goal.turn_all-round-requires-clause-of
turn_all-round-requires-clause-of g c =
    let of = rw (← c.self.view_is) at c.requires.of in of.later

pub turn_all-round-requires-clause-accounts : goal.turn_all-round-requires-clause-accounts
turn_all-round-requires-clause-accounts g c =
    let first = c.self.inside.first.items in
    let later = c.self.inside.later.items in
    let count : length c.self.inside.accounts ≡ length first + length later =
    ap (λ (xs : List Account). length xs) c.self.invariant ∙ length-map (first ++ later) (λ (l : LegView g.row.S.Denot). l.account)
    ∙ length-append first later in
    omega (arith, count, c.len-others.ensures)

pub invariant_of-self : goal.invariant_of-self
invariant_of-self g c =
    c.turn_all-round.ensures.accounts
    ∙ ap (λ (xs : List Account). xs ++ accounts_of c.turn_all-round.new.legs.items)
    (kept_first c.self.inside.first.items c.self.inside.later.items c.self.inside.accounts c.len-others.result c.self.invariant
    (omega (arith, c.len-others.ensures)))
    ∙ sym (map-append (λ (l : LegView g.row.S.Denot). l.account) c.self.inside.first.items c.turn_all-round.new.legs.items)

pub returns-then-self-clause-of : goal.returns-then-self-clause-of
returns-then-self-clause-of g c =
    let of = rw (← c.self.view_is) at c.requires.of in
    let most = c.turn_all-round.ensures.most in
    later_turned g.W.World g.S.Sitting c.args.route.now (g.D.Door.counts c.turn_all-round.new.door).most _ c.turn_all-round.new.legs.items
    (rw (← most) at of) c.if-self.true c.turn_all-round.ensures.of c.turn_all-round.ensures.asked

pub returns-then-self-clause-done : goal.returns-then-self-clause-done
returns-then-self-clause-done g c e =
    let of = rw (← c.self.view_is) at c.requires.of in
    let over : c.all_done.result ≡ true = done_answer c.all_done.result c.turn_all-round.result (sym c.answer.ensures ∙ e) in record {
      planned = c.if-self.true;
      first = (is_planned c.args.route.now _ of.asks c.if-self.true).0;
      later = subst AreDone c.as_slice.ensures.value (c.all_done.ensures.fits over);
    }

pub turn_all-round-requires-2-clause-of : goal.turn_all-round-requires-2-clause-of
turn_all-round-requires-2-clause-of g c =
    let of = rw (← c.self.view_is) at c.requires.of in of.first

pub invariant_of-self-then-not-all_done : goal.invariant_of-self-then-not-all_done
invariant_of-self-then-not-all_done g c =
    let of = rw (← c.self.view_is) at c.requires.of in
    let legs = c.turn_all-round-2.new.legs.items in
    c.turn_all-round-2.ensures.accounts
    ∙ ap accounts_of (sym (append-nil legs)
    ∙ ap (λ (xs : List (LegView g.row.S.Denot)). legs ++ xs) (sym (none_later c.args.route.now _ of.asks c.if-self.false)))

pub returns-then-not-all_done-clause-of : goal.returns-then-not-all_done-clause-of
returns-then-not-all_done-clause-of g c =
    let of = rw (← c.self.view_is) at c.requires.of in
    let most = c.turn_all-round-2.ensures.most in
    first_turned g.W.World g.S.Sitting c.args.route.now (g.D.Door.counts c.turn_all-round-2.new.door).most _ c.turn_all-round-2.new.legs.items
    (rw (← most) at of) c.if-self.false c.turn_all-round-2.ensures.of c.turn_all-round-2.ensures.asked

pub returns-then-not-all_done-clause-done : goal.returns-then-not-all_done-clause-done
returns-then-not-all_done-clause-done g c e =
    let no : false ≡ true = done_answer false c.turn_all-round-2.result (sym c.answer-then-not-all_done.ensures ∙ e) in absurd cc

pub invariant_of-self-2 : goal.invariant_of-self-2
invariant_of-self-2 g c =
    let of = rw (← c.self.view_is) at c.requires.of in
    let legs = c.turn_all-round-2.new.legs.items in
    c.turn_all-round-2.ensures.accounts
    ∙ ap accounts_of (sym (append-nil legs)
    ∙ ap (λ (xs : List (LegView g.row.S.Denot)). legs ++ xs) (sym (none_later c.args.route.now _ of.asks c.if-self.false)))

pub plan-requires-clause-asks : goal.plan-requires-clause-asks
plan-requires-clause-asks g c =
    let of = rw (← c.self.view_is) at c.requires.of in
    let most = c.turn_all-round-2.ensures.most in
    let now = first_turned g.W.World g.S.Sitting c.args.route.now (g.D.Door.counts c.turn_all-round-2.new.door).most _
    c.turn_all-round-2.new.legs.items (rw (← most) at of) c.if-self.false c.turn_all-round-2.ensures.of
    c.turn_all-round-2.ensures.asked in now.asks

pub plan-requires-clause-done : goal.plan-requires-clause-done
plan-requires-clause-done g c = subst AreDone c.as_slice-2.ensures.value (c.all_done-2.ensures.fits c.if-not-all_done.false)

pub returns-clause-of : goal.returns-clause-of
returns-clause-of g c =
    let of = rw (← c.self.view_is) at c.requires.of in
    let most = c.turn_all-round-2.ensures.most in
    let now = first_turned g.W.World g.S.Sitting c.args.route.now (g.D.Door.counts c.turn_all-round-2.new.door).most _
    c.turn_all-round-2.new.legs.items (rw (← most) at of) c.if-self.false c.turn_all-round-2.ensures.of
    c.turn_all-round-2.ensures.asked in
    plans_of g.W.World g.S.Sitting c.args.route.now (g.D.Door.counts c.turn_all-round-2.new.door).most _ c.plan.new.self c.plan.result now
    (subst AreDone c.as_slice-2.ensures.value (c.all_done-2.ensures.fits c.if-not-all_done.false)) c.plan.ensures.work c.plan.ensures.first c.plan.ensures.plans

pub returns-clause-done : goal.returns-clause-done
returns-clause-done g c e =
    plans_over c.args.route.now c.turn_all-round-2.new.legs.items c.plan.new.self c.plan.result
    (subst AreDone c.as_slice-2.ensures.value (c.all_done-2.ensures.fits c.if-not-all_done.false)) c.plan.ensures.first c.plan.ensures.plans e
