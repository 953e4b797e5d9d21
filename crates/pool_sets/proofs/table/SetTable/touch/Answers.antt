use Rattle.std.proofs.Common.{refl, ◌≡◌, ◌<◌, sym, Some, None, nat_eq}
use Rattle.std.specs.Map.{lookup}
use Rattle.pool_sets.proofs.TableLemmas.{touched, untouched, all_used}
use Rattle.pool_sets.proofs.OrderLemmas.{falls_used}
use Rattle.pool_sets.proofs.table.SetTable.touch.Goals as goal

pub returns-in_err-set-clause-hits : goal.returns-in_err-set-clause-hits
returns-in_err-set-clause-hits c =
    let none : lookup (nat_eq c.args.slot) c.self.inside.sets.entries ≡ None = sym (rw c.in_err-set.was at c.get_mut.ensures.value) in
    let at = untouched c.args.slot c.self.inside.sets c.self.inside.latest none in
    rw (← c.self.view_is, c.from_residual.ensures, at) refl

pub returns-in_err-set-clause-after : goal.returns-in_err-set-clause-after
returns-in_err-set-clause-after c =
    let none : lookup (nat_eq c.args.slot) c.self.inside.sets.entries ≡ None = sym (rw c.in_err-set.was at c.get_mut.ensures.value) in
    let at = untouched c.args.slot c.self.inside.sets c.self.inside.latest none in
    rw (← c.self.view_is, at) refl

pub invariant_of-self-2 : goal.invariant_of-self-2
invariant_of-self-2 c = record {
  some = c.self.invariant.some;
  few = c.self.invariant.few;
  slots = all_used (λ slot. slot < c.self.inside.sets.cap) (nat_eq c.args.slot) c.self.inside.sets.entries _ c.self.invariant.slots;
  order = falls_used c.args.slot c.self.inside.latest c.in_ok-set.set.now c.self.inside.sets.entries (sym (rw c.in_ok-set.was at c.get_mut.ensures.value)) c.self.invariant.order;
}

pub returns-clause-hits : goal.returns-clause-hits
returns-clause-hits c =
    let some : lookup (nat_eq c.args.slot) c.self.inside.sets.entries ≡ Some c.in_ok-set.set.now = sym (rw c.in_ok-set.was at c.get_mut.ensures.value) in
    rw (← c.self.view_is) (touched c.args.slot c.in_ok-set.set.now c.self.inside.sets c.self.inside.latest c.len.ensures.valid.0 some).0

pub returns-clause-after : goal.returns-clause-after
returns-clause-after c =
    let some : lookup (nat_eq c.args.slot) c.self.inside.sets.entries ≡ Some c.in_ok-set.set.now = sym (rw c.in_ok-set.was at c.get_mut.ensures.value) in
    rw (← c.self.view_is) (touched c.args.slot c.in_ok-set.set.now c.self.inside.sets c.self.inside.latest c.len.ensures.valid.0 some).1
