use Rattle.std.proofs.Common.{◌<◌, nat_eq, ap}
use Rattle.pool_sets.proofs.TableLemmas.{all_removed, removed_is_without}
use Rattle.pool_sets.proofs.OrderLemmas.{falls_removed}
use Rattle.pool_sets.proofs.table.SetTable.forget.Goals as goal

pub invariant_of-self : goal.invariant_of-self
invariant_of-self c = rw c.drop_slot.ensures (record {
  some = c.self.invariant.some;
  few = c.self.invariant.few;
  slots = all_removed (λ slot. slot < c.self.inside.sets.cap) (nat_eq c.args.slot) c.self.inside.sets.entries c.self.invariant.slots;
  order = falls_removed c.self.inside.latest (nat_eq c.args.slot) c.self.inside.sets.entries c.self.invariant.order;
})

pub returns : goal.returns
returns c =
    rw (← c.self.view_is, c.drop_slot.ensures) (ap (λ es. (record { entries = es; most = c.self.inside.sets.cap; latest = c.self.inside.latest })) (removed_is_without c.args.slot c.self.inside.sets.entries c.len.ensures.valid.0))
