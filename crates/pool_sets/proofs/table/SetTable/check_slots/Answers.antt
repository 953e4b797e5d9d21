use Rattle.std.proofs.Common.{◌<◌, sym, subst, nat_eq}
use Rattle.std.specs.List.{AllByRecursion, IsDistinct}
use Rattle.pool_sets.proofs.RoomLemmas.{slots_are_keys}
use Rattle.pool_sets.proofs.table.SetTable.check_slots.Goals as goal

pub returns : goal.returns
returns c =
    let same = sym (slots_are_keys c.self.inside.sets.entries) in
    record {
      slots = rw (← c.self.view_is) (record {
        some = c.self.invariant.some;
        below = subst (AllByRecursion (λ slot. slot < c.self.inside.sets.cap)) same c.self.invariant.slots;
        distinct = subst (IsDistinct nat_eq) same c.len-count.ensures.valid.0;
      });
    }
