use Rattle.std.proofs.Common.{◌<◌, ◌-◌, length, subst, arith}
use Rattle.std.proofs.lemmas.List.{take_all, length-map}
use Rattle.pool_sets.specs.TableView.{entry_of}
use Rattle.pool_sets.proofs.OrderLemmas.{falls_later}
use Rattle.pool_sets.proofs.RoomLemmas.{free_keys, finds_none}
use Rattle.pool_sets.proofs.table.SetTable.record_.Goals as goal

pub put_first-requires : goal.put_first-requires
put_first-requires c =
    let room = rw (← c.self.view_is) at c.requires.room in
    record { free = finds_none c.args.slot c.self.inside.sets.entries (free_keys c.args.slot c.self.inside.sets.entries room.free) }

pub invariant_of-self-2 : goal.invariant_of-self-2
invariant_of-self-2 c =
    let room = rw (← c.self.view_is) at c.requires.room in
    let es = c.self.inside.sets.entries in
    let fewer : length es < c.self.inside.sets.cap = subst (λ n. n < c.self.inside.sets.cap) (length-map es entry_of) room.fewer in
    let same = take_all (c.self.inside.sets.cap - 1) es (omega arith) in
    rw (c.in_ok-put_first.ensures.ok, same) (record {
      some = c.self.invariant.some;
      few = c.self.invariant.few;
      slots = (room.within, c.self.invariant.slots);
      order = (omega arith, falls_later c.self.inside.latest c.max-used.result es (omega arith) c.self.invariant.order);
    })
