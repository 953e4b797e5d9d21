use Rattle.pool_sets.proofs.RoomLemmas.{room_at_free, room_at_last}
use Rattle.pool_sets.proofs.table.SetTable.room.Goals as goal

pub returns-in-Some-clause-room : goal.returns-in-Some-clause-room
returns-in-Some-clause-room c = room_at_free c.args.self.now c.in-Some.slot c.check_slots.ensures.slots c.in-Some.ensures

pub returns-clause-room : goal.returns-clause-room
returns-clause-room c = rw (c.forget.ensures, c.last_slot-slot.ensures) (room_at_last c.args.self.now c.check_slots.ensures.slots)
