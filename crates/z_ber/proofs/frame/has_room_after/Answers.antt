use Rattle.std.proofs.Common.{arith}
use Rattle.z_ber.proofs.Room.{room_first}
use Rattle.z_ber.proofs.frame.has_room_after.Goals as goal

pub padded_number-least-requires : goal.padded_number-least-requires
padded_number-least-requires c = room_first c.min-count.result (omega arith)
