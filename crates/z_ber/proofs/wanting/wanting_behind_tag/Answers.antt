use Rattle.std.proofs.Common.{arith}
use Rattle.z_ber.proofs.Room.{room_first}
use Rattle.z_ber.proofs.wanting.wanting_behind_tag.Goals as goal

pub padded_number-requires : goal.padded_number-requires
padded_number-requires c = room_first c.min-count.result (omega arith)
