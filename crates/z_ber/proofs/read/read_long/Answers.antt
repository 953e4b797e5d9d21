use Rattle.z_ber.proofs.Room.{room_first}
use Rattle.z_ber.proofs.read.read_long.Goals as goal

pub padded_number-requires : goal.padded_number-requires
padded_number-requires c = room_first c.args.count c.requires
