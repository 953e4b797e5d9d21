use Rattle.z_ber.proofs.Room.{room_first}
use Rattle.z_ber.proofs.values.read_signed.Goals as goal

pub padded_number-requires : goal.padded_number-requires
padded_number-requires c = room_first _ c.requires

pub turned_number-requires : goal.turned_number-requires
turned_number-requires c = room_first _ c.requires
