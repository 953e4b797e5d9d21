use Rattle.std.proofs.Common.{◌<◌, ◌^◌, arith, rules}
use Rattle.z_ber.proofs.Room.{room_of}
use Rattle.z_ber.proofs.values.read_bits.Goals as goal

pub overflow_cast-mirrored_number : goal.overflow_cast-mirrored_number
overflow_cast-mirrored_number c =
    let small : c.mirrored_number.result < 256 ^ 4 = room_of _ _ 4 c.mirrored_number.ensures.small (search rules) in
    omega arith
