use Rattle.std.proofs.Common.{◌<◌, ◌^◌, arith, rules}
use Rattle.z_ber.proofs.Room.{room_of}
use Rattle.z_fields.proofs.bits.+mirrored_number.Goals as goal

pub overflow_mul-result : goal.overflow_mul-result
overflow_mul-result t c =
    let small : c.mirrored_number.result < 256 ^ 4 = room_of _ _ 4 c.mirrored_number.ensures.small (search rules) in
    omega arith

pub overflow_add-result : goal.overflow_add-result
overflow_add-result t c =
    let small : c.mirrored_number.result < 256 ^ 4 = room_of _ _ 4 c.mirrored_number.ensures.small (search rules) in
    omega arith
