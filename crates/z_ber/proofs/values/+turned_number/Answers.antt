use Rattle.std.proofs.Common.{◌^◌, arith}
use Rattle.z_ber.proofs.Room.{room_more, room_now}
use Rattle.z_ber.proofs.values.+turned_number.Goals as goal

pub overflow_mul-high : goal.overflow_mul-high
overflow_mul-high t c = omega (arith, room_now (2 ^ 64) c.args.high c.args.count 0 (omega arith) (omega arith) c.requires)

pub turned_number-requires : goal.turned_number-requires
turned_number-requires t c = (omega arith, omega (arith, room_more (2 ^ 64) c.args.high c.args.count 0 (omega arith) (omega arith) c.requires))

pub overflow_mul-high-in-len1-up : goal.overflow_mul-high-in-len1-up
overflow_mul-high-in-len1-up t c = omega (arith, room_now (2 ^ 64) c.args.high c.args.count 0 (omega arith) (omega arith) c.requires)

pub overflow_add-high : goal.overflow_add-high
overflow_add-high t c = omega (arith, room_now (2 ^ 64) c.args.high c.args.count c.from.result (omega arith) (omega arith) c.requires)

pub turned_number-requires-in-len1-up : goal.turned_number-requires-in-len1-up
turned_number-requires-in-len1-up t c =
    (omega arith, omega (arith, room_more (2 ^ 64) c.args.high c.args.count c.from.result (omega arith) (omega arith) c.requires))
