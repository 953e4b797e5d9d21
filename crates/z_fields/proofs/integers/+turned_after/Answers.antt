use Rattle.std.proofs.Common.{◌≡◌, ◌-◌, ◌^◌, length, take, drop, arith, rules}
use Rattle.z_ber.proofs.Room.{room_more, room_now}
use Rattle.z_fields.proofs.integers.+turned_after.Goals as goal

pub overflow_mul-high : goal.overflow_mul-high
overflow_mul-high t c = omega (arith, room_now (2 ^ 63) c.args.high (length c.args.octets.now) 0 (omega arith) (omega arith) c.requires)

pub overflow_add-high : goal.overflow_add-high
overflow_add-high t c = omega (arith, room_now (2 ^ 63) c.args.high (length c.args.octets.now) c.from.result (omega arith) (omega arith) c.requires)

pub turned_after-requires : goal.turned_after-requires
turned_after-requires t c =
    let n : length (take (length c.args.octets.now - 1) (drop 1 c.args.octets.now)) ≡ length c.args.octets.now - 1 = search rules in
    (search rules, rw n (omega (arith, room_more (2 ^ 63) c.args.high (length c.args.octets.now) c.from.result (omega arith) (omega arith) c.requires)))
