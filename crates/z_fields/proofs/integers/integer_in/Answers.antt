use Rattle.std.proofs.Common.{◌≡◌, ◌-◌, length, take, drop, arith, rules}
use Rattle.z_fields.proofs.IntegerLemmas.{eight_octets}
use Rattle.z_fields.proofs.integers.integer_in.Goals as goal

pub number_after-requires : goal.number_after-requires
number_after-requires c =
    let n : length (take (length c.args.contents.now - 1) (drop 1 c.args.contents.now)) ≡ length c.args.contents.now - 1 = search rules in
    rw n (eight_octets c.from.result (length c.args.contents.now - 1) (omega arith) (omega arith))

pub turned_after-requires : goal.turned_after-requires
turned_after-requires c =
    let n : length (take (length c.args.contents.now - 1) (drop 1 c.args.contents.now)) ≡ length c.args.contents.now - 1 = search rules in
    rw n (eight_octets c.from-else-first-lt128.result (length c.args.contents.now - 1) (omega arith) (omega arith))
