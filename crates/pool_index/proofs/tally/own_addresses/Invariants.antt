use Rattle.std.proofs.Common.{◌≡◌, take}
use Rattle.pool_index.proofs.tally.own_addresses.Given as goal

abbrev pub invariant-loop-address : goal.invariant-loop-address
invariant-loop-address l = l.own ≡ take l.address-index l.at
