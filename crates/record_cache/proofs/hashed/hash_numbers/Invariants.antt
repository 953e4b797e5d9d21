use Rattle.std.proofs.Common.{◌≡◌, fold, flat_map, take}
use Rattle.std.specs.Hash as fed
use Rattle.record_cache.proofs.hashed.hash_numbers.Given as goal

-- the items before this one are fed
abbrev pub invariant-loop-number : goal.invariant-loop-number
invariant-loop-number g l =
    l.state ≡ fold g.H.Hasher.write l.initial.state (flat_map fed.u64 (take l.number-index l.numbers))
