use Rattle.std.proofs.Common.{◌≡◌, drop}
use Rattle.cache_backend.specs.Known.{known_under}
use Rattle.cache_backend.proofs.known.known.Given as goal

-- none of those before this one has the name
abbrev pub invariant-loop-own : goal.invariant-loop-own
invariant-loop-own l = known_under (drop l.own-index l.searched) l.name ≡ known_under l.searched l.name
