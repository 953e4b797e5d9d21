use Rattle.std.proofs.Common.{◌≡◌, fold, flat_map, take}
use Rattle.record_cache.specs.Keys.{text_input}
use Rattle.record_cache.proofs.hashed.hash_names.Given as goal

-- the items before this one are fed
abbrev pub invariant-loop-name : goal.invariant-loop-name
invariant-loop-name g l =
    l.state ≡ fold g.H.Hasher.write l.initial.state (flat_map text_input (take l.name-index l.names))
