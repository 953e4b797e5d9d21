use Rattle.std.proofs.Common.{◌≡◌, fold, flat_map, take}
use Rattle.record_cache.specs.Keys.{attribute_input}
use Rattle.record_cache.proofs.hashed.hash_attributes.Given as goal

-- the items before this one are fed
abbrev pub invariant-loop-attribute : goal.invariant-loop-attribute
invariant-loop-attribute g l =
    l.state ≡ fold g.H.Hasher.write l.initial.state (flat_map attribute_input (take l.attribute-index l.attributes))
