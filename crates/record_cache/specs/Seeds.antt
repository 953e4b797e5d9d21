-- For contracts alone: what the hashes of a store begin from (this project's own)
use Rattle.std.specs.Hash.DefaultHasher as sip
use Rattle.std.specs.RandomState.{initial_hasher}
use Rattle.std.specs.declared.hash.DefaultHasher.{DefaultHasher}
use Rattle.record_cache.specs.declared.seed.Seed.{Seed}
use Rattle.record_cache.specs.declared.seed.Seed.TheVariants.{Fixed, Drawn}

-- the hasher without keys, or one with the keys that were drawn
abbrev pub first_state : Seed → DefaultHasher
first_state Fixed = sip.initial
first_state (Drawn state) = initial_hasher state
