-- For proofs alone: result sets of a client are tested and copied exactly (this project's own)
use Rattle.std.specs.Prelude.{refl}
use Rattle.z_types.specs.equality.Parts.{Exactness, part, ◌⊗◌, made_of, number, text, list}
use Rattle.z_types.specs.equality.RpnQuery.{rpn_query}
use Rattle.z_types.specs.declared.known_set.KnownSet.{KnownSet}

abbrev pub known_set : Exactness KnownSet
known_set = made_of
    (part (λ (s : KnownSet). s.name) text
    ⊗ part (λ s. s.legs) (list number)
    ⊗ part (λ s. s.query) rpn_query
    ⊗ part (λ s. s.hits) (list number))
    (λ (name, (legs, (query, hits))).
    record { name = name; legs = legs; query = query; hits = hits })
    (λ _. refl)
