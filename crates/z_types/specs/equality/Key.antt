-- For proofs alone: keys of result sets are tested and copied exactly (this project's own)
use Rattle.std.specs.Prelude.{refl}
use Rattle.z_types.specs.equality.Parts.{Exactness, part, ◌⊗◌, made_of, text, list}
use Rattle.z_types.specs.equality.RpnQuery.{rpn_query}
use Rattle.z_types.specs.declared.key.SetKey.{SetKey}

abbrev pub key : Exactness SetKey
key = made_of
    (part (λ (k : SetKey). k.dbs) (list text)
    ⊗ part (λ k. k.query) rpn_query)
    (λ (dbs, query). record { dbs = dbs; query = query })
    (λ _. refl)
