-- For proofs alone: limits are tested exactly (this project's own)
use Rattle.std.specs.Prelude.{refl}
use Rattle.z_types.specs.equality.Parts.{Exactness, part, ◌⊗◌, made_of, number}
use Rattle.z_types.specs.declared.limits.Limits.{Limits}

abbrev pub limits : Exactness Limits
limits = made_of
    (part (λ (l : Limits). l.units) number
    ⊗ part (λ l. l.searches) number
    ⊗ part (λ l. l.records) number
    ⊗ part (λ l. l.sets) number)
    (λ (units, (searches, (records, sets))).
    record { units = units; searches = searches; records = records; sets = sets })
    (λ _. refl)
