-- For proofs alone: schemas are tested and copied exactly (this project's own)
use Rattle.std.specs.Prelude.{refl}
use Rattle.z_types.specs.equality.Parts.{Exactness, part, ◌⊗◌, made_of, text}
use Rattle.z_types.specs.declared.schemas.Schema.{Schema}

abbrev pub schema : Exactness Schema
schema = made_of
    (part (λ (s : Schema). s.name) text
    ⊗ part (λ s. s.uri) text
    ⊗ part (λ s. s.element) text)
    (λ (name, (uri, element)). record { name = name; uri = uri; element = element })
    (λ _. refl)
