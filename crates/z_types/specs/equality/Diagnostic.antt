-- For proofs alone: diagnostics are tested and copied exactly (this project's own)
use Rattle.std.specs.Prelude.{refl}
use Rattle.z_types.specs.equality.Parts.{Exactness, part, ◌⊗◌, made_of, number, text}
use Rattle.z_types.specs.declared.diagnostic.Diag.{Diag}

abbrev pub diagnostic : Exactness Diag
diagnostic = made_of
    (part (λ (d : Diag). d.set) text
    ⊗ part (λ d. d.condition) number
    ⊗ part (λ d. d.addinfo) text)
    (λ (set, (condition, addinfo)). record { set = set; condition = condition; addinfo = addinfo })
    (λ _. refl)
