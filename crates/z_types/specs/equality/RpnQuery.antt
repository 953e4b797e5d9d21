-- For proofs alone: whole queries are tested and copied exactly (this project's own)
use Rattle.std.specs.Prelude.{refl}
use Rattle.z_types.specs.equality.Parts.{Exactness, part, ◌⊗◌, made_of, text}
use Rattle.z_types.specs.equality.Query.{tree}
use Rattle.z_types.specs.declared.query.RpnQuery.{RpnQuery}

abbrev pub rpn_query : Exactness RpnQuery
rpn_query = made_of
    (part (λ (q : RpnQuery). q.attr_set) text
    ⊗ part (λ q. q.root) tree)
    (λ (attr_set, root). record { attr_set = attr_set; root = root })
    (λ _. refl)
