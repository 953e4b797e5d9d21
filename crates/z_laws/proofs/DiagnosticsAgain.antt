-- Diagnostics that are written are read again.
use Rattle.std.proofs.Common.{◌≡◌, ◌∙◌, pos, List, Ok, lit<, ap, refl}
use Rattle.std.specs.List.{flat_map, AllByRecursion}
use Rattle.z_types.specs.declared.diagnostic.Diag.{Diag}
use Rattle.z_ber.specs.Element.{Forest, none, leaf, branch}
use Rattle.z_ber.specs.Written.{int_octets, oid_octets}
use Rattle.unit_forms.specs.Fields.{sequence, object_identifier_tag, integer_tag, general_string_tag}
use Rattle.unit_forms.specs.Records.{diag_fields, diag_octets}
use Rattle.unit_forms.specs.Reading.Elements.{field_of, has_tag}
use Rattle.unit_forms.specs.Reading.Rows.{number_of, universal}
use Rattle.unit_forms.specs.Reading.Diagnostics.{diag_in, diag_of}
use Rattle.unit_forms.specs.Reading.Records.{diags_in}
use Rattle.z_laws.specs.ReadableReplies.{IsReadableDiag}
use Rattle.z_laws.proofs.Beginning.{Spells, spells-leaf, spells-branch}
use Rattle.z_laws.proofs.Forests.{joined}
use Rattle.z_laws.proofs.Values.{number_in-again}
use Rattle.z_laws.proofs.Parts.{◌⊕◌, branches, spells-branches, oid_once, each-branches, map-same}

-- the elements of a diagnostic
abbrev pub diag_forest : Diag → Forest
diag_forest diag =
    joined (joined (leaf object_identifier_tag (oid_octets diag.set) none)
    (leaf integer_tag (int_octets (pos diag.condition)) none))
    (leaf general_string_tag diag.addinfo none)

pub spells-diag_fields : (diag : Diag) → Spells (diag_fields diag) (diag_forest diag)
unfolding diag_fields
spells-diag_fields diag =
    spells-leaf object_identifier_tag _ (lit< tt, lit< tt) refl ⊕ spells-leaf integer_tag _ (lit< tt, lit< tt) refl ⊕ spells-leaf general_string_tag diag.addinfo (lit< tt, lit< tt) refl

pub spells-diag : (diag : Diag) → Spells (diag_octets diag) (branch sequence (diag_fields diag) (diag_forest diag) none)
spells-diag diag = spells-branch sequence _ (diag_forest diag) (lit< tt, lit< tt) refl (spells-diag_fields diag)

diag-condition : (diag : Diag) → IsReadableDiag diag → number_of (field_of integer_tag (int_octets (pos diag.condition)) none) ≡ Ok diag.condition
diag-condition diag h = rw (number_in-again diag.condition h.condition) refl

pub diag_in-again : (diag : Diag) → IsReadableDiag diag → diag_in (diag_forest diag) ≡ Ok diag
unfolding diag_in
diag_in-again diag h = rw (oid_once object_identifier_tag diag.set refl h.set, diag-condition diag h) refl

-- diagnostics one after another
abbrev pub diags_forest : List Diag → Forest
diags_forest diags = branches sequence diag_fields diag_forest diags

pub spells-diags : (diags : List Diag) → Spells (flat_map diag_octets diags) (diags_forest diags)
spells-diags diags =
    spells-branches sequence diag_fields diag_forest diags (lit< tt, lit< tt) refl spells-diag_fields

pub diags_in-again : (diags : List Diag) → AllByRecursion IsReadableDiag diags → diags_in (diags_forest diags) ≡ Ok diags
unfolding diags_in
diags_in-again diags h =
    each-branches (λ field. has_tag field.tag (universal 16)) diag_of sequence diag_fields diag_forest (λ diag. diag) IsReadableDiag diags (λ diag. refl) diag_in-again h
    ∙ ap Ok (map-same diags)
