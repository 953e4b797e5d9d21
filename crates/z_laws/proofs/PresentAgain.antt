-- A Present that is written is read again.
use Rattle.std.proofs.Common.{◌≡◌, ℕ, pos, List, [], ◌∷◌, Option, None, Some, Ok, lit<, refl}
use Rattle.z_types.specs.declared.requests.Asked.{Asked}
use Rattle.z_types.specs.declared.requests.Asked.TheVariants.{Good, Bad}
use Rattle.z_types.specs.declared.requests.Present.{Present}
use Rattle.z_ber.specs.Element.{Forest, none, leaf}
use Rattle.z_ber.specs.Written.{int_octets, oid_octets}
use Rattle.unit_forms.specs.Fields.{primitive, constructed, octets_field}
use Rattle.unit_forms.specs.Requests.{composition_field, present_fields}
use Rattle.unit_forms.specs.Reading.Elements.{Field, first_of, field_of}
use Rattle.unit_forms.specs.Reading.ElementNames.{composition_or_none, composition_in, names_in}
use Rattle.unit_forms.specs.Reading.PresentRequest.{place_in, form_in, present_in}
use Rattle.unit_forms.specs.Reading.Rows.{octets_of, number_of, integer_of, oid_of, context, required, optional}
use Rattle.z_laws.specs.Readable.{IsAsked, IsAnyName, IsReadablePresent}
use Rattle.z_laws.proofs.Beginning.{Spells, spells-nothing}
use Rattle.z_laws.proofs.Forests.{joined}
use Rattle.z_laws.proofs.Lookup.{maybe_leaf, maybe_field, or_else-none, first_of-joined, first_of-maybe_leaf, first_of-maybe_branch}
use Rattle.z_laws.proofs.Parts.{◌⊕◌, spells-primitive, spells-maybe, number_once, integer_once, octets_if, oid_if}
use Rattle.z_laws.proofs.NamesAgain.{maybe_name, spells-maybe_name, name_forest}

-- the name that is asked for, where one is
abbrev name_of_asked : Asked (Option (List ℕ)) → Option (List ℕ)
name_of_asked (Good name) = name
name_of_asked (Bad diag) = None

-- the elements of a Present
abbrev pub present_forest : Present → Forest
present_forest present =
    joined (joined (joined (joined (joined (maybe_leaf (primitive 2) (λ x. x) present.ref_id)
    (leaf (primitive 31) present.set_name none))
    (leaf (primitive 30) (int_octets present.start) none))
    (leaf (primitive 29) (int_octets (pos present.number)) none))
    (maybe_name 19 (name_of_asked present.element)))
    (maybe_leaf (primitive 104) oid_octets present.syntax)

spells-composition : (asked : Asked (Option (List ℕ))) → Spells (composition_field asked) (maybe_name 19 (name_of_asked asked))
spells-composition (Good name) = spells-maybe_name 19 name (lit< tt)
spells-composition (Bad diag) = spells-nothing

pub spells-present_fields : (present : Present) → Spells (present_fields present) (present_forest present)
unfolding present_fields
spells-present_fields present =
    spells-maybe 2 (λ x. x) present.ref_id (lit< tt) ⊕ spells-primitive 31 present.set_name (lit< tt) ⊕ spells-primitive 30 _ (lit< tt) ⊕ spells-primitive 29 _ (lit< tt) ⊕ spells-composition present.element ⊕ spells-maybe 104 oid_octets present.syntax (lit< tt)

present-ref_id : (present : Present) → optional 2 octets_of (present_forest present) ≡ Ok present.ref_id
present-ref_id present = simp (first_of-joined, first_of-maybe_leaf, first_of-maybe_branch, or_else-none) (octets_if 2 present.ref_id)

present-set_name : (present : Present) → required 31 octets_of (present_forest present) ≡ Ok present.set_name
present-set_name present = simp (first_of-joined, first_of-maybe_leaf, first_of-maybe_branch)

present-start : (present : Present) → IsReadablePresent present → required 30 integer_of (present_forest present) ≡ Ok present.start
present-start present h = simp (first_of-joined, first_of-maybe_leaf, first_of-maybe_branch) (integer_once 30 present.start h.start)

present-number : (present : Present) → IsReadablePresent present → required 29 number_of (present_forest present) ≡ Ok present.number
present-number present h = simp (first_of-joined, first_of-maybe_leaf, first_of-maybe_branch) (number_once 29 present.number h.number)

present-syntax : (present : Present) → IsReadablePresent present → optional 104 oid_of (present_forest present) ≡ Ok present.syntax
present-syntax present h = simp (first_of-joined, first_of-maybe_leaf, first_of-maybe_branch) (oid_if (primitive 104) present.syntax refl h.syntax)

-- the field of a composition
abbrev composition : Option (List ℕ) → Option Field
composition name = maybe_field (λ octets. field_of (constructed 19) (octets_field 0 octets) (name_forest octets)) name

present-ranges : (present : Present) → first_of (context 212 ∷ []) (present_forest present) ≡ None
present-ranges present = simp (first_of-joined, first_of-maybe_leaf, first_of-maybe_branch, or_else-none)

present-composition : (present : Present) → first_of (context 19 ∷ context 209 ∷ []) (present_forest present) ≡ composition (name_of_asked present.element)
present-composition present = simp (first_of-joined, first_of-maybe_leaf, first_of-maybe_branch, or_else-none)

composition-again : (asked : Asked (Option (List ℕ))) → IsAsked IsAnyName asked → composition_or_none (composition (name_of_asked asked)) ≡ Ok asked
unfolding names_in
composition-again (Good None) h = refl
composition-again (Good (Some name)) h = refl
composition-again (Bad diag) h = absurd h

composition_in-again : (present : Present) → IsReadablePresent present → composition_in (present_forest present) ≡ Ok present.element
unfolding composition_in
composition_in-again present h =
    rw (present-ranges present, present-composition present, composition-again present.element h.element) refl

place_in-again : (present : Present) → IsReadablePresent present → place_in (present_forest present) ≡ Ok (present.ref_id, (present.set_name, (present.start, present.number)))
unfolding place_in
place_in-again present h =
    rw (present-ref_id present, present-set_name present, present-start present h, present-number present h) refl

form_in-again : (present : Present) → IsReadablePresent present → form_in (present_forest present) ≡ Ok (present.element, present.syntax)
unfolding form_in
form_in-again present h = rw (composition_in-again present h, present-syntax present h) refl

pub present_in-again : (present : Present) → IsReadablePresent present → present_in (present_forest present) ≡ Ok present
unfolding present_in
present_in-again present h = rw (place_in-again present h, form_in-again present h) refl
