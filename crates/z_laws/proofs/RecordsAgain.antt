-- Records that are written, and what stands in their place, are read again.
use Rattle.std.proofs.Common.{◌≡◌, ◌∙◌, ℕ, zero, suc, false, List, [], ◌∷◌, ◌++◌, Option, None, Some, Ok, lit<, sym, ap, subst, append_assoc, arith, refl}
use Rattle.std.specs.Prelude.{IsSome}
use Rattle.std.specs.List.{flat_map, AllByRecursion}
use Rattle.std.proofs.lemmas.List.{append-nil}
use Rattle.z_types.specs.declared.records.Form.{Form}
use Rattle.z_types.specs.declared.records.Form.TheVariants.{Single, Octets, Arbitrary}
use Rattle.z_types.specs.declared.records.Item.{Item}
use Rattle.z_types.specs.declared.records.Item.TheVariants.{Record, Surrogate}
use Rattle.z_types.specs.declared.records.NamedRecord.{NamedRecord}
use Rattle.z_types.specs.declared.records.Body.{Body}
use Rattle.z_types.specs.declared.records.Body.TheVariants as body
use Rattle.z_ber.specs.Element.{Forest, none, leaf, branch, IsElement, AreElements}
use Rattle.z_ber.specs.Written.{element, oid_octets}
use Rattle.z_ber.proofs.TreeLaws.{element_one, no_leaf, no_branch}
use Rattle.unit_forms.specs.Fields.{primitive, constructed, sequence, external, object_identifier, object_identifier_tag}
use Rattle.unit_forms.specs.Records.{diag_fields, diag_octets, encoding_tag, external_octets, item_octets, named_fields, named_octets, body_octets}
use Rattle.unit_forms.specs.Reading.Contents.{bits_in}
use Rattle.unit_forms.specs.Reading.Elements.{first_of, has_tag}
use Rattle.unit_forms.specs.Reading.Answers.{each, read_as}
use Rattle.unit_forms.specs.Reading.Rows.{octets_of, context, universal, required, required_of, optional, within}
use Rattle.unit_forms.specs.Reading.Records.{kept_if, is_single, encoding_choice, encoding_of, external_in, item_in, named_in, named_of, records_in, body_or_none}
use Rattle.z_laws.specs.ReadableReplies.{IsOneElement, IsEncoded, IsReadableItem, IsReadableNamed, IsReadableBody}
use Rattle.z_laws.proofs.Beginning.{are_alone, GoesOn, Spells, spells-nothing, spells-leaf, spells-branch}
use Rattle.z_laws.proofs.Forests.{joined, are-on}
use Rattle.z_laws.proofs.Lookup.{maybe_leaf, or_else-none, first_of-joined, first_of-maybe_leaf}
use Rattle.z_laws.proofs.Parts.{◌⊕◌, spells-primitive, spells-constructed, spells-maybe, oid_once, octets_if}
use Rattle.z_laws.proofs.DiagnosticsAgain.{diag_forest, spells-diag_fields, spells-diag, diag_in-again, diags_forest, spells-diags, diags_in-again}

-- ---- octets that are one element

-- elements in front of which an element stands are some
no_nothing : {P : Type 0} (m : ℕ) (octets rest : List ℕ) (forest : Forest) → IsElement m octets forest → octets ++ rest ≡ [] → P
no_nothing m octets rest none h e = absurd h
no_nothing zero octets rest (leaf t c others) h e = absurd h.1
no_nothing zero octets rest (branch t c inner others) h e = absurd h.1
no_nothing (suc m) octets rest (leaf t c others) h e =
    no_leaf false t c h.1.first (h.1.others ++ rest) [] h.1.here h.1.apart refl (sym e ∙ ap (λ o. o ++ rest) h.1.spelled ∙ append_assoc h.1.first h.1.others rest)
no_nothing (suc m) octets rest (branch t c inner others) h e =
    no_branch false t c h.1.first (h.1.others ++ rest) [] h.1.here refl (sym e ∙ ap (λ o. o ++ rest) h.1.spelled ∙ append_assoc h.1.first h.1.others rest)

-- an element in front of others is the one that it is by itself
pub in_front_of : (levels : ℕ) (octets rest : List ℕ) (tree : Forest) (m : ℕ) (forest : Forest) → IsElement m octets forest → AreElements false levels (octets ++ rest) tree → GoesOn levels rest forest tree
in_front_of levels octets rest none m forest h are = no_nothing m octets rest forest h are
in_front_of zero octets rest (leaf t c others) m forest h are = absurd are
in_front_of zero octets rest (branch t c inner others) m forest h are = absurd are
in_front_of (suc levels) octets rest (leaf t c others) m forest h are =
    let alone : IsElement (suc levels) are.first (leaf t c none) =
    (refl, record { first = are.first; others = []; here = are.here; apart = are.apart; behind = refl; spelled = sym (append-nil are.first) })
    in
    let one = element_one (leaf t c none) forest (suc levels) m are.first octets are.others rest alone h (sym are.spelled) in
    record {
      others = others;
      whole = ap (λ k. joined k others) one.1;
      behind = subst (λ (o : List ℕ). AreElements false (suc levels) o others) one.2 are.behind;
    }
in_front_of (suc levels) octets rest (branch t c inner others) m forest h are =
    let alone : IsElement (suc levels) are.first (branch t c inner none) =
    (refl, record { first = are.first; others = []; here = are.here; apart = are.apart; behind = refl; spelled = sym (append-nil are.first) })
    in
    let one = element_one (branch t c inner none) forest (suc levels) m are.first octets are.others rest alone h (sym are.spelled) in
    record {
      others = others;
      whole = ap (λ k. joined k others) one.1;
      behind = subst (λ (o : List ℕ). AreElements false (suc levels) o others) one.2 are.behind;
    }

spells-element : (octets : List ℕ) (h : IsOneElement octets) → Spells octets h.1
spells-element octets h = record {
  found = λ levels rest tree small are. in_front_of levels octets rest tree h.0 h.1 h.2 are;
  built = λ n low small. are-on h.1 false h.0 n octets (are_alone h.0 octets h.1 h.2) low;
}

single-again : (levels : ℕ) (octets : List ℕ) (tree : Forest) → IsElement levels octets tree → is_single tree octets ≡ Some octets
single-again levels octets none h = absurd h
single-again levels octets (leaf t c others) h = rw h.0 refl
single-again levels octets (branch t c inner others) h = rw h.0 refl

-- ---- an EXTERNAL

-- the element of an encoding
abbrev pub encoding_forest : (form : Form) (octets : List ℕ) → IsEncoded form octets → Forest
encoding_forest Single octets h = branch (constructed 0) octets h.1 none
encoding_forest Octets octets h = leaf (primitive 1) octets none
encoding_forest Arbitrary octets h = leaf (primitive 2) octets none

spells-encoding : (form : Form) (octets : List ℕ) (h : IsEncoded form octets) → Spells (element (encoding_tag form) octets) (encoding_forest form octets h)
spells-encoding Single octets h = spells-constructed 0 octets h.1 (lit< tt) (spells-element octets h)
spells-encoding Octets octets h = spells-primitive 1 octets (lit< tt)
spells-encoding Arbitrary octets h = spells-primitive 2 octets (lit< tt)

kept-again : (octets : List ℕ) (bits : Option ℕ) → IsSome bits → kept_if octets bits ≡ Some octets
kept-again octets None h = absurd cc
kept-again octets (Some bits) h = refl

encoding-again : (form : Form) (octets : List ℕ) (h : IsEncoded form octets) → required_of 0 encoding_choice encoding_of (encoding_forest form octets h) ≡ Ok (form, octets)
encoding-again Single octets h = rw (single-again h.0 octets h.1 h.2) refl
encoding-again Octets octets h = refl
encoding-again Arbitrary octets h = rw (kept-again octets (bits_in octets) h) refl

-- the elements of an EXTERNAL
abbrev pub external_forest : (syntax : List ℕ) (form : Form) (octets : List ℕ) → IsEncoded form octets → Forest
external_forest syntax form octets h =
    joined (leaf object_identifier_tag (oid_octets syntax) none) (encoding_forest form octets h)

spells-external : (syntax : List ℕ) (form : Form) (octets : List ℕ) (h : IsEncoded form octets) → Spells (object_identifier syntax ++ element (encoding_tag form) octets) (external_forest syntax form octets h)
spells-external syntax form octets h =
    spells-leaf object_identifier_tag _ (lit< tt, lit< tt) refl ⊕ spells-encoding form octets h

external_in-again : (syntax : List ℕ) (form : Form) (octets : List ℕ) (h : IsReadableItem (Record syntax form octets)) → external_in (external_forest syntax form octets h.1) ≡ Ok (Record syntax form octets)
unfolding external_in
external_in-again syntax form octets h =
    rw (oid_once object_identifier_tag syntax refl h.0, encoding-again form octets h.1) refl

-- ---- a record

-- the element of a record or of a diagnostic in its place
abbrev pub item_forest : (item : Item) → IsReadableItem item → Forest
item_forest (Record syntax form octets) h =
    branch (constructed 1) (external_octets syntax form octets)
    (branch external (object_identifier syntax ++ element (encoding_tag form) octets) (external_forest syntax form octets h.1) none) none
item_forest (Surrogate diag) h =
    branch (constructed 2) (diag_octets diag) (branch sequence (diag_fields diag) (diag_forest diag) none) none

spells-item : (item : Item) (h : IsReadableItem item) → Spells (item_octets item) (item_forest item h)
unfolding item_octets
spells-item (Record syntax form octets) h =
    spells-constructed 1 _ _ (lit< tt) (spells-branch external _ (external_forest syntax form octets h.1) (lit< tt, lit< tt) refl (spells-external syntax form octets h.1))
spells-item (Surrogate diag) h = spells-constructed 2 _ _ (lit< tt) (spells-diag diag)

item_in-again : (item : Item) (h : IsReadableItem item) → item_in (item_forest item h) ≡ Ok item
unfolding item_in
item_in-again (Record syntax form octets) h = external_in-again syntax form octets h
item_in-again (Surrogate diag) h = ap (read_as Surrogate) (diag_in-again diag h)

-- the elements of a NamePlusRecord
abbrev pub named_forest : (named : NamedRecord) → IsReadableNamed named → Forest
named_forest named h =
    joined (maybe_leaf (primitive 0) (λ x. x) named.name)
    (branch (constructed 1) (item_octets named.item) (item_forest named.item h) none)

spells-named_fields : (named : NamedRecord) (h : IsReadableNamed named) → Spells (named_fields named) (named_forest named h)
spells-named_fields named h =
    spells-maybe 0 (λ x. x) named.name (lit< tt) ⊕ spells-constructed 1 _ _ (lit< tt) (spells-item named.item h)

named-name : (named : NamedRecord) (h : IsReadableNamed named) → optional 0 octets_of (named_forest named h) ≡ Ok named.name
named-name named h = simp (first_of-joined, first_of-maybe_leaf, or_else-none) (octets_if 0 named.name)

named-item : (named : NamedRecord) (h : IsReadableNamed named) → required 1 (within item_in) (named_forest named h) ≡ Ok named.item
named-item named h = simp (first_of-joined, first_of-maybe_leaf) (item_in-again named.item h)

named_in-again : (named : NamedRecord) (h : IsReadableNamed named) → named_in (named_forest named h) ≡ Ok named
unfolding named_in
named_in-again named h = rw (named-name named h, named-item named h) refl

-- records one after another
abbrev pub records_forest : (records : List NamedRecord) → AllByRecursion IsReadableNamed records → Forest
records_forest [] h = none
records_forest (named ∷ records) h =
    branch sequence (named_fields named) (named_forest named h.0) (records_forest records h.1)

spells-records : (records : List NamedRecord) (h : AllByRecursion IsReadableNamed records) → Spells (flat_map named_octets records) (records_forest records h)
unfolding named_octets
spells-records [] h = spells-nothing
spells-records (named ∷ records) h =
    spells-branch sequence _ (named_forest named h.0) (lit< tt, lit< tt) refl (spells-named_fields named h.0) ⊕ spells-records records h.1

each_record-again : (records : List NamedRecord) (h : AllByRecursion IsReadableNamed records) → each (λ field. has_tag field.tag (universal 16)) named_of (records_forest records h) ≡ Ok records
each_record-again [] h = refl
each_record-again (named ∷ records) h = rw (named_in-again named h.0, each_record-again records h.1) refl

records_in-again : (records : List NamedRecord) (h : AllByRecursion IsReadableNamed records) → records_in (records_forest records h) ≡ Ok records
unfolding records_in
records_in-again records h = each_record-again records h

-- ---- what a response has for records

-- the element of Records
abbrev pub body_forest : (records : Body) → IsReadableBody records → Forest
body_forest body.None h = none
body_forest (body.Records []) h = none
body_forest (body.Records (first ∷ rest)) h =
    branch (constructed 28) (flat_map named_octets (first ∷ rest)) (records_forest (first ∷ rest) h.1) none
body_forest (body.Diag diag) h = branch (constructed 130) (diag_fields diag) (diag_forest diag) none
body_forest (body.Diags diags) h = branch (constructed 205) (flat_map diag_octets diags) (diags_forest diags) none

pub spells-body : (records : Body) (h : IsReadableBody records) → Spells (body_octets records) (body_forest records h)
unfolding body_octets
spells-body body.None h = spells-nothing
spells-body (body.Records []) h = spells-nothing
spells-body (body.Records (first ∷ rest)) h =
    spells-constructed 28 _ (records_forest (first ∷ rest) h.1) (lit< tt) (spells-records (first ∷ rest) h.1)
spells-body (body.Diag diag) h = spells-constructed 130 _ (diag_forest diag) (lit< tt) (spells-diag_fields diag)
spells-body (body.Diags diags) h = spells-constructed 205 _ (diags_forest diags) (lit< tt) (spells-diags diags)

-- it is no referenceId and no status
pub body-no_ref_id : (records : Body) (h : IsReadableBody records) → first_of (context 2 ∷ []) (body_forest records h) ≡ None
body-no_ref_id body.None h = refl
body-no_ref_id (body.Records []) h = refl
body-no_ref_id (body.Records (first ∷ rest)) h = refl
body-no_ref_id (body.Diag diag) h = refl
body-no_ref_id (body.Diags diags) h = refl

pub body-no_status : (records : Body) (h : IsReadableBody records) → first_of (context 27 ∷ []) (body_forest records h) ≡ None
body-no_status body.None h = refl
body-no_status (body.Records []) h = refl
body-no_status (body.Records (first ∷ rest)) h = refl
body-no_status (body.Diag diag) h = refl
body-no_status (body.Diags diags) h = refl

pub body-again : (records : Body) (h : IsReadableBody records) → body_or_none (first_of (context 28 ∷ context 130 ∷ context 205 ∷ []) (body_forest records h)) ≡ Ok records
body-again body.None h = refl
body-again (body.Records []) h = absurd (omega (arith, h.0))
body-again (body.Records (first ∷ rest)) h = ap (read_as body.Records) (records_in-again (first ∷ rest) h.1)
body-again (body.Diag diag) h = ap (read_as body.Diag) (diag_in-again diag h)
body-again (body.Diags diags) h = ap (read_as body.Diags) (diags_in-again diags h)
