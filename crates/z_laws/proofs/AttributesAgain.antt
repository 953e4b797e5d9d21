-- Attributes and a term that are written are read again.
use Rattle.std.proofs.Common.{◌≡◌, ◌∙◌, true, pos, List, [], ◌∷◌, map, Ok, lit<, ap, refl}
use Rattle.std.specs.List.{flat_map, AllByRecursion}
use Rattle.z_types.specs.declared.query.Attr.{Attr}
use Rattle.z_types.specs.declared.query.Term.{Term}
use Rattle.z_types.specs.declared.query.Term.TheVariants.{General, Number, Words}
use Rattle.z_types.specs.declared.requests.Asked.TheVariants.{Good}
use Rattle.z_ber.specs.Element.{Forest, none, leaf, branch}
use Rattle.z_ber.specs.Written.{int_octets, oid_octets}
use Rattle.unit_forms.specs.Fields.{primitive, constructed, sequence}
use Rattle.unit_forms.specs.Query.{term_octets, attr_fields, attr_octets, attributes_plus_term}
use Rattle.unit_forms.specs.Reading.Answers.{all_asked, read_as}
use Rattle.unit_forms.specs.Reading.Rows.{number_of, oid_of, required, required_of, optional}
use Rattle.unit_forms.specs.Reading.Attributes.{value_choice, value_of, attr_in, attr_of, attrs_in, attrs_of, term_choice, term_of, attrs_and_term_in}
use Rattle.z_laws.specs.Readable.{IsReadableAttr, IsReadableTerm}
use Rattle.z_laws.proofs.Beginning.{Spells}
use Rattle.z_laws.proofs.Forests.{joined}
use Rattle.z_laws.proofs.Lookup.{maybe_leaf, or_else-none, first_of-joined, first_of-maybe_leaf}
use Rattle.z_laws.proofs.Parts.{◌⊕◌, spells-primitive, spells-constructed, spells-maybe, branches, spells-branches, number_once, integer_once, oid_if, each-branches}

-- the elements of an AttributeElement
abbrev pub attr_forest : Attr → Forest
attr_forest attr =
    joined (joined (maybe_leaf (primitive 1) oid_octets attr.set)
    (leaf (primitive 120) (int_octets (pos attr.kind)) none))
    (leaf (primitive 121) (int_octets (pos attr.value)) none)

spells-attr_fields : (attr : Attr) → Spells (attr_fields attr) (attr_forest attr)
unfolding attr_fields
spells-attr_fields attr =
    spells-maybe 1 oid_octets attr.set (lit< tt) ⊕ spells-primitive 120 _ (lit< tt) ⊕ spells-primitive 121 _ (lit< tt)

attr-set : (attr : Attr) → IsReadableAttr attr → optional 1 oid_of (attr_forest attr) ≡ Ok attr.set
attr-set attr h = simp (first_of-joined, first_of-maybe_leaf, or_else-none) (oid_if (primitive 1) attr.set refl h.set)

attr-kind : (attr : Attr) → IsReadableAttr attr → required 120 number_of (attr_forest attr) ≡ Ok attr.kind
attr-kind attr h = simp (first_of-joined, first_of-maybe_leaf) (number_once 120 attr.kind h.kind)

attr-value : (attr : Attr) → IsReadableAttr attr → required_of 121 value_choice value_of (attr_forest attr) ≡ Ok (Good attr.value)
attr-value attr h = simp (first_of-joined, first_of-maybe_leaf) (ap (read_as Good) (number_once 121 attr.value h.value))

attr_in-again : (attr : Attr) → IsReadableAttr attr → attr_in (attr_forest attr) ≡ Ok (Good attr)
unfolding attr_in
attr_in-again attr h = rw (attr-set attr h, attr-kind attr h, attr-value attr h) refl

all_asked-good : {A : Type 0} (xs : List A) → all_asked (map Good xs) ≡ Good xs
all_asked-good [] = refl
all_asked-good (x ∷ xs) = rw (all_asked-good xs) refl

-- the elements of an AttributeList
abbrev attrs_forest : List Attr → Forest
attrs_forest attrs = branches sequence attr_fields attr_forest attrs

attrs_in-again : (attrs : List Attr) → AllByRecursion IsReadableAttr attrs → attrs_in (attrs_forest attrs) ≡ Ok (Good attrs)
unfolding attrs_in
attrs_in-again attrs h =
    let all = each-branches (λ field. true) attr_of sequence attr_fields attr_forest Good IsReadableAttr attrs (λ attr. refl) attr_in-again h in
    ap (read_as all_asked) all ∙ ap Ok (all_asked-good attrs)

-- the element of a Term
abbrev pub term_forest : Term → Forest
term_forest (General octets) = leaf (primitive 45) octets none
term_forest (Number value) = leaf (primitive 215) (int_octets value) none
term_forest (Words octets) = leaf (primitive 216) octets none

pub spells-term : (term : Term) → Spells (term_octets term) (term_forest term)
spells-term (General octets) = spells-primitive 45 octets (lit< tt)
spells-term (Number value) = spells-primitive 215 (int_octets value) (lit< tt)
spells-term (Words octets) = spells-primitive 216 octets (lit< tt)

-- the elements of an AttributesPlusTerm
abbrev pub plus_forest : List Attr → Term → Forest
plus_forest attrs term =
    joined (branch (constructed 44) (flat_map attr_octets attrs) (attrs_forest attrs) none) (term_forest term)

pub spells-plus : (attrs : List Attr) (term : Term) → Spells (attributes_plus_term attrs term) (plus_forest attrs term)
spells-plus attrs term =
    spells-constructed 44 _ (attrs_forest attrs) (lit< tt) (spells-branches sequence attr_fields attr_forest attrs (lit< tt, lit< tt) refl spells-attr_fields) ⊕ spells-term term

plus-attrs : (attrs : List Attr) (term : Term) → AllByRecursion IsReadableAttr attrs → required 44 attrs_of (plus_forest attrs term) ≡ Ok (Good attrs)
plus-attrs attrs term h = attrs_in-again attrs h

plus-term : (attrs : List Attr) (term : Term) → IsReadableTerm term → required_of 45 term_choice term_of (plus_forest attrs term) ≡ Ok (Good term)
plus-term attrs (General octets) h = refl
plus-term attrs (Number value) h = ap (read_as (λ number. Good (Number number))) (integer_once 215 value h)
plus-term attrs (Words octets) h = refl

pub attrs_and_term_in-again : (attrs : List Attr) (term : Term) → AllByRecursion IsReadableAttr attrs → IsReadableTerm term → attrs_and_term_in (plus_forest attrs term) ≡ Ok (Good (attrs, term))
unfolding attrs_and_term_in
attrs_and_term_in-again attrs term a t = rw (plus-attrs attrs term a, plus-term attrs term t) refl
