-- A Scan that is written is read again.
use Rattle.std.proofs.Common.{◌≡◌, ℕ, pos, List, [], ◌∷◌, Option, Ok, lit<, refl}
use Rattle.z_types.specs.declared.requests.Asked.{Asked}
use Rattle.z_types.specs.declared.requests.Asked.TheVariants.{Good, Bad}
use Rattle.z_types.specs.declared.requests.Scan.{Scan}
use Rattle.z_types.specs.declared.scan.ScanAsk.{ScanAsk}
use Rattle.z_ber.specs.Element.{Forest, none, leaf, branch}
use Rattle.z_ber.specs.Written.{int_octets, oid_octets}
use Rattle.unit_forms.specs.Fields.{primitive, constructed, object_identifier_tag}
use Rattle.unit_forms.specs.Query.{attributes_plus_term}
use Rattle.unit_forms.specs.Requests.{database_names, scan_ask_fields, scan_asked_fields, scan_fields}
use Rattle.unit_forms.specs.Reading.Attributes.{attrs_and_term_in}
use Rattle.unit_forms.specs.Reading.Rows.{octets_of, number_of, oid_of, universal, required, optional, optional_of, within}
use Rattle.unit_forms.specs.Reading.ScanRequest.{start_in, ask_in, scan_in}
use Rattle.unit_forms.specs.Reading.SearchRequest.{databases_of}
use Rattle.z_laws.specs.Readable.{IsAsked, IsReadableAsk}
use Rattle.z_laws.proofs.Beginning.{Spells, spells-nothing}
use Rattle.z_laws.proofs.Forests.{joined}
use Rattle.z_laws.proofs.Lookup.{maybe_leaf, or_else-none, first_of-joined, first_of-maybe_leaf}
use Rattle.z_laws.proofs.Parts.{◌⊕◌, spells-primitive, spells-constructed, spells-maybe, spells-maybe_leaf, number_once, number_if, octets_if, oid_if}
use Rattle.z_laws.proofs.AttributesAgain.{plus_forest, spells-plus, attrs_and_term_in-again}
use Rattle.z_laws.proofs.NamesAgain.{databases_forest, spells-databases, databases_in-again}

-- the elements of what a Scan asks for
abbrev ask_forest : ScanAsk → Forest
ask_forest ask =
    joined (joined (joined (joined (maybe_leaf object_identifier_tag oid_octets ask.attr_set)
    (branch (constructed 102) (attributes_plus_term ask.attrs ask.term) (plus_forest ask.attrs ask.term) none))
    (maybe_leaf (primitive 5) (λ n. int_octets (pos n)) ask.step))
    (leaf (primitive 6) (int_octets (pos ask.number)) none))
    (maybe_leaf (primitive 7) (λ n. int_octets (pos n)) ask.position)

spells-ask : (ask : ScanAsk) → Spells (scan_ask_fields ask) (ask_forest ask)
unfolding scan_ask_fields
spells-ask ask =
    spells-maybe_leaf object_identifier_tag oid_octets ask.attr_set (lit< tt, lit< tt) refl ⊕ spells-constructed 102 _ (plus_forest ask.attrs ask.term) (lit< tt) (spells-plus ask.attrs ask.term) ⊕ spells-maybe 5 (λ n. int_octets (pos n)) ask.step (lit< tt) ⊕ spells-primitive 6 _ (lit< tt) ⊕ spells-maybe 7 (λ n. int_octets (pos n)) ask.position (lit< tt)

-- what is asked
abbrev pub scan_ask_forest : Asked ScanAsk → Forest
scan_ask_forest (Good ask) = ask_forest ask
scan_ask_forest (Bad diag) = none

spells-asked : (asked : Asked ScanAsk) → Spells (scan_asked_fields asked) (scan_ask_forest asked)
spells-asked (Good ask) = spells-ask ask
spells-asked (Bad diag) = spells-nothing

-- the elements of a Scan of these databases
abbrev scan_parts : Option (List ℕ) → List (List ℕ) → Asked ScanAsk → Forest
scan_parts ref_id dbs asked =
    joined (joined (maybe_leaf (primitive 2) (λ x. x) ref_id)
    (branch (constructed 3) (database_names dbs) (databases_forest dbs) none))
    (scan_ask_forest asked)

abbrev pub scan_forest : Scan → Forest
scan_forest scan = scan_parts scan.ref_id scan.dbs scan.ask

pub spells-scan_fields : (scan : Scan) → Spells (scan_fields scan) (scan_forest scan)
unfolding scan_fields
spells-scan_fields scan =
    spells-maybe 2 (λ x. x) scan.ref_id (lit< tt) ⊕ spells-databases 3 scan.dbs (lit< tt) ⊕ spells-asked scan.ask

scan-ref_id : (ref_id : Option (List ℕ)) (dbs : List (List ℕ)) (ask : ScanAsk) → optional 2 octets_of (scan_parts ref_id dbs (Good ask)) ≡ Ok ref_id
scan-ref_id ref_id dbs ask = simp (first_of-joined, first_of-maybe_leaf, or_else-none) (octets_if 2 ref_id)

scan-dbs : (ref_id : Option (List ℕ)) (dbs : List (List ℕ)) (ask : ScanAsk) → required 3 databases_of (scan_parts ref_id dbs (Good ask)) ≡ Ok dbs
scan-dbs ref_id dbs ask = simp (first_of-joined, first_of-maybe_leaf) (databases_in-again dbs)

scan-attr_set : (ref_id : Option (List ℕ)) (dbs : List (List ℕ)) (ask : ScanAsk) → IsReadableAsk ask → optional_of (universal 6 ∷ []) oid_of (scan_parts ref_id dbs (Good ask)) ≡ Ok ask.attr_set
scan-attr_set ref_id dbs ask h = simp (first_of-joined, first_of-maybe_leaf, or_else-none) (oid_if object_identifier_tag ask.attr_set refl h.attr_set)

scan-start : (ref_id : Option (List ℕ)) (dbs : List (List ℕ)) (ask : ScanAsk) → IsReadableAsk ask → required 102 (within attrs_and_term_in) (scan_parts ref_id dbs (Good ask)) ≡ Ok (Good (ask.attrs, ask.term))
scan-start ref_id dbs ask h = simp (first_of-joined, first_of-maybe_leaf) (attrs_and_term_in-again ask.attrs ask.term h.attrs h.term)

scan-step : (ref_id : Option (List ℕ)) (dbs : List (List ℕ)) (ask : ScanAsk) → IsReadableAsk ask → optional 5 number_of (scan_parts ref_id dbs (Good ask)) ≡ Ok ask.step
scan-step ref_id dbs ask h = simp (first_of-joined, first_of-maybe_leaf, or_else-none) (number_if 5 ask.step h.step)

scan-number : (ref_id : Option (List ℕ)) (dbs : List (List ℕ)) (ask : ScanAsk) → IsReadableAsk ask → required 6 number_of (scan_parts ref_id dbs (Good ask)) ≡ Ok ask.number
scan-number ref_id dbs ask h = simp (first_of-joined, first_of-maybe_leaf) (number_once 6 ask.number h.number)

scan-position : (ref_id : Option (List ℕ)) (dbs : List (List ℕ)) (ask : ScanAsk) → IsReadableAsk ask → optional 7 number_of (scan_parts ref_id dbs (Good ask)) ≡ Ok ask.position
scan-position ref_id dbs ask h = simp (first_of-joined, first_of-maybe_leaf) (number_if 7 ask.position h.position)

ask_in-again : (ref_id : Option (List ℕ)) (dbs : List (List ℕ)) (ask : ScanAsk) → IsReadableAsk ask → ask_in (scan_parts ref_id dbs (Good ask)) ≡ Ok (Good ask)
unfolding ask_in start_in
ask_in-again ref_id dbs ask h =
    rw (scan-attr_set ref_id dbs ask h, scan-start ref_id dbs ask h, scan-step ref_id dbs ask h, scan-number ref_id dbs ask h, scan-position ref_id dbs ask h) refl

abbrev scan_of : Option (List ℕ) → List (List ℕ) → Asked ScanAsk → Scan
scan_of ref_id dbs asked = record { ref_id = ref_id; dbs = dbs; ask = asked }

scan_parts-again : (ref_id : Option (List ℕ)) (dbs : List (List ℕ)) (asked : Asked ScanAsk) → IsAsked IsReadableAsk asked → scan_in (scan_parts ref_id dbs asked) ≡ Ok (scan_of ref_id dbs asked)
unfolding scan_in
scan_parts-again ref_id dbs (Good ask) h =
    rw (scan-ref_id ref_id dbs ask, scan-dbs ref_id dbs ask, ask_in-again ref_id dbs ask h) refl
scan_parts-again ref_id dbs (Bad diag) h = absurd h

pub scan_in-again : (scan : Scan) → IsAsked IsReadableAsk scan.ask → scan_in (scan_forest scan) ≡ Ok scan
scan_in-again scan h = scan_parts-again scan.ref_id scan.dbs scan.ask h
