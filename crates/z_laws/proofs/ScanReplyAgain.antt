-- A ScanResponse that is written is read again.
use Rattle.std.proofs.Common.{◌≡◌, ◌∙◌, ℕ, ◌<◌, ◌≤◌, pos, List, [], ◌∷◌, ◌++◌, length, Option, None, Some, Ok, lit<, ap, arith, refl}
use Rattle.std.specs.Prelude.{IfSome}
use Rattle.std.specs.List.{flat_map, AllByRecursion}
use Rattle.std.proofs.lemmas.List.{length-append}
use Rattle.z_types.specs.Numbers.{IsNumber}
use Rattle.z_types.specs.declared.diagnostic.Diag.{Diag}
use Rattle.z_types.specs.declared.query.Term.{Term}
use Rattle.z_types.specs.declared.query.Term.TheVariants.{General, Number, Words}
use Rattle.z_types.specs.declared.replies.Reply.TheVariants as reply
use Rattle.z_types.specs.declared.scan.ScanAnswer.{ScanAnswer}
use Rattle.z_types.specs.declared.scan.ScanEntry.{ScanEntry}
use Rattle.z_ber.specs.Element.{Forest, none, leaf, branch}
use Rattle.z_ber.specs.Written.{element, tag_octets, int_octets}
use Rattle.unit_forms.specs.Fields.{primitive, constructed, tree_field}
use Rattle.unit_forms.specs.Records.{diag_octets}
use Rattle.unit_forms.specs.Replies.{term_info_fields, entry_octets, list_entries_field, scan_diags_field, list_entries, scan_reply_fields, spell_reply}
use Rattle.unit_forms.specs.Reading.Answers.{read_as}
use Rattle.unit_forms.specs.Reading.Attributes.{term_choice}
use Rattle.unit_forms.specs.Reading.Elements.{first_of, has_tag}
use Rattle.unit_forms.specs.Reading.Responses.{entry_term_of, entry_in, entry_of, entries_in, listed_in, listing_in, scanned_in, scan_reply_in}
use Rattle.unit_forms.specs.Reading.Rows.{octets_of, number_of, context, required, required_of, optional, within}
use Rattle.z_laws.specs.Readable.{IsReadableTerm}
use Rattle.z_laws.specs.ReadableReplies.{IsReadableDiag, IsReadableEntry, IsReadableAnswer}
use Rattle.z_laws.proofs.Beginning.{Spells, spells-nothing, element-long}
use Rattle.z_laws.proofs.Forests.{joined}
use Rattle.z_laws.proofs.Lookup.{maybe_leaf, or_else-none, first_of-joined, first_of-maybe_leaf}
use Rattle.z_laws.proofs.Parts.{◌⊕◌, spells-primitive, spells-constructed, spells-maybe, branches, spells-branches, number_once, integer_once, number_if, octets_if, each-branches, map-same}
use Rattle.z_laws.proofs.AttributesAgain.{term_forest, spells-term}
use Rattle.z_laws.proofs.DiagnosticsAgain.{diags_forest, spells-diags, diags_in-again}

-- ---- an entry

-- the elements of a TermInfo
abbrev entry_parts : Term → Option ℕ → Forest
entry_parts term occurrences =
    joined (term_forest term) (maybe_leaf (primitive 2) (λ n. int_octets (pos n)) occurrences)

abbrev pub entry_forest : ScanEntry → Forest
entry_forest entry = entry_parts entry.term entry.occurrences

spells-term_info : (entry : ScanEntry) → Spells (term_info_fields entry) (entry_forest entry)
spells-term_info entry = spells-term entry.term ⊕ spells-maybe 2 (λ n. int_octets (pos n)) entry.occurrences (lit< tt)

entry-term : (term : Term) (occurrences : Option ℕ) → IsReadableTerm term → required_of 45 term_choice entry_term_of (entry_parts term occurrences) ≡ Ok term
entry-term (General octets) occurrences h = refl
entry-term (Number value) occurrences h = ap (read_as Number) (integer_once 215 value h)
entry-term (Words octets) occurrences h = refl

term-no_count : (term : Term) → first_of (context 2 ∷ []) (term_forest term) ≡ None
term-no_count (General octets) = refl
term-no_count (Number value) = refl
term-no_count (Words octets) = refl

entry-occurrences : (term : Term) (occurrences : Option ℕ) → IfSome occurrences IsNumber → optional 2 number_of (entry_parts term occurrences) ≡ Ok occurrences
entry-occurrences term occurrences h =
    simp (first_of-joined, term-no_count, first_of-maybe_leaf) (number_if 2 occurrences h)

entry_in-again : (entry : ScanEntry) → IsReadableEntry entry → entry_in (entry_forest entry) ≡ Ok entry
unfolding entry_in
entry_in-again entry h =
    rw (entry-term entry.term entry.occurrences h.term, entry-occurrences entry.term entry.occurrences h.occurrences) refl

-- ---- entries and diagnostics

abbrev pub entries_forest : List ScanEntry → Forest
entries_forest entries = branches (constructed 1) term_info_fields entry_forest entries

spells-entries : (entries : List ScanEntry) → Spells (flat_map entry_octets entries) (entries_forest entries)
unfolding entry_octets
spells-entries entries =
    spells-branches (constructed 1) term_info_fields entry_forest entries (lit< tt, lit< tt) refl spells-term_info

entries_in-again : (entries : List ScanEntry) → AllByRecursion IsReadableEntry entries → entries_in (entries_forest entries) ≡ Ok entries
unfolding entries_in
entries_in-again entries h =
    each-branches (λ field. has_tag field.tag (context 1)) entry_of (constructed 1) term_info_fields entry_forest (λ entry. entry) IsReadableEntry entries (λ entry. refl) entry_in-again h
    ∙ ap Ok (map-same entries)

-- the element of entries
abbrev pub entries_part : List ScanEntry → List Diag → Forest
entries_part [] [] = branch (constructed 1) [] none none
entries_part [] (diag ∷ diags) = none
entries_part (entry ∷ entries) diags =
    branch (constructed 1) (flat_map entry_octets (entry ∷ entries)) (entries_forest (entry ∷ entries)) none

-- the element of diagnostics
abbrev pub diags_part : List Diag → Forest
diags_part [] = none
diags_part (diag ∷ diags) =
    branch (constructed 2) (flat_map diag_octets (diag ∷ diags)) (diags_forest (diag ∷ diags)) none

spells-entries_part : (entries : List ScanEntry) (diags : List Diag) → Spells (list_entries_field entries diags) (entries_part entries diags)
spells-entries_part [] [] = spells-constructed 1 [] none (lit< tt) spells-nothing
spells-entries_part [] (diag ∷ diags) = spells-nothing
spells-entries_part (entry ∷ entries) diags =
    spells-constructed 1 _ (entries_forest (entry ∷ entries)) (lit< tt) (spells-entries (entry ∷ entries))

spells-diags_part : (diags : List Diag) → Spells (scan_diags_field diags) (diags_part diags)
spells-diags_part [] = spells-nothing
spells-diags_part (diag ∷ diags) =
    spells-constructed 2 _ (diags_forest (diag ∷ diags)) (lit< tt) (spells-diags (diag ∷ diags))

-- the elements of a ListEntries
abbrev pub listed_forest : List ScanEntry → List Diag → Forest
listed_forest entries diags = joined (entries_part entries diags) (diags_part diags)

spells-list_entries : (entries : List ScanEntry) (diags : List Diag) → Spells (list_entries entries diags) (listed_forest entries diags)
unfolding list_entries
spells-list_entries entries diags = spells-entries_part entries diags ⊕ spells-diags_part diags

listed_in-again : (entries : List ScanEntry) (diags : List Diag) → AllByRecursion IsReadableEntry entries → AllByRecursion IsReadableDiag diags → listed_in (listed_forest entries diags) ≡ Ok (entries, diags)
unfolding listed_in
listed_in-again [] [] e d = rw (entries_in-again [] tt) refl
listed_in-again [] (diag ∷ diags) e d = rw (diags_in-again (diag ∷ diags) d) refl
listed_in-again (entry ∷ entries) [] e d = rw (entries_in-again (entry ∷ entries) e) refl
listed_in-again (entry ∷ entries) (diag ∷ diags) e d =
    rw (entries_in-again (entry ∷ entries) e, diags_in-again (diag ∷ diags) d) refl

-- ---- a ScanResponse

-- the elements of a ScanResponse
abbrev pub scan_reply_forest : Option (List ℕ) → ℕ → ScanAnswer → List Diag → Forest
scan_reply_forest ref_id status answer diags =
    joined (joined (joined (joined (maybe_leaf (primitive 2) (λ x. x) ref_id)
    (leaf (primitive 4) (int_octets (pos status)) none))
    (leaf (primitive 5) (int_octets (pos (length answer.entries))) none))
    (maybe_leaf (primitive 6) (λ n. int_octets (pos n)) answer.position))
    (branch (constructed 7) (list_entries answer.entries diags) (listed_forest answer.entries diags) none)

pub spells-scan_reply_fields : (ref_id : Option (List ℕ)) (status : ℕ) (answer : ScanAnswer) (diags : List Diag) → Spells (scan_reply_fields ref_id status answer diags) (scan_reply_forest ref_id status answer diags)
unfolding scan_reply_fields
spells-scan_reply_fields ref_id status answer diags =
    spells-maybe 2 (λ x. x) ref_id (lit< tt) ⊕ spells-primitive 4 _ (lit< tt) ⊕ spells-primitive 5 _ (lit< tt) ⊕ spells-maybe 6 (λ n. int_octets (pos n)) answer.position (lit< tt)
    ⊕ spells-constructed 7 _ (listed_forest answer.entries diags) (lit< tt) (spells-list_entries answer.entries diags)

scan-ref_id : (ref_id : Option (List ℕ)) (status : ℕ) (answer : ScanAnswer) (diags : List Diag) → optional 2 octets_of (scan_reply_forest ref_id status answer diags) ≡ Ok ref_id
scan-ref_id ref_id status answer diags = simp (first_of-joined, first_of-maybe_leaf, or_else-none) (octets_if 2 ref_id)

scan-status : (ref_id : Option (List ℕ)) (status : ℕ) (answer : ScanAnswer) (diags : List Diag) → IsNumber status → required 4 number_of (scan_reply_forest ref_id status answer diags) ≡ Ok status
scan-status ref_id status answer diags small = simp (first_of-joined, first_of-maybe_leaf) (number_once 4 status small)

scan-count : (ref_id : Option (List ℕ)) (status : ℕ) (answer : ScanAnswer) (diags : List Diag) → IsNumber (length answer.entries) → required 5 number_of (scan_reply_forest ref_id status answer diags) ≡ Ok (length answer.entries)
scan-count ref_id status answer diags small =
    simp (first_of-joined, first_of-maybe_leaf) (number_once 5 (length answer.entries) small)

scan-position : (ref_id : Option (List ℕ)) (status : ℕ) (answer : ScanAnswer) (diags : List Diag) → IsReadableAnswer answer → optional 6 number_of (scan_reply_forest ref_id status answer diags) ≡ Ok answer.position
scan-position ref_id status answer diags h =
    simp (first_of-joined, first_of-maybe_leaf, or_else-none) (number_if 6 answer.position h.position)

scan-listing : (ref_id : Option (List ℕ)) (status : ℕ) (answer : ScanAnswer) (diags : List Diag) → IsReadableAnswer answer → AllByRecursion IsReadableDiag diags → optional 7 (within listed_in) (scan_reply_forest ref_id status answer diags) ≡ Ok (Some (answer.entries, diags))
scan-listing ref_id status answer diags h d =
    simp (first_of-joined, first_of-maybe_leaf) (ap (read_as Some) (listed_in-again answer.entries diags h.entries d))

scanned_in-again : (ref_id : Option (List ℕ)) (status : ℕ) (answer : ScanAnswer) (diags : List Diag) → IsNumber status → IsNumber (length answer.entries) → scanned_in (scan_reply_forest ref_id status answer diags) ≡ Ok (ref_id, (status, length answer.entries))
unfolding scanned_in
scanned_in-again ref_id status answer diags small few =
    rw (scan-ref_id ref_id status answer diags, scan-status ref_id status answer diags small, scan-count ref_id status answer diags few) refl

listing_in-again : (ref_id : Option (List ℕ)) (status : ℕ) (answer : ScanAnswer) (diags : List Diag) → IsReadableAnswer answer → AllByRecursion IsReadableDiag diags → listing_in (scan_reply_forest ref_id status answer diags) ≡ Ok (answer.entries, diags)
unfolding listing_in
listing_in-again ref_id status answer diags h d = rw (scan-listing ref_id status answer diags h d) refl

pub scan_reply_in-again : (ref_id : Option (List ℕ)) (status : ℕ) (answer : ScanAnswer) (diags : List Diag) → IsNumber status → IsNumber (length answer.entries) → IsReadableAnswer answer → AllByRecursion IsReadableDiag diags → scan_reply_in (scan_reply_forest ref_id status answer diags) ≡ Ok (reply.Scan ref_id status answer diags)
unfolding scan_reply_in
scan_reply_in-again ref_id status answer diags small few h d =
    rw (scanned_in-again ref_id status answer diags small few, scan-position ref_id status answer diags h, listing_in-again ref_id status answer diags h d) refl

-- ---- how many entries there can be

entry-some : (entry : ScanEntry) → 0 < length (entry_octets entry)
unfolding entry_octets element tag_octets
entry-some entry = omega arith

entries-octets : (entries : List ScanEntry) → length entries ≤ length (flat_map entry_octets entries)
entries-octets [] = omega arith
entries-octets (entry ∷ entries) =
    omega (arith, entry-some entry, entries-octets entries, length-append (entry_octets entry) (flat_map entry_octets entries))

entries-part : (entries : List ScanEntry) (diags : List Diag) → length entries ≤ length (list_entries_field entries diags)
entries-part [] diags = omega arith
entries-part (entry ∷ entries) diags =
    omega (arith, entries-octets (entry ∷ entries), element-long (constructed 1) (flat_map entry_octets (entry ∷ entries)))

entries-listed : (entries : List ScanEntry) (diags : List Diag) → length entries ≤ length (list_entries entries diags)
unfolding list_entries
entries-listed entries diags =
    omega (arith, entries-part entries diags, length-append (list_entries_field entries diags) (scan_diags_field diags))

tail-long : (a b : List ℕ) → length b ≤ length (a ++ b)
tail-long a b = omega (arith, length-append a b)

entries-fields : (ref_id : Option (List ℕ)) (status : ℕ) (answer : ScanAnswer) (diags : List Diag) → length answer.entries ≤ length (scan_reply_fields ref_id status answer diags)
unfolding scan_reply_fields
entries-fields ref_id status answer diags =
    let listed = entries-listed answer.entries diags in
    let whole = element-long (constructed 7) (list_entries answer.entries diags) in
    let last : length (tree_field 7 (list_entries answer.entries diags)) ≤ length (scan_reply_fields ref_id status answer diags) = tail-long _ (tree_field 7 (list_entries answer.entries diags)) in
    omega (arith, listed, whole, last)

pub entries-few : (ref_id : Option (List ℕ)) (status : ℕ) (answer : ScanAnswer) (diags : List Diag) → length answer.entries ≤ length (spell_reply (reply.Scan ref_id status answer diags))
entries-few ref_id status answer diags =
    omega (arith, entries-fields ref_id status answer diags, element-long (constructed 36) (scan_reply_fields ref_id status answer diags))
