-- A reply that is written is a unit where it is small and shallow enough.
use Rattle.std.proofs.Common.{ℕ, ◌-◌, ◌≤◌, Bool, false, List, [], ◌∷◌, length, Option, subst, rules, arith, refl}
use Rattle.std.specs.List.{AllByRecursion}
use Rattle.z_types.specs.Bounds.{most_unit_octets}
use Rattle.z_types.specs.declared.diagnostic.Diag.{Diag}
use Rattle.z_types.specs.declared.records.Form.TheVariants.{Single, Octets, Arbitrary}
use Rattle.z_types.specs.declared.records.Item.{Item}
use Rattle.z_types.specs.declared.records.Item.TheVariants.{Record, Surrogate}
use Rattle.z_types.specs.declared.records.NamedRecord.{NamedRecord}
use Rattle.z_types.specs.declared.records.Body.{Body}
use Rattle.z_types.specs.declared.records.Body.TheVariants as body
use Rattle.z_types.specs.declared.replies.Reply.{Reply}
use Rattle.z_types.specs.declared.replies.Reply.TheVariants as reply
use Rattle.z_types.specs.declared.requests.Init.{Init}
use Rattle.z_types.specs.declared.scan.ScanAnswer.{ScanAnswer}
use Rattle.z_types.specs.declared.scan.ScanEntry.{ScanEntry}
use Rattle.z_ber.specs.Element.{Forest, IsElement}
use Rattle.z_ber.specs.Place.{IsUnit}
use Rattle.z_ber.proofs.TreeLaws.{element_one}
use Rattle.unit_forms.specs.Replies.{spell_reply}
use Rattle.z_laws.specs.ReadableReplies.{IsOneElement, IsReadableItem, IsReadableNamed, IsReadableBody, IsReadableReply}
use Rattle.z_laws.specs.Shallow.{most_record_levels, IsShallowItem, IsShallowNamed, IsShallowBody, IsShallowReply}
use Rattle.z_laws.proofs.Beginning.{are_alone, spelled_unit}
use Rattle.z_laws.proofs.Forests.{levels, levels-least, IsLow, low-none, low-joined}
use Rattle.z_laws.proofs.LowParts.{low-leaf, low-branch, low-maybe_leaf, low-branches, low}
use Rattle.z_laws.proofs.DiagnosticsAgain.{diag_forest, diags_forest}
use Rattle.z_laws.proofs.RecordsAgain.{item_forest, named_forest, records_forest, body_forest}
use Rattle.z_laws.proofs.ScanReplyAgain.{entry_forest, entries_forest, entries_part, diags_part, listed_forest, scan_reply_forest}
use Rattle.z_laws.proofs.ReplyAgain.{init_reply_forest, search_reply_forest, present_reply_forest, reply_forest, spells-reply}
use Rattle.z_laws.proofs.RequestUnits.{low-init, low-close, low-term}

low-diag : (n : ℕ) (diag : Diag) → 1 ≤ n → IsLow n (diag_forest diag)
low-diag n diag some = search (rules, low) depth 8

low-diags : (n : ℕ) (diags : List Diag) → 2 ≤ n → IsLow n (diags_forest diags)
low-diags n diags some = low-branches _ _ _ diags (omega arith) (λ diag. low-diag (n - 1) diag (omega arith))

-- ---- records

-- the one tree of an element on few levels
low-element : (octets : List ℕ) (h : IsOneElement octets) (s : (tree : Forest) × IsElement most_record_levels octets tree) → IsLow most_record_levels h.1
low-element octets h s =
    let one = element_one s.0 h.1 most_record_levels h.0 octets octets [] [] s.1 h.2 refl in
    let few : levels s.0 ≤ most_record_levels = levels-least s.0 false most_record_levels octets (are_alone most_record_levels octets s.0 s.1) in
    record { within = subst (λ (k : Forest). levels k ≤ most_record_levels) one.1 few }

low-item : (item : Item) (h : IsReadableItem item) → IsShallowItem item → IsLow 60 (item_forest item h)
low-item (Record syntax Single octets) h s =
    low-branch (omega arith) (low-branch (omega arith) (low-leaf (omega arith) (low-branch (omega arith) (low-element octets h.1 s) low-none)) low-none) low-none
low-item (Record syntax Octets octets) h s =
    low-branch (omega arith) (low-branch (omega arith) (low-leaf (omega arith) (low-leaf (omega arith) low-none)) low-none) low-none
low-item (Record syntax Arbitrary octets) h s =
    low-branch (omega arith) (low-branch (omega arith) (low-leaf (omega arith) (low-leaf (omega arith) low-none)) low-none) low-none
low-item (Surrogate diag) h s =
    low-branch (omega arith) (low-branch (omega arith) (low-diag 58 diag (omega arith)) low-none) low-none

low-named : (named : NamedRecord) (h : IsReadableNamed named) → IsShallowNamed named → IsLow 61 (named_forest named h)
low-named named h s =
    low-joined (low-maybe_leaf _ _ named.name (omega arith)) (low-branch (omega arith) (low-item named.item h s) low-none)

low-records : (records : List NamedRecord) (h : AllByRecursion IsReadableNamed records) → AllByRecursion IsShallowNamed records → IsLow 62 (records_forest records h)
low-records [] h s = low-none
low-records (named ∷ records) h s =
    low-branch (omega arith) (low-named named h.0 s.0) (low-records records h.1 s.1)

low-body : (records : Body) (h : IsReadableBody records) → IsShallowBody records → IsLow 63 (body_forest records h)
low-body body.None h s = low-none
low-body (body.Records []) h s = low-none
low-body (body.Records (first ∷ rest)) h s =
    low-branch (omega arith) (low-records (first ∷ rest) h.1 s) low-none
low-body (body.Diag diag) h s = low-branch (omega arith) (low-diag 62 diag (omega arith)) low-none
low-body (body.Diags diags) h s = low-branch (omega arith) (low-diags 62 diags (omega arith)) low-none

-- ---- a scan

low-entry : (entry : ScanEntry) → IsLow 60 (entry_forest entry)
low-entry entry =
    low-joined (low-term 60 entry.term (omega arith)) (low-maybe_leaf _ _ entry.occurrences (omega arith))

low-entries : (entries : List ScanEntry) → IsLow 61 (entries_forest entries)
low-entries entries = low-branches _ _ _ entries (omega arith) low-entry

low-entries_part : (entries : List ScanEntry) (diags : List Diag) → IsLow 62 (entries_part entries diags)
low-entries_part [] [] = low-branch (omega arith) low-none low-none
low-entries_part [] (diag ∷ diags) = low-none
low-entries_part (entry ∷ entries) diags = low-branch (omega arith) (low-entries (entry ∷ entries)) low-none

low-diags_part : (diags : List Diag) → IsLow 62 (diags_part diags)
low-diags_part [] = low-none
low-diags_part (diag ∷ diags) = low-branch (omega arith) (low-diags 61 (diag ∷ diags) (omega arith)) low-none

low-listed : (entries : List ScanEntry) (diags : List Diag) → IsLow 62 (listed_forest entries diags)
low-listed entries diags = low-joined (low-entries_part entries diags) (low-diags_part diags)

low-scan_reply : (ref_id : Option (List ℕ)) (status : ℕ) (answer : ScanAnswer) (diags : List Diag) → IsLow 63 (scan_reply_forest ref_id status answer diags)
low-scan_reply ref_id status answer diags =
    let listed = low-listed answer.entries diags in search (rules, low) depth 12

-- ---- a reply

low-init_reply : (init : Init) (result : Bool) → IsLow 63 (init_reply_forest init result)
low-init_reply init result = low-joined (low-init init) (search (rules, low) depth 12)

low-search_reply : (ref_id : Option (List ℕ)) (count returned next : ℕ) (ok : Bool) (status : Option ℕ) (records : Body) (h : IsReadableBody records) → IsShallowBody records → IsLow 63 (search_reply_forest ref_id count returned next ok status records h)
low-search_reply ref_id count returned next ok status records h s =
    low-joined (search (rules, low) depth 12) (low-body records h s)

low-present_reply : (ref_id : Option (List ℕ)) (returned next status : ℕ) (records : Body) (h : IsReadableBody records) → IsShallowBody records → IsLow 63 (present_reply_forest ref_id returned next status records h)
low-present_reply ref_id returned next status records h s =
    low-joined (search (rules, low) depth 12) (low-body records h s)

pub reply-unit : (told : Reply) → IsReadableReply told → IsShallowReply told → length (spell_reply told) ≤ most_unit_octets → (tree : Forest) × IsUnit (spell_reply told) tree
reply-unit (reply.Init init result) h s small =
    let told = reply.Init init result in
    (reply_forest told h, spelled_unit _ _ _ _ (spells-reply told h) (low-init_reply init result) small)
reply-unit (reply.Search ref_id count returned next ok status records) h s small =
    let told = reply.Search ref_id count returned next ok status records in
    (reply_forest told h, spelled_unit _ _ _ _ (spells-reply told h) (low-search_reply ref_id count returned next ok status records h.4 s) small)
reply-unit (reply.Present ref_id returned next status records) h s small =
    let told = reply.Present ref_id returned next status records in
    (reply_forest told h, spelled_unit _ _ _ _ (spells-reply told h) (low-present_reply ref_id returned next status records h.3 s) small)
reply-unit (reply.Scan ref_id status answer diags) h s small =
    let told = reply.Scan ref_id status answer diags in
    (reply_forest told h, spelled_unit _ _ _ _ (spells-reply told h) (low-scan_reply ref_id status answer diags) small)
reply-unit (reply.Close close) h s small =
    let told = reply.Close close in
    (reply_forest told h, spelled_unit _ _ _ _ (spells-reply told h) (low-close close) small)
