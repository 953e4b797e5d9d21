-- A reply that is written and is a unit is read again.
use Rattle.std.proofs.Common.{◌≡◌, ◌∙◌, ℕ, ◌≤◌, Bool, pos, List, [], ◌∷◌, length, Option, None, Ok, lit<, sym, ap, subst, arith, refl}
use Rattle.std.specs.Prelude.{IfSome, codes}
use Rattle.z_types.specs.Numbers.{IsNumber}
use Rattle.z_types.specs.declared.records.Body.{Body}
use Rattle.z_types.specs.declared.replies.Reply.{Reply}
use Rattle.z_types.specs.declared.replies.Reply.TheVariants as reply
use Rattle.z_types.specs.declared.requests.Init.{Init}
use Rattle.z_ber.specs.Element.{Forest, none, leaf, branch}
use Rattle.z_ber.specs.Place.{IsUnit}
use Rattle.z_ber.specs.Written.{int_octets, bool_octets}
use Rattle.unit_forms.specs.Fields.{primitive, constructed}
use Rattle.unit_forms.specs.Requests.{close_fields}
use Rattle.unit_forms.specs.Replies.{implementation_fields, init_reply_fields, search_reply_fields, present_reply_fields, scan_reply_fields, spell_reply}
use Rattle.unit_forms.specs.Reading.Answers.{read_as}
use Rattle.unit_forms.specs.Reading.Elements.{first_of}
use Rattle.unit_forms.specs.Reading.InitRequest.{as_init, as_answered, init_response_in}
use Rattle.unit_forms.specs.Reading.Records.{body_in, body_or_none}
use Rattle.unit_forms.specs.Reading.Responses.{init_reply_in, counts_in, found_in, search_reply_in, returned_in, presented_in, present_reply_in}
use Rattle.unit_forms.specs.Reading.Rows.{octets_of, number_of, truth_of, context, required, optional}
use Rattle.unit_forms.specs.Reading.Units.{reply_of, reply_in}
use Rattle.z_laws.specs.Readable.{IsReadableInit}
use Rattle.z_laws.specs.ReadableReplies.{IsReadableBody, IsReadableReply}
use Rattle.z_laws.proofs.Beginning.{Spells, unit_tree}
use Rattle.z_laws.proofs.Forests.{joined, joined-joined}
use Rattle.z_laws.proofs.Lookup.{maybe_leaf, or_else-none, first_of-joined, first_of-maybe_leaf}
use Rattle.z_laws.proofs.Parts.{◌⊕◌, spells-primitive, spells-constructed, spells-maybe, number_once, truth_once, number_if, octets_if}
use Rattle.z_laws.proofs.InitAgain.{shared_of, init_forest, spells-init_fields, shared_in-more}
use Rattle.z_laws.proofs.RecordsAgain.{body_forest, spells-body, body-no_ref_id, body-no_status, body-again}
use Rattle.z_laws.proofs.CloseAgain.{close_forest, spells-close, close_in-again}
use Rattle.z_laws.proofs.ScanReplyAgain.{scan_reply_forest, spells-scan_reply_fields, scan_reply_in-again, entries-few}

-- ---- an InitializeResponse

-- the texts of the implementation
abbrev implementation_forest : Forest
implementation_forest =
    leaf (primitive 110) (codes "mp") (leaf (primitive 111) (codes "gateway") (leaf (primitive 112) (codes "1") none))

-- the result, and these texts
abbrev result_forest : Bool → Forest
result_forest result = leaf (primitive 12) (bool_octets result) implementation_forest

abbrev pub init_reply_forest : Init → Bool → Forest
init_reply_forest init result = joined (init_forest init) (result_forest result)

spells-implementation : Spells implementation_fields implementation_forest
unfolding implementation_fields
spells-implementation =
    spells-primitive 110 _ (lit< tt) ⊕ spells-primitive 111 _ (lit< tt) ⊕ spells-primitive 112 _ (lit< tt)

spells-init_reply_fields : (init : Init) (result : Bool) → Spells (init_reply_fields init result) (init_reply_forest init result)
spells-init_reply_fields init result =
    subst (λ (k : Forest). Spells (init_reply_fields init result) k) (joined-joined (init_forest init) (leaf (primitive 12) (bool_octets result) none) implementation_forest)
    (spells-init_fields init ⊕ spells-primitive 12 _ (lit< tt) ⊕ spells-implementation)

init-result : (init : Init) (result : Bool) → required 12 truth_of (init_reply_forest init result) ≡ Ok result
init-result init result = simp (first_of-joined, first_of-maybe_leaf) (truth_once 12 result)

without_login : (init : Init) → init.login ≡ None → as_answered (shared_of init) ≡ init
without_login init none_there =
    ap (λ (login : Option (List ℕ)). as_init (shared_of init, login)) (sym none_there)

init_reply_in-again : (init : Init) (result : Bool) → IsReadableInit init → init.login ≡ None → init_reply_in (init_reply_forest init result) ≡ Ok (reply.Init init result)
unfolding init_reply_in init_response_in
init_reply_in-again init result h none_there =
    rw (shared_in-more init (result_forest result) refl h, init-result init result) (ap (λ (i : Init). Ok (reply.Init i result)) (without_login init none_there))

-- ---- a SearchResponse

-- the elements before the records
abbrev counts_forest : Option (List ℕ) → ℕ → ℕ → ℕ → Bool → Option ℕ → Forest
counts_forest ref_id count returned next ok status =
    joined (joined (joined (joined (joined (maybe_leaf (primitive 2) (λ x. x) ref_id)
    (leaf (primitive 23) (int_octets (pos count)) none))
    (leaf (primitive 24) (int_octets (pos returned)) none))
    (leaf (primitive 25) (int_octets (pos next)) none))
    (leaf (primitive 22) (bool_octets ok) none))
    (maybe_leaf (primitive 27) (λ n. int_octets (pos n)) status)

abbrev pub search_reply_forest : Option (List ℕ) → ℕ → ℕ → ℕ → Bool → Option ℕ → (body : Body) → IsReadableBody body → Forest
search_reply_forest ref_id count returned next ok status body h =
    joined (counts_forest ref_id count returned next ok status) (body_forest body h)

spells-search_reply_fields : (ref_id : Option (List ℕ)) (count returned next : ℕ) (ok : Bool) (status : Option ℕ) (body : Body) (h : IsReadableBody body) → Spells (search_reply_fields ref_id count returned next ok status body) (search_reply_forest ref_id count returned next ok status body h)
unfolding search_reply_fields
spells-search_reply_fields ref_id count returned next ok status body h =
    spells-maybe 2 (λ x. x) ref_id (lit< tt) ⊕ spells-primitive 23 _ (lit< tt) ⊕ spells-primitive 24 _ (lit< tt) ⊕ spells-primitive 25 _ (lit< tt) ⊕ spells-primitive 22 _ (lit< tt) ⊕ spells-maybe 27 (λ n. int_octets (pos n)) status (lit< tt) ⊕ spells-body body h

counts_in-again : (ref_id : Option (List ℕ)) (count returned next : ℕ) (ok : Bool) (status : Option ℕ) (body : Body) (h : IsReadableBody body) → IsNumber count → IsNumber returned → IsNumber next → counts_in (search_reply_forest ref_id count returned next ok status body h) ≡ Ok (ref_id, (count, (returned, next)))
unfolding counts_in
counts_in-again ref_id count returned next ok status body h c r n =
    let e0 : optional 2 octets_of (search_reply_forest ref_id count returned next ok status body h) ≡ Ok ref_id = simp (first_of-joined, first_of-maybe_leaf, body-no_ref_id body h, or_else-none) (octets_if 2 ref_id) in
    let e1 : required 23 number_of (search_reply_forest ref_id count returned next ok status body h) ≡ Ok count = simp (first_of-joined, first_of-maybe_leaf) (number_once 23 count c) in
    let e2 : required 24 number_of (search_reply_forest ref_id count returned next ok status body h) ≡ Ok returned = simp (first_of-joined, first_of-maybe_leaf) (number_once 24 returned r) in
    let e3 : required 25 number_of (search_reply_forest ref_id count returned next ok status body h) ≡ Ok next = simp (first_of-joined, first_of-maybe_leaf) (number_once 25 next n) in
    rw (e0, e1, e2, e3) refl

found_in-again : (ref_id : Option (List ℕ)) (count returned next : ℕ) (ok : Bool) (status : Option ℕ) (body : Body) (h : IsReadableBody body) → IfSome status IsNumber → found_in (search_reply_forest ref_id count returned next ok status body h) ≡ Ok (ok, (status, body))
unfolding found_in body_in
found_in-again ref_id count returned next ok status body h s =
    let e0 : required 22 truth_of (search_reply_forest ref_id count returned next ok status body h) ≡ Ok ok = simp (first_of-joined, first_of-maybe_leaf) (truth_once 22 ok) in
    let e1 : optional 27 number_of (search_reply_forest ref_id count returned next ok status body h) ≡ Ok status = simp (first_of-joined, first_of-maybe_leaf, body-no_status body h, or_else-none) (number_if 27 status s) in
    let e2 : body_or_none (first_of (context 28 ∷ context 130 ∷ context 205 ∷ []) (search_reply_forest ref_id count returned next ok status body h)) ≡ Ok body = simp (first_of-joined, first_of-maybe_leaf) (body-again body h) in
    rw (e0, e1, e2) refl

search_reply_in-again : (ref_id : Option (List ℕ)) (count returned next : ℕ) (ok : Bool) (status : Option ℕ) (body : Body) (h : IsReadableReply (reply.Search ref_id count returned next ok status body)) → search_reply_in (search_reply_forest ref_id count returned next ok status body h.4) ≡ Ok (reply.Search ref_id count returned next ok status body)
unfolding search_reply_in
search_reply_in-again ref_id count returned next ok status body h =
    rw (counts_in-again ref_id count returned next ok status body h.4 h.0 h.1 h.2, found_in-again ref_id count returned next ok status body h.4 h.3) refl

-- ---- a PresentResponse

abbrev pub present_reply_forest : Option (List ℕ) → ℕ → ℕ → ℕ → (body : Body) → IsReadableBody body → Forest
present_reply_forest ref_id returned next status body h =
    joined (joined (joined (joined (maybe_leaf (primitive 2) (λ x. x) ref_id)
    (leaf (primitive 24) (int_octets (pos returned)) none))
    (leaf (primitive 25) (int_octets (pos next)) none))
    (leaf (primitive 27) (int_octets (pos status)) none))
    (body_forest body h)

spells-present_reply_fields : (ref_id : Option (List ℕ)) (returned next status : ℕ) (body : Body) (h : IsReadableBody body) → Spells (present_reply_fields ref_id returned next status body) (present_reply_forest ref_id returned next status body h)
unfolding present_reply_fields
spells-present_reply_fields ref_id returned next status body h =
    spells-maybe 2 (λ x. x) ref_id (lit< tt) ⊕ spells-primitive 24 _ (lit< tt) ⊕ spells-primitive 25 _ (lit< tt) ⊕ spells-primitive 27 _ (lit< tt) ⊕ spells-body body h

returned_in-again : (ref_id : Option (List ℕ)) (returned next status : ℕ) (body : Body) (h : IsReadableBody body) → IsNumber returned → IsNumber next → returned_in (present_reply_forest ref_id returned next status body h) ≡ Ok (ref_id, (returned, next))
unfolding returned_in
returned_in-again ref_id returned next status body h r n =
    let e0 : optional 2 octets_of (present_reply_forest ref_id returned next status body h) ≡ Ok ref_id = simp (first_of-joined, first_of-maybe_leaf, body-no_ref_id body h, or_else-none) (octets_if 2 ref_id) in
    let e1 : required 24 number_of (present_reply_forest ref_id returned next status body h) ≡ Ok returned = simp (first_of-joined, first_of-maybe_leaf) (number_once 24 returned r) in
    let e2 : required 25 number_of (present_reply_forest ref_id returned next status body h) ≡ Ok next = simp (first_of-joined, first_of-maybe_leaf) (number_once 25 next n) in
    rw (e0, e1, e2) refl

presented_in-again : (ref_id : Option (List ℕ)) (returned next status : ℕ) (body : Body) (h : IsReadableBody body) → IsNumber status → presented_in (present_reply_forest ref_id returned next status body h) ≡ Ok (status, body)
unfolding presented_in body_in
presented_in-again ref_id returned next status body h s =
    let e0 : required 27 number_of (present_reply_forest ref_id returned next status body h) ≡ Ok status = simp (first_of-joined, first_of-maybe_leaf) (number_once 27 status s) in
    let e1 : body_or_none (first_of (context 28 ∷ context 130 ∷ context 205 ∷ []) (present_reply_forest ref_id returned next status body h)) ≡ Ok body = simp (first_of-joined, first_of-maybe_leaf) (body-again body h) in
    rw (e0, e1) refl

present_reply_in-again : (ref_id : Option (List ℕ)) (returned next status : ℕ) (body : Body) (h : IsReadableReply (reply.Present ref_id returned next status body)) → present_reply_in (present_reply_forest ref_id returned next status body h.3) ≡ Ok (reply.Present ref_id returned next status body)
unfolding present_reply_in
present_reply_in-again ref_id returned next status body h =
    rw (returned_in-again ref_id returned next status body h.3 h.0 h.1, presented_in-again ref_id returned next status body h.3 h.2) refl

-- ---- a reply

-- the tree of a reply
abbrev pub reply_forest : (told : Reply) → IsReadableReply told → Forest
reply_forest (reply.Init init result) h =
    branch (constructed 21) (init_reply_fields init result) (init_reply_forest init result) none
reply_forest (reply.Search ref_id count returned next ok status body) h =
    branch (constructed 23) (search_reply_fields ref_id count returned next ok status body) (search_reply_forest ref_id count returned next ok status body h.4) none
reply_forest (reply.Present ref_id returned next status body) h =
    branch (constructed 25) (present_reply_fields ref_id returned next status body) (present_reply_forest ref_id returned next status body h.3) none
reply_forest (reply.Scan ref_id status answer diags) h =
    branch (constructed 36) (scan_reply_fields ref_id status answer diags) (scan_reply_forest ref_id status answer diags) none
reply_forest (reply.Close close) h = branch (constructed 48) (close_fields close) (close_forest close) none

pub spells-reply : (told : Reply) (h : IsReadableReply told) → Spells (spell_reply told) (reply_forest told h)
spells-reply (reply.Init init result) h =
    spells-constructed 21 _ (init_reply_forest init result) (lit< tt) (spells-init_reply_fields init result)
spells-reply (reply.Search ref_id count returned next ok status body) h =
    spells-constructed 23 _ _ (lit< tt) (spells-search_reply_fields ref_id count returned next ok status body h.4)
spells-reply (reply.Present ref_id returned next status body) h =
    spells-constructed 25 _ _ (lit< tt) (spells-present_reply_fields ref_id returned next status body h.3)
spells-reply (reply.Scan ref_id status answer diags) h =
    spells-constructed 36 _ _ (lit< tt) (spells-scan_reply_fields ref_id status answer diags)
spells-reply (reply.Close close) h = spells-close close

forest-again : (told : Reply) (h : IsReadableReply told) → length (spell_reply told) ≤ 1048576 → reply_in (reply_forest told h) ≡ Ok told
unfolding reply_of
forest-again (reply.Init init result) h small = init_reply_in-again init result h.0 h.1
forest-again (reply.Search ref_id count returned next ok status body) h small =
    search_reply_in-again ref_id count returned next ok status body h
forest-again (reply.Present ref_id returned next status body) h small =
    present_reply_in-again ref_id returned next status body h
forest-again (reply.Scan ref_id status answer diags) h small =
    let few = entries-few ref_id status answer diags in
    scan_reply_in-again ref_id status answer diags h.0 (omega (arith, few, small)) h.1 h.2
forest-again (reply.Close close) h small = ap (read_as reply.Close) (close_in-again close h)

pub reply-again : (told : Reply) (tree : Forest) → IsReadableReply told → IsUnit (spell_reply told) tree → reply_in tree ≡ Ok told
reply-again told tree h unit =
    ap reply_in (unit_tree (spell_reply told) (reply_forest told h) tree (spells-reply told h) unit) ∙ forest-again told h unit.small
