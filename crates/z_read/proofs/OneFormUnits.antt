-- Units are read in one form as they are, so units of one form have the same answers.
use Rattle.std.proofs.Common.{◌≡◌, ◌∙◌, ℕ, ◌==◌, Bool, true, false, cond, List, [], ◌∷◌, Some, Result, Ok, Err, refl, sym, ap, subst}
use Rattle.z_types.specs.declared.requests.Request.TheVariants as request
use Rattle.z_types.specs.declared.replies.Reply.TheVariants as reply
use Rattle.z_ber.specs.declared.tag.Tag.{Tag}
use Rattle.z_ber.specs.Element.{Forest, none, branch}
use Rattle.z_ber.proofs.OnePlace.{unit_no_place}
use Rattle.z_ber.proofs.TreeLaws.{element_one}
use Rattle.unit_forms.specs.declared.refusal.Refusal.{Refusal}
use Rattle.unit_forms.specs.declared.refusal.Refusal.TheVariants as refusal
use Rattle.unit_forms.specs.Reading.Answers.{read_as, read_if}
use Rattle.unit_forms.specs.Reading.Attributes.{attrs_and_term_in}
use Rattle.unit_forms.specs.Reading.CloseUnit.{close_in}
use Rattle.unit_forms.specs.Reading.ElementNames.{names_of}
use Rattle.unit_forms.specs.Reading.Elements.{Field, field_of, is_constructed, is_one_of}
use Rattle.unit_forms.specs.Reading.InitRequest.{login_of, shared_in, login_in, init_in, init_response_in}
use Rattle.unit_forms.specs.Reading.PresentRequest.{place_in, form_in, present_in}
use Rattle.unit_forms.specs.Reading.Queries.{query_in}
use Rattle.unit_forms.specs.Reading.Responses.{init_reply_in, counts_in, found_in, search_reply_in, returned_in, presented_in, present_reply_in, scanned_in, scan_reply_in}
use Rattle.unit_forms.specs.Reading.Rows.{octets_of, bits_of, truth_of, integer_of, number_of, oid_of, context, universal, required, optional, optional_of, within}
use Rattle.unit_forms.specs.Reading.ScanRequest.{start_in, ask_in, scan_in}
use Rattle.unit_forms.specs.Reading.SearchRequest.{databases_of, bounds_in, named_in, wanted_in, search_in}
use Rattle.unit_forms.specs.Reading.Units.{numbered_request, request_of, numbered_reply, reply_of}
use Rattle.z_read.specs.declared.fault.ReadFault.TheVariants.{Ber, UnknownUnit, Missing, BadValue, LeftOut, Memory}
use Rattle.z_read.specs.OneForm.{Kind, whole, octets, integer, truth, shown, holding, in_one_form, init_kind, request_kind, reply_kind, HaveOneForm, FormChangesNothing}
use Rattle.z_read.specs.Read.{IsReadAs, IsReadingBy, IsRequestRead, IsReplyRead}
use Rattle.z_read.proofs.SkippedLemmas.{at_root}
use Rattle.z_read.proofs.OneFormLemmas.{formed, integer_same, truth_same, KeepsOctets, KeepsInteger, KeepsTruth, octets_formed, bits_formed, oid_formed, truth_formed, integer_formed, number_formed, within_formed, required_formed, optional_formed, constructed_formed, its_constructed_number, of_tag}
use Rattle.z_read.proofs.OneFormParts.{names_formed, databases_formed, attrs_and_term_formed, query_formed, body_in_formed, listing_formed, composition_formed}

-- ---- rows of a unit

plain : (kind : Kind) → kind ≡ octets → KeepsOctets kind
plain kind e = subst KeepsOctets (sym e) (λ c. refl)

numeric : (kind : Kind) → kind ≡ integer → KeepsInteger kind
numeric kind e = subst KeepsInteger (sym e) integer_same

octets_at : (kind : ℕ → Kind) (n : ℕ) → kind n ≡ octets → (f : Field) → is_one_of (context n ∷ []) f.tag ≡ true → octets_of (formed kind f) ≡ octets_of f
octets_at kind n e f is = octets_formed kind f (of_tag (λ m. KeepsOctets (kind m)) (context n) (plain (kind n) e) f is)

maybe_octets : (kind : ℕ → Kind) (n : ℕ) → kind n ≡ octets → (x : Forest) → optional n octets_of (in_one_form kind x) ≡ optional n octets_of x
maybe_octets kind n e x = optional_formed kind (context n ∷ []) octets_of (octets_at kind n e) x

some_octets : (kind : ℕ → Kind) (n : ℕ) → kind n ≡ octets → (x : Forest) → required n octets_of (in_one_form kind x) ≡ required n octets_of x
some_octets kind n e x = required_formed kind n (context n ∷ []) octets_of (octets_at kind n e) x

some_bits : (kind : ℕ → Kind) (n : ℕ) → kind n ≡ octets → (x : Forest) → required n bits_of (in_one_form kind x) ≡ required n bits_of x
some_bits kind n e x =
    required_formed kind n (context n ∷ []) bits_of (λ f is. bits_formed kind f (of_tag (λ m. KeepsOctets (kind m)) (context n) (plain (kind n) e) f is)) x

maybe_oid : (kind : ℕ → Kind) (t : Tag) → kind t.number ≡ octets → (x : Forest) → optional_of (t ∷ []) oid_of (in_one_form kind x) ≡ optional_of (t ∷ []) oid_of x
maybe_oid kind t e x =
    optional_formed kind (t ∷ []) oid_of (λ f is. oid_formed kind f (of_tag (λ m. KeepsOctets (kind m)) t (plain (kind t.number) e) f is)) x

some_truth : (kind : ℕ → Kind) (n : ℕ) → kind n ≡ truth → (x : Forest) → required n truth_of (in_one_form kind x) ≡ required n truth_of x
some_truth kind n e x =
    required_formed kind n (context n ∷ []) truth_of (λ f is. truth_formed kind f (of_tag (λ m. KeepsTruth (kind m)) (context n) (subst KeepsTruth (sym e) truth_same) f is)) x

some_integer : (kind : ℕ → Kind) (n : ℕ) → kind n ≡ integer → (x : Forest) → required n integer_of (in_one_form kind x) ≡ required n integer_of x
some_integer kind n e x =
    required_formed kind n (context n ∷ []) integer_of (λ f is. integer_formed kind f (of_tag (λ m. KeepsInteger (kind m)) (context n) (numeric (kind n) e) f is)) x

number_at : (kind : ℕ → Kind) (n : ℕ) → kind n ≡ integer → (f : Field) → is_one_of (context n ∷ []) f.tag ≡ true → number_of (formed kind f) ≡ number_of f
number_at kind n e f is = number_formed kind f (of_tag (λ m. KeepsInteger (kind m)) (context n) (numeric (kind n) e) f is)

some_number : (kind : ℕ → Kind) (n : ℕ) → kind n ≡ integer → (x : Forest) → required n number_of (in_one_form kind x) ≡ required n number_of x
some_number kind n e x = required_formed kind n (context n ∷ []) number_of (number_at kind n e) x

maybe_number : (kind : ℕ → Kind) (n : ℕ) → kind n ≡ integer → (x : Forest) → optional n number_of (in_one_form kind x) ≡ optional n number_of x
maybe_number kind n e x = optional_formed kind (context n ∷ []) number_of (number_at kind n e) x

maybe_names : (kind : ℕ → Kind) (n : ℕ) (x : Forest) → optional n names_of (in_one_form kind x) ≡ optional n names_of x
maybe_names kind n x = optional_formed kind (context n ∷ []) names_of (λ f is. names_formed kind f) x

some_databases : (kind : ℕ → Kind) (n : ℕ) (x : Forest) → required n databases_of (in_one_form kind x) ≡ required n databases_of x
some_databases kind n x = required_formed kind n (context n ∷ []) databases_of (λ f is. databases_formed kind f) x

some_query : (kind : ℕ → Kind) (x : Forest) → required 21 (within query_in) (in_one_form kind x) ≡ required 21 (within query_in) x
some_query kind x = required_formed kind 21 (context 21 ∷ []) (within query_in) (λ f is. within_formed kind query_in f query_formed) x

some_start : (kind : ℕ → Kind) (x : Forest) → required 102 (within attrs_and_term_in) (in_one_form kind x) ≡ required 102 (within attrs_and_term_in) x
some_start kind x =
    required_formed kind 102 (context 102 ∷ []) (within attrs_and_term_in) (λ f is. within_formed kind attrs_and_term_in f attrs_and_term_formed) x

-- ---- requests

-- a login, of which the contents octets are kept as they are
login_same : (f : Field) → is_constructed (context 7) f.tag ≡ true → login_of (formed init_kind f) ≡ login_of f
login_same f e =
    let kind : init_kind f.tag.number ≡ whole = ap init_kind (its_constructed_number (context 7) f.tag e) in
    ap (λ (k : Kind). login_of (field_of f.tag (shown k f.tag.constructed f.contents) f.inner)) kind

maybe_login : (x : Forest) → login_in (in_one_form init_kind x) ≡ login_in x
unfolding login_in
maybe_login x = constructed_formed init_kind (context 7) (read_if login_of) (λ f e. ap (read_as Some) (login_same f e)) x

init_formed : (x : Forest) → init_in (in_one_form init_kind x) ≡ init_in x
unfolding init_in shared_in
init_formed x =
    rw (maybe_octets init_kind 2 refl x, some_bits init_kind 3 refl x, some_bits init_kind 4 refl x, some_number init_kind 5 refl x, some_number init_kind 6 refl x, maybe_login x) refl

abbrev search_kind : ℕ → Kind
search_kind = holding (13 ∷ 14 ∷ 15 ∷ []) (16 ∷ [])

search_formed : (x : Forest) → search_in (in_one_form search_kind x) ≡ search_in x
unfolding search_in bounds_in named_in wanted_in
search_formed x =
    rw (maybe_octets search_kind 2 refl x, some_number search_kind 13 refl x, some_number search_kind 14 refl x, some_number search_kind 15 refl x, some_truth search_kind 16 refl x, some_octets search_kind 17 refl x, some_databases search_kind 18 x, maybe_names search_kind 100 x, maybe_names search_kind 101 x, maybe_oid search_kind (context 104) refl x, some_query search_kind x) refl

abbrev present_kind : ℕ → Kind
present_kind = holding (29 ∷ 30 ∷ []) []

present_formed : (x : Forest) → present_in (in_one_form present_kind x) ≡ present_in x
unfolding present_in place_in form_in
present_formed x =
    rw (maybe_octets present_kind 2 refl x, some_octets present_kind 31 refl x, some_integer present_kind 30 refl x, some_number present_kind 29 refl x, composition_formed present_kind x, maybe_oid present_kind (context 104) refl x) refl

abbrev scan_kind : ℕ → Kind
scan_kind = holding (5 ∷ 7 ∷ []) []

scan_formed : (x : Forest) → scan_in (in_one_form scan_kind x) ≡ scan_in x
unfolding scan_in ask_in start_in
scan_formed x =
    rw (maybe_octets scan_kind 2 refl x, some_databases scan_kind 3 x, maybe_oid scan_kind (universal 6) refl x, some_start scan_kind x, maybe_number scan_kind 5 refl x, required_formed scan_kind 6 (context 6 ∷ []) number_of (λ f is. number_formed scan_kind f (of_tag (λ m. KeepsInteger (scan_kind m)) (context 6) (λ c. refl) f is)) x, maybe_number scan_kind 7 refl x) refl

abbrev close_kind : ℕ → Kind
close_kind = holding (211 ∷ []) []

close_formed : (x : Forest) → close_in (in_one_form close_kind x) ≡ close_in x
unfolding close_in
close_formed x = rw (maybe_octets close_kind 2 refl x, some_number close_kind 211 refl x, maybe_octets close_kind 3 refl x) refl

-- ---- replies

abbrev init_reply_kind : ℕ → Kind
init_reply_kind = holding (5 ∷ 6 ∷ []) (12 ∷ [])

init_reply_formed : (x : Forest) → init_reply_in (in_one_form init_reply_kind x) ≡ init_reply_in x
unfolding init_reply_in init_response_in shared_in
init_reply_formed x =
    rw (maybe_octets init_reply_kind 2 refl x, some_bits init_reply_kind 3 refl x, some_bits init_reply_kind 4 refl x, some_number init_reply_kind 5 refl x, some_number init_reply_kind 6 refl x, some_truth init_reply_kind 12 refl x) refl

abbrev search_reply_kind : ℕ → Kind
search_reply_kind = holding (23 ∷ 24 ∷ 25 ∷ 27 ∷ []) (22 ∷ [])

search_reply_formed : (x : Forest) → search_reply_in (in_one_form search_reply_kind x) ≡ search_reply_in x
unfolding search_reply_in counts_in found_in
search_reply_formed x =
    rw (maybe_octets search_reply_kind 2 refl x, some_number search_reply_kind 23 refl x, some_number search_reply_kind 24 refl x, some_number search_reply_kind 25 refl x, some_truth search_reply_kind 22 refl x, maybe_number search_reply_kind 27 refl x, body_in_formed search_reply_kind x) refl

abbrev present_reply_kind : ℕ → Kind
present_reply_kind = holding (24 ∷ 25 ∷ 27 ∷ []) []

present_reply_formed : (x : Forest) → present_reply_in (in_one_form present_reply_kind x) ≡ present_reply_in x
unfolding present_reply_in returned_in presented_in
present_reply_formed x =
    rw (maybe_octets present_reply_kind 2 refl x, some_number present_reply_kind 24 refl x, some_number present_reply_kind 25 refl x, some_number present_reply_kind 27 refl x, body_in_formed present_reply_kind x) refl

abbrev scan_reply_kind : ℕ → Kind
scan_reply_kind = holding (4 ∷ 5 ∷ 6 ∷ []) []

scan_reply_formed : (x : Forest) → scan_reply_in (in_one_form scan_reply_kind x) ≡ scan_reply_in x
unfolding scan_reply_in scanned_in
scan_reply_formed x =
    rw (maybe_octets scan_reply_kind 2 refl x, some_number scan_reply_kind 4 refl x, some_number scan_reply_kind 5 refl x, maybe_number scan_reply_kind 6 refl x, listing_formed scan_reply_kind x) refl

-- ---- so elements of one form are read alike

abbrev Alike : {A : Type 0} → (ℕ → Kind) → Forest → Forest → A → A → Type 0
Alike kind x y a b = in_one_form kind x ≡ in_one_form kind y → a ≡ b

alike : {A : Type 0} (kind : ℕ → Kind) (read : Forest → Result A Refusal) → ((x : Forest) → read (in_one_form kind x) ≡ read x) → (x y : Forest) → Alike kind x y (read x) (read y)
alike kind read keeps x y e = sym (keeps x) ∙ ap read e ∙ keeps y

pick : {A : Type 0} (b : Bool) (s t : ℕ → Kind) (x y : Forest) (f g h k : A) → Alike s x y f h → Alike t x y g k → Alike (cond b s t) x y (cond b f g) (cond b h k)
pick true s t x y f g h k p q = p
pick false s t x y f g h k p q = q

request_alike : (tag : Tag) (c d : List ℕ) (x y : Forest) → Alike (request_kind tag.number) x y (request_of (field_of tag c x)) (request_of (field_of tag d y))
unfolding request_of
request_alike tag c d x y = λ e. ap (λ v. cond (tag.class == 2) v (Err (refusal.UnknownUnit tag.number))) (numbered e)
  where
    numbered : Alike (request_kind tag.number) x y (numbered_request tag.number (field_of tag c x)) (numbered_request tag.number (field_of tag d y))
    numbered =
        pick (tag.number == 20) init_kind _ x y _ _ _ _ (λ e. ap (read_as request.Init) (alike init_kind init_in init_formed x y e))
        (pick (tag.number == 22) search_kind _ x y _ _ _ _ (λ e. ap (read_as request.Search) (alike search_kind search_in search_formed x y e))
        (pick (tag.number == 24) present_kind _ x y _ _ _ _ (λ e. ap (read_as request.Present) (alike present_kind present_in present_formed x y e))
        (pick (tag.number == 35) scan_kind _ x y _ _ _ _ (λ e. ap (read_as request.Scan) (alike scan_kind scan_in scan_formed x y e))
        (λ e. ap (λ v. cond (tag.number == 48) (read_as request.Close v) (Err (refusal.UnknownUnit tag.number))) (alike close_kind close_in close_formed x y e)))))

reply_alike : (tag : Tag) (c d : List ℕ) (x y : Forest) → Alike (reply_kind tag.number) x y (reply_of (field_of tag c x)) (reply_of (field_of tag d y))
unfolding reply_of
reply_alike tag c d x y = λ e. ap (λ v. cond (tag.class == 2) v (Err (refusal.UnknownUnit tag.number))) (numbered e)
  where
    numbered : Alike (reply_kind tag.number) x y (numbered_reply tag.number (field_of tag c x)) (numbered_reply tag.number (field_of tag d y))
    numbered =
        pick (tag.number == 21) init_reply_kind _ x y _ _ _ _ (alike init_reply_kind init_reply_in init_reply_formed x y)
        (pick (tag.number == 23) search_reply_kind _ x y _ _ _ _ (alike search_reply_kind search_reply_in search_reply_formed x y)
        (pick (tag.number == 25) present_reply_kind _ x y _ _ _ _ (alike present_reply_kind present_reply_in present_reply_formed x y)
        (pick (tag.number == 36) scan_reply_kind _ x y _ _ _ _ (alike scan_reply_kind scan_reply_in scan_reply_formed x y)
        (λ e. ap (λ v. cond (tag.number == 48) (read_as reply.Close v) (Err (refusal.UnknownUnit tag.number))) (alike close_kind close_in close_formed x y e)))))

-- ---- and units of one form have the same answers

abbrev AreAlike : {A : Type 0} → (ℕ → ℕ → Kind) → (Field → Result A Refusal) → Type 0
AreAlike kinds value = (tag : Tag) (c d : List ℕ) (x y : Forest) → Alike (kinds tag.number) x y (value (field_of tag c x)) (value (field_of tag d y))

read_alike : {A : Type 0} (kinds : ℕ → ℕ → Kind) (value : Field → Result A Refusal) → AreAlike kinds value → (a b : List ℕ) (read : Result A Refusal) → HaveOneForm kinds a b → IsReadAs (at_root value) a read → IsReadAs (at_root value) b read
read_alike kinds value are a b read h (tree, unit, is) =
    let root : a ≡ a × (branch h.tag h.contents h.fields none ≡ tree) × ([] ≡ []) = element_one (branch h.tag h.contents h.fields none) tree 64 64 a a [] [] h.first.element unit.element refl in
    (branch h.tag h.others h.more none, h.second, sym (are h.tag h.contents h.others h.fields h.more h.same) ∙ ap (at_root value) root.1 ∙ is)

unchanged : {A : Type 0} (kinds : ℕ → ℕ → Kind) (value : Field → Result A Refusal) → AreAlike kinds value → FormChangesNothing kinds (IsReadingBy (at_root value))
unchanged kinds value are a b (Ok read) h is = read_alike kinds value are a b (Ok read) h is
unchanged kinds value are a b (Err (Ber at)) h is = absurd (unit_no_place a _ at h.first is)
unchanged kinds value are a b (Err (UnknownUnit n)) h is = read_alike kinds value are a b (Err (refusal.UnknownUnit n)) h is
unchanged kinds value are a b (Err (Missing n)) h is = read_alike kinds value are a b (Err (refusal.Missing n)) h is
unchanged kinds value are a b (Err (BadValue n)) h is = read_alike kinds value are a b (Err (refusal.BadValue n)) h is
unchanged kinds value are a b (Err (LeftOut n)) h is = read_alike kinds value are a b (Err (refusal.LeftOut n)) h is
unchanged kinds value are a b (Err Memory) h is = tt

pub unchanged_requests : FormChangesNothing request_kind IsRequestRead
unchanged_requests = unchanged request_kind request_of request_alike

pub unchanged_replies : FormChangesNothing reply_kind IsReplyRead
unchanged_replies = unchanged reply_kind reply_of reply_alike
