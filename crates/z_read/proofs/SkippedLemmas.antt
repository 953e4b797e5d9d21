-- Elements that are skipped change nothing.
use Rattle.std.proofs.Common.{◌≡◌, ◌∙◌, ℕ, ◌==◌, ◌&&◌, ◌||◌, arith, Bool, true, false, cond, List, [], ◌∷◌, Some, Result, Ok, Err, refl, sym, ap}
use Rattle.std.proofs.lemmas.Bool.{and_parts}
use Rattle.z_types.specs.declared.requests.Request.TheVariants as request
use Rattle.z_types.specs.declared.replies.Reply.TheVariants as reply
use Rattle.z_ber.specs.declared.tag.Tag.{Tag}
use Rattle.z_ber.specs.Element.{Forest, none, leaf, branch}
use Rattle.z_ber.proofs.OnePlace.{unit_no_place}
use Rattle.z_ber.proofs.TreeLaws.{element_one}
use Rattle.unit_forms.specs.declared.refusal.Refusal.{Refusal}
use Rattle.unit_forms.specs.declared.refusal.Refusal.TheVariants as refusal
use Rattle.unit_forms.specs.Reading.Answers.{read_as, read_or}
use Rattle.unit_forms.specs.Reading.CloseUnit.{close_in}
use Rattle.unit_forms.specs.Reading.ElementNames.{composition_in}
use Rattle.unit_forms.specs.Reading.Elements.{Field, field_of, has_tag, is_one_of, first_of, first_element, is_constructed, first_constructed}
use Rattle.unit_forms.specs.Reading.InitRequest.{shared_in, login_in, init_in, init_response_in}
use Rattle.unit_forms.specs.Reading.PresentRequest.{place_in, form_in, present_in}
use Rattle.unit_forms.specs.Reading.Records.{body_in}
use Rattle.unit_forms.specs.Reading.Responses.{init_reply_in, counts_in, found_in, search_reply_in, returned_in, presented_in, present_reply_in, scanned_in, listing_in, scan_reply_in}
use Rattle.unit_forms.specs.Reading.Rows.{context, universal}
use Rattle.unit_forms.specs.Reading.ScanRequest.{start_in, ask_in, scan_in}
use Rattle.unit_forms.specs.Reading.SearchRequest.{bounds_in, named_in, wanted_in, search_in}
use Rattle.unit_forms.specs.Reading.Units.{numbered_request, request_of, numbered_reply, reply_of}
use Rattle.z_fields.proofs.IndexLemmas.{same_class}
use Rattle.z_read.specs.declared.fault.ReadFault.TheVariants.{Ber, UnknownUnit, Missing, BadValue, LeftOut, Memory}
use Rattle.z_read.specs.Laws.{kept, contexts, request_tags, reply_tags, HaveSameFields, SkippedChangeNothing}
use Rattle.z_read.specs.Read.{IsReadAs, IsReadingBy, IsRequestRead, IsReplyRead}

-- ---- tags among others

-- whether each tag of a choice is one of these
abbrev are_wanted : List Tag → List Tag → Bool
are_wanted wanted [] = true
are_wanted wanted (tag ∷ choice) = is_one_of wanted tag && are_wanted wanted choice

same_choice : (s t : Tag) → has_tag s t ≡ true → (choice : List Tag) → is_one_of choice s ≡ is_one_of choice t
same_choice s t e [] = refl
same_choice s t e (w ∷ choice) = both _ _ _ _ (same_class s t e w) (same_choice s t e choice)
  where
    both : (a b x y : Bool) → a ≡ b → x ≡ y → (a || x) ≡ (b || y)
    both a b x y p q = cc

-- a tag that is not wanted is in no choice of wanted tags
unwanted : (wanted choice : List Tag) (tag : Tag) → are_wanted wanted choice ≡ true → is_one_of wanted tag ≡ false → is_one_of choice tag ≡ false
unwanted wanted [] tag all not_one = refl
unwanted wanted (w ∷ choice) tag all not_one =
    let p = and_parts (is_one_of wanted w) (are_wanted wanted choice) all in
    by (has_tag tag w) refl (unwanted wanted choice tag p.1 not_one) p.0
  where
    no : {P : Type 0} (b : Bool) → b ≡ true → b ≡ false → P
    no b e f = absurd (grind arith)

    by : (b : Bool) → has_tag tag w ≡ b → is_one_of choice tag ≡ false → is_one_of wanted w ≡ true → (b || is_one_of choice tag) ≡ false
    by true e rest one = no (is_one_of wanted tag) (same_choice tag w e wanted ∙ one) not_one
    by false e rest one = rest

-- ---- the first of a choice of kept tags is kept

pub first_kept : (tags choice : List Tag) → are_wanted tags choice ≡ true → (fields : Forest) → first_of choice (kept tags fields) ≡ first_of choice fields
first_kept tags choice all none = refl
first_kept tags choice all (leaf t c os) = by (is_one_of tags t) refl (first_kept tags choice all os)
  where
    by : (b : Bool) → is_one_of tags t ≡ b → first_of choice (kept tags os) ≡ first_of choice os → first_of choice (cond b (leaf t c (kept tags os)) (kept tags os)) ≡ cond (is_one_of choice t) (Some (field_of t c none)) (first_of choice os)
    by true e behind = ap (cond (is_one_of choice t) (Some (field_of t c none))) behind
    by false e behind = rw (unwanted tags choice t all e) behind
first_kept tags choice all (branch t c is os) = by (is_one_of tags t) refl (first_kept tags choice all os)
  where
    by : (b : Bool) → is_one_of tags t ≡ b → first_of choice (kept tags os) ≡ first_of choice os → first_of choice (cond b (branch t c is (kept tags os)) (kept tags os)) ≡ cond (is_one_of choice t) (Some (field_of t c is)) (first_of choice os)
    by true e behind = ap (cond (is_one_of choice t) (Some (field_of t c is))) behind
    by false e behind = rw (unwanted tags choice t all e) behind

one : (tags : List Tag) (n : ℕ) → are_wanted tags (context n ∷ []) ≡ true → (fields : Forest) → first_of (context n ∷ []) (kept tags fields) ≡ first_of (context n ∷ []) fields
one tags n all fields = first_kept tags (context n ∷ []) all fields

neither : (a b : Bool) → (b || false) ≡ false → (a && b) ≡ false
neither a true e = absurd cc
neither true false e = refl
neither false false e = refl

-- so is the first constructed element of a kept tag
constructed_kept : (tags : List Tag) (n : ℕ) → are_wanted tags (context n ∷ []) ≡ true → (fields : Forest) → first_constructed (context n) (kept tags fields) ≡ first_constructed (context n) fields
constructed_kept tags n all none = refl
constructed_kept tags n all (leaf t c os) = by (is_one_of tags t) refl (constructed_kept tags n all os)
  where
    by : (b : Bool) → is_one_of tags t ≡ b → first_constructed (context n) (kept tags os) ≡ first_constructed (context n) os → first_constructed (context n) (cond b (leaf t c (kept tags os)) (kept tags os)) ≡ cond (is_constructed (context n) t) (Some (field_of t c none)) (first_constructed (context n) os)
    by true e behind = ap (cond (is_constructed (context n) t) (Some (field_of t c none))) behind
    by false e behind = rw (neither t.constructed (has_tag t (context n)) (unwanted tags (context n ∷ []) t all e)) behind
constructed_kept tags n all (branch t c is os) = by (is_one_of tags t) refl (constructed_kept tags n all os)
  where
    by : (b : Bool) → is_one_of tags t ≡ b → first_constructed (context n) (kept tags os) ≡ first_constructed (context n) os → first_constructed (context n) (cond b (branch t c is (kept tags os)) (kept tags os)) ≡ cond (is_constructed (context n) t) (Some (field_of t c is)) (first_constructed (context n) os)
    by true e behind = ap (cond (is_constructed (context n) t) (Some (field_of t c is))) behind
    by false e behind = rw (neither t.constructed (has_tag t (context n)) (unwanted tags (context n ∷ []) t all e)) behind

-- ---- each unit is made of its kept fields

abbrev init_tags : List Tag
init_tags = contexts (2 ∷ 3 ∷ 4 ∷ 5 ∷ 6 ∷ 7 ∷ [])

init_kept : (x : Forest) → init_in (kept init_tags x) ≡ init_in x
unfolding init_in shared_in login_in
init_kept x =
    rw (one init_tags 2 refl x, one init_tags 3 refl x, one init_tags 4 refl x, one init_tags 5 refl x, one init_tags 6 refl x, constructed_kept init_tags 7 refl x) refl

abbrev search_tags : List Tag
search_tags = contexts (2 ∷ 13 ∷ 14 ∷ 15 ∷ 16 ∷ 17 ∷ 18 ∷ 100 ∷ 101 ∷ 104 ∷ 21 ∷ [])

search_kept : (x : Forest) → search_in (kept search_tags x) ≡ search_in x
unfolding search_in bounds_in named_in wanted_in
search_kept x =
    rw (one search_tags 2 refl x, one search_tags 13 refl x, one search_tags 14 refl x, one search_tags 15 refl x, one search_tags 16 refl x, one search_tags 17 refl x, one search_tags 18 refl x, one search_tags 100 refl x, one search_tags 101 refl x, one search_tags 104 refl x, one search_tags 21 refl x) refl

abbrev present_tags : List Tag
present_tags = contexts (2 ∷ 31 ∷ 30 ∷ 29 ∷ 19 ∷ 209 ∷ 212 ∷ 104 ∷ [])

present_kept : (x : Forest) → present_in (kept present_tags x) ≡ present_in x
unfolding present_in place_in form_in composition_in
present_kept x =
    rw (one present_tags 2 refl x, one present_tags 31 refl x, one present_tags 30 refl x, one present_tags 29 refl x, one present_tags 212 refl x, first_kept present_tags (context 19 ∷ context 209 ∷ []) refl x, one present_tags 104 refl x) refl

abbrev scan_tags : List Tag
scan_tags = universal 6 ∷ contexts (2 ∷ 3 ∷ 102 ∷ 5 ∷ 6 ∷ 7 ∷ [])

scan_kept : (x : Forest) → scan_in (kept scan_tags x) ≡ scan_in x
unfolding scan_in ask_in start_in
scan_kept x =
    rw (one scan_tags 2 refl x, one scan_tags 3 refl x, first_kept scan_tags (universal 6 ∷ []) refl x, one scan_tags 102 refl x, one scan_tags 5 refl x, one scan_tags 6 refl x, one scan_tags 7 refl x) refl

abbrev close_tags : List Tag
close_tags = contexts (2 ∷ 211 ∷ 3 ∷ [])

close_kept : (x : Forest) → close_in (kept close_tags x) ≡ close_in x
unfolding close_in
close_kept x = rw (one close_tags 2 refl x, one close_tags 211 refl x, one close_tags 3 refl x) refl

abbrev init_reply_tags : List Tag
init_reply_tags = contexts (2 ∷ 3 ∷ 4 ∷ 5 ∷ 6 ∷ 12 ∷ [])

init_reply_kept : (x : Forest) → init_reply_in (kept init_reply_tags x) ≡ init_reply_in x
unfolding init_reply_in init_response_in shared_in
init_reply_kept x =
    rw (one init_reply_tags 2 refl x, one init_reply_tags 3 refl x, one init_reply_tags 4 refl x, one init_reply_tags 5 refl x, one init_reply_tags 6 refl x, one init_reply_tags 12 refl x) refl

abbrev search_reply_tags : List Tag
search_reply_tags = contexts (2 ∷ 23 ∷ 24 ∷ 25 ∷ 22 ∷ 27 ∷ 28 ∷ 130 ∷ 205 ∷ [])

abbrev body_choice : List Tag
body_choice = context 28 ∷ context 130 ∷ context 205 ∷ []

search_reply_kept : (x : Forest) → search_reply_in (kept search_reply_tags x) ≡ search_reply_in x
unfolding search_reply_in counts_in found_in body_in
search_reply_kept x =
    rw (one search_reply_tags 2 refl x, one search_reply_tags 23 refl x, one search_reply_tags 24 refl x, one search_reply_tags 25 refl x, one search_reply_tags 22 refl x, one search_reply_tags 27 refl x, first_kept search_reply_tags body_choice refl x) refl

abbrev present_reply_tags : List Tag
present_reply_tags = contexts (2 ∷ 24 ∷ 25 ∷ 27 ∷ 28 ∷ 130 ∷ 205 ∷ [])

present_reply_kept : (x : Forest) → present_reply_in (kept present_reply_tags x) ≡ present_reply_in x
unfolding present_reply_in returned_in presented_in body_in
present_reply_kept x =
    rw (one present_reply_tags 2 refl x, one present_reply_tags 24 refl x, one present_reply_tags 25 refl x, one present_reply_tags 27 refl x, first_kept present_reply_tags body_choice refl x) refl

abbrev scan_reply_tags : List Tag
scan_reply_tags = contexts (2 ∷ 4 ∷ 5 ∷ 6 ∷ 7 ∷ [])

scan_reply_kept : (x : Forest) → scan_reply_in (kept scan_reply_tags x) ≡ scan_reply_in x
unfolding scan_reply_in scanned_in listing_in
scan_reply_kept x =
    rw (one scan_reply_tags 2 refl x, one scan_reply_tags 4 refl x, one scan_reply_tags 5 refl x, one scan_reply_tags 6 refl x, one scan_reply_tags 7 refl x) refl

-- ---- so elements with the same fields are read alike

abbrev Alike : {A : Type 0} → List Tag → Forest → Forest → A → A → Type 0
Alike tags x y a b = kept tags x ≡ kept tags y → a ≡ b

alike : {A : Type 0} (tags : List Tag) (read : Forest → Result A Refusal) → ((x : Forest) → read (kept tags x) ≡ read x) → (x y : Forest) → Alike tags x y (read x) (read y)
alike tags read keeps x y e = sym (keeps x) ∙ ap read e ∙ keeps y

pick : {A : Type 0} (b : Bool) (s t : List Tag) (x y : Forest) (f g h k : A) → Alike s x y f h → Alike t x y g k → Alike (cond b s t) x y (cond b f g) (cond b h k)
pick true s t x y f g h k p q = p
pick false s t x y f g h k p q = q

request_alike : (tag : Tag) (c d : List ℕ) (x y : Forest) → Alike (request_tags tag.number) x y (request_of (field_of tag c x)) (request_of (field_of tag d y))
unfolding request_of
request_alike tag c d x y = λ e. ap (λ v. cond (tag.class == 2) v (Err (refusal.UnknownUnit tag.number))) (numbered e)
  where
    numbered : Alike (request_tags tag.number) x y (numbered_request tag.number (field_of tag c x)) (numbered_request tag.number (field_of tag d y))
    numbered =
        pick (tag.number == 20) init_tags _ x y _ _ _ _ (λ e. ap (read_as request.Init) (alike init_tags init_in init_kept x y e))
        (pick (tag.number == 22) search_tags _ x y _ _ _ _ (λ e. ap (read_as request.Search) (alike search_tags search_in search_kept x y e))
        (pick (tag.number == 24) present_tags _ x y _ _ _ _ (λ e. ap (read_as request.Present) (alike present_tags present_in present_kept x y e))
        (pick (tag.number == 35) scan_tags _ x y _ _ _ _ (λ e. ap (read_as request.Scan) (alike scan_tags scan_in scan_kept x y e))
        (λ e. ap (λ v. cond (tag.number == 48) (read_as request.Close v) (Err (refusal.UnknownUnit tag.number))) (alike close_tags close_in close_kept x y e)))))

reply_alike : (tag : Tag) (c d : List ℕ) (x y : Forest) → Alike (reply_tags tag.number) x y (reply_of (field_of tag c x)) (reply_of (field_of tag d y))
unfolding reply_of
reply_alike tag c d x y = λ e. ap (λ v. cond (tag.class == 2) v (Err (refusal.UnknownUnit tag.number))) (numbered e)
  where
    numbered : Alike (reply_tags tag.number) x y (numbered_reply tag.number (field_of tag c x)) (numbered_reply tag.number (field_of tag d y))
    numbered =
        pick (tag.number == 21) init_reply_tags _ x y _ _ _ _ (alike init_reply_tags init_reply_in init_reply_kept x y)
        (pick (tag.number == 23) search_reply_tags _ x y _ _ _ _ (alike search_reply_tags search_reply_in search_reply_kept x y)
        (pick (tag.number == 25) present_reply_tags _ x y _ _ _ _ (alike present_reply_tags present_reply_in present_reply_kept x y)
        (pick (tag.number == 36) scan_reply_tags _ x y _ _ _ _ (alike scan_reply_tags scan_reply_in scan_reply_kept x y)
        (λ e. ap (λ v. cond (tag.number == 48) (read_as reply.Close v) (Err (refusal.UnknownUnit tag.number))) (alike close_tags close_in close_kept x y e)))))

-- ---- and units with the same fields have the same answers

-- what the root of a tree is read as
abbrev pub at_root : {A : Type 0} → (Field → Result A Refusal) → Forest → Result A Refusal
at_root value tree = read_or (refusal.UnknownUnit 0) value (first_element tree)

abbrev AreAlike : {A : Type 0} → (ℕ → List Tag) → (Field → Result A Refusal) → Type 0
AreAlike tags value = (tag : Tag) (c d : List ℕ) (x y : Forest) → Alike (tags tag.number) x y (value (field_of tag c x)) (value (field_of tag d y))

read_alike : {A : Type 0} (tags : ℕ → List Tag) (value : Field → Result A Refusal) → AreAlike tags value → (a b : List ℕ) (read : Result A Refusal) → HaveSameFields tags a b → IsReadAs (at_root value) a read → IsReadAs (at_root value) b read
read_alike tags value are a b read h (tree, unit, is) =
    let root : a ≡ a × (branch h.tag h.contents h.fields none ≡ tree) × ([] ≡ []) = element_one (branch h.tag h.contents h.fields none) tree 64 64 a a [] [] h.first.element unit.element refl in
    (branch h.tag h.others h.more none, h.second, sym (are h.tag h.contents h.others h.fields h.more h.same) ∙ ap (at_root value) root.1 ∙ is)

skipped : {A : Type 0} (tags : ℕ → List Tag) (value : Field → Result A Refusal) → AreAlike tags value → SkippedChangeNothing tags (IsReadingBy (at_root value))
skipped tags value are a b (Ok read) h is = read_alike tags value are a b (Ok read) h is
skipped tags value are a b (Err (Ber at)) h is = absurd (unit_no_place a _ at h.first is)
skipped tags value are a b (Err (UnknownUnit n)) h is = read_alike tags value are a b (Err (refusal.UnknownUnit n)) h is
skipped tags value are a b (Err (Missing n)) h is = read_alike tags value are a b (Err (refusal.Missing n)) h is
skipped tags value are a b (Err (BadValue n)) h is = read_alike tags value are a b (Err (refusal.BadValue n)) h is
skipped tags value are a b (Err (LeftOut n)) h is = read_alike tags value are a b (Err (refusal.LeftOut n)) h is
skipped tags value are a b (Err Memory) h is = tt

pub skipped_requests : SkippedChangeNothing request_tags IsRequestRead
skipped_requests = skipped request_tags request_of request_alike

pub skipped_replies : SkippedChangeNothing reply_tags IsReplyRead
skipped_replies = skipped reply_tags reply_of reply_alike
