-- The first field with each place is kept, and is found by its number.
use Rattle.std.proofs.Common.{◌≡◌, ◌≢◌, ◌<◌, ◌≤◌, ◌+◌, ◌∙◌, ℕ, zero, suc, Bool, true, false, cond, ◌==◌, ◌&&◌, ◌||◌, List, [], ◌∷◌, ◌++◌, length, get_or, slice_get, Option, Some, None, inl, inr, ◌⊎◌, eqb, sym, ap, subst, arith, refl}
use Rattle.std.proofs.Math.ListN.{set}
use Rattle.std.proofs.lemmas.Bool.{eqb-true, and_parts, cond-false, cond-true}
use Rattle.std.proofs.lemmas.Bool.Decides.{nat_tests, eqb_tells}
use Rattle.std.proofs.lemmas.List.{get_or-set_same, get_or-set_other, length-set, length-append}
use Rattle.std.proofs.lemmas.Option.{same_Some}
use Rattle.z_ber.specs.declared.tag.Tag.{Tag}
use Rattle.z_ber.specs.Element.{Forest, none, leaf, branch}
use Rattle.unit_forms.specs.Reading.Elements.{Field, field_of, first_element, other_elements, has_tag, first_of}
use Rattle.z_fields.specs.Index.{place_count, place_of, has_place, first_at, behind, kept_at, or_field, Indexes, free, is_new, places_with, kept_with}

pub same_class : (s t : Tag) → has_tag s t ≡ true → (w : Tag) → has_tag s w ≡ has_tag t w
same_class s t e w =
    let p = and_parts (s.class == t.class) (s.number == t.number) e in
    let c : s.class ≡ t.class = eqb-true s.class t.class p.0 in
    let n : s.number ≡ t.number = eqb-true s.number t.number p.1 in cc

-- ---- a tag that is looked for has the place of its number

same_place : (tag wanted : Tag) → has_tag tag wanted ≡ true → wanted.class ≡ 2 → has_place (place_of wanted.number) tag ≡ true
same_place tag wanted e c =
    let p = and_parts (tag.class == wanted.class) (tag.number == wanted.number) e in
    let k : tag.class ≡ 2 = eqb-true tag.class wanted.class p.0 ∙ c in
    let n : tag.number ≡ wanted.number = eqb-true tag.number wanted.number p.1 in
    rw (k, n) (its_own (place_of wanted.number))
  where
    its_own : (n : ℕ) → (n == n) ≡ true
    its_own n = grind (arith, nat_tests)

no : {P : Type 0} (b : Bool) → b ≡ true → b ≡ false → P
no b e f = absurd (grind arith)

no_some : {P : Type 0} {X : Type 0} (x : X) → None ≡ Some x → P
no_some x e = absurd (grind arith)

-- where no element has the place, none has the tag
pub none_there : (wanted : Tag) (elements : Forest) → wanted.class ≡ 2 → None ≡ first_at (place_of wanted.number) elements → None ≡ first_of (wanted ∷ []) elements
none_there wanted none c e = refl
none_there wanted (leaf t i os) c e = by (has_place (place_of wanted.number) t) refl e (λ h. none_there wanted os c h)
  where
    other : (b : Bool) → has_place (place_of wanted.number) t ≡ false → has_tag t wanted ≡ b → None ≡ first_of (wanted ∷ []) os → None ≡ cond (b || false) (Some (field_of t i none)) (first_of (wanted ∷ []) os)
    other true is has rest = no _ (same_place t wanted has c) is
    other false is has rest = rest

    by : (b : Bool) → has_place (place_of wanted.number) t ≡ b → None ≡ cond b (Some (field_of t i none)) (first_at (place_of wanted.number) os) → (None ≡ first_at (place_of wanted.number) os → None ≡ first_of (wanted ∷ []) os) → None ≡ first_of (wanted ∷ []) (leaf t i os)
    by true is h rest = no_some _ h
    by false is h rest = other (has_tag t wanted) is refl (rest h)
none_there wanted (branch t i x os) c e = by (has_place (place_of wanted.number) t) refl e (λ h. none_there wanted os c h)
  where
    other : (b : Bool) → has_place (place_of wanted.number) t ≡ false → has_tag t wanted ≡ b → None ≡ first_of (wanted ∷ []) os → None ≡ cond (b || false) (Some (field_of t i x)) (first_of (wanted ∷ []) os)
    other true is has rest = no _ (same_place t wanted has c) is
    other false is has rest = rest

    by : (b : Bool) → has_place (place_of wanted.number) t ≡ b → None ≡ cond b (Some (field_of t i x)) (first_at (place_of wanted.number) os) → (None ≡ first_at (place_of wanted.number) os → None ≡ first_of (wanted ∷ []) os) → None ≡ first_of (wanted ∷ []) (branch t i x os)
    by true is h rest = no_some _ h
    by false is h rest = other (has_tag t wanted) is refl (rest h)

-- where the first element with the place has the tag, it is the first with the tag
pub first_there : (wanted : Tag) (elements : Forest) (f : Field) → wanted.class ≡ 2 → Some f ≡ first_at (place_of wanted.number) elements → has_tag f.tag wanted ≡ true → Some f ≡ first_of (wanted ∷ []) elements
first_there wanted none f c e has = no_some f (sym e)
first_there wanted (leaf t i os) f c e has = by (has_place (place_of wanted.number) t) refl e (λ h. first_there wanted os f c h has)
  where
    other : (b : Bool) → has_place (place_of wanted.number) t ≡ false → has_tag t wanted ≡ b → Some f ≡ first_of (wanted ∷ []) os → Some f ≡ cond (b || false) (Some (field_of t i none)) (first_of (wanted ∷ []) os)
    other true is had rest = no _ (same_place t wanted had c) is
    other false is had rest = rest

    by : (b : Bool) → has_place (place_of wanted.number) t ≡ b → Some f ≡ cond b (Some (field_of t i none)) (first_at (place_of wanted.number) os) → (Some f ≡ first_at (place_of wanted.number) os → Some f ≡ first_of (wanted ∷ []) os) → Some f ≡ first_of (wanted ∷ []) (leaf t i os)
    by true is h rest =
        let same : f ≡ field_of t i none = same_Some _ _ h in
        let own : has_tag t wanted ≡ true = subst (λ (g : Field). has_tag g.tag wanted ≡ true) same has in rw own h
    by false is h rest = other (has_tag t wanted) is refl (rest h)
first_there wanted (branch t i x os) f c e has = by (has_place (place_of wanted.number) t) refl e (λ h. first_there wanted os f c h has)
  where
    other : (b : Bool) → has_place (place_of wanted.number) t ≡ false → has_tag t wanted ≡ b → Some f ≡ first_of (wanted ∷ []) os → Some f ≡ cond (b || false) (Some (field_of t i x)) (first_of (wanted ∷ []) os)
    other true is had rest = no _ (same_place t wanted had c) is
    other false is had rest = rest

    by : (b : Bool) → has_place (place_of wanted.number) t ≡ b → Some f ≡ cond b (Some (field_of t i x)) (first_at (place_of wanted.number) os) → (Some f ≡ first_at (place_of wanted.number) os → Some f ≡ first_of (wanted ∷ []) os) → Some f ≡ first_of (wanted ∷ []) (branch t i x os)
    by true is h rest =
        let same : f ≡ field_of t i x = same_Some _ _ h in
        let own : has_tag t wanted ≡ true = subst (λ (g : Field). has_tag g.tag wanted ≡ true) same has in rw own h
    by false is h rest = other (has_tag t wanted) is refl (rest h)

-- ---- one element after another

first_next : (place : ℕ) (left : Forest) (f : Field) → Some f ≡ first_element left → first_at place left ≡ cond (has_place place f.tag) (Some f) (first_at place (other_elements left))
first_next place none f e = no_some f (sym e)
first_next place (leaf t c os) f e = rw (same_Some f _ e) refl
first_next place (branch t c is os) f e = rw (same_Some f _ e) refl

-- what stands behind a place stays there where another field is kept
behind_more : (n : ℕ) (kept : List Field) (f : Field) → n ≤ length kept → behind n (kept ++ f ∷ []) ≡ behind n kept
behind_more zero kept f h = refl
behind_more (suc i) kept f h = there kept i (omega (arith, h))
  where
    there : (xs : List Field) (i : ℕ) → i < length xs → slice_get (xs ++ f ∷ []) i ≡ slice_get xs i
    there [] i h = absurd (omega arith)
    there (x ∷ xs) zero h = refl
    there (x ∷ xs) (suc i) h = there xs i (omega arith)

behind_last : (kept : List Field) (f : Field) → behind (suc (length kept)) (kept ++ f ∷ []) ≡ Some f
behind_last [] f = refl
behind_last (x ∷ kept) f = last kept
  where
    last : (xs : List Field) → slice_get (xs ++ f ∷ []) (length xs) ≡ Some f
    last [] = refl
    last (y ∷ xs) = last xs

behind_some : (n : ℕ) (kept : List Field) → n ≤ length kept → (n == 0) ≡ false → (g : Field) × (behind n kept ≡ Some g)
behind_some zero kept h not = absurd (grind arith)
behind_some (suc i) kept h not = some kept i (omega (arith, h))
  where
    some : (xs : List Field) (i : ℕ) → i < length xs → (g : Field) × (slice_get xs i ≡ Some g)
    some [] i h = absurd (omega arith)
    some (x ∷ xs) zero h = (x, refl)
    some (x ∷ xs) (suc i) h = some xs i (omega arith)

behind_true : (a b : Bool) → a ≡ true → (a && b) ≡ false → b ≡ false
behind_true true b t e = e
behind_true false b t e = no false t refl

-- a place that is taken is free no more
taken : (xs : List ℕ) (i v : ℕ) → i < length xs → get_or xs i 0 ≡ 0 → suc (free (set xs i (suc v))) ≡ free xs
taken [] i v low empty = absurd (omega arith)
taken (zero ∷ xs) zero v low empty = refl
taken (suc x ∷ xs) zero v low empty = absurd (grind arith)
taken (zero ∷ xs) (suc i) v low empty = ap suc (taken xs i v (omega arith) empty)
taken (suc x ∷ xs) (suc i) v low empty = taken xs i v (omega arith) empty

-- where a place is free, fewer fields are kept than there are places
pub one_free : (xs : List ℕ) (i : ℕ) → i < length xs → get_or xs i 0 ≡ 0 → 0 < free xs
one_free xs i low empty = let h = taken xs i 0 low empty in omega (arith, h)

same_or : (a b x y : Option Field) → a ≡ b → x ≡ y → or_field a x ≡ or_field b y
same_or a b x y p q = cc

-- at first no place stands for a field
abbrev pub all_zero : List ℕ → Bool
all_zero [] = true
all_zero (n ∷ ns) = (n == 0) && all_zero ns

zero_there : (ns : List ℕ) → all_zero ns ≡ true → (i : ℕ) → get_or ns i 0 ≡ 0
zero_there [] h i = refl
zero_there (n ∷ ns) h zero = eqb-true n 0 (and_parts (n == 0) (all_zero ns) h).0
zero_there (n ∷ ns) h (suc i) = zero_there ns (and_parts (n == 0) (all_zero ns) h).1 i

pub index_begin : (start left : Forest) (places : List ℕ) (kept : List Field) → length places ≡ place_count → all_zero places ≡ true → length kept + free places ≡ place_count → left ≡ start → Indexes start places kept left
index_begin start left places kept whole zeros room same = record {
  whole = whole;
  room = room;
  within = λ place. let h = zero_there places zeros place in omega (arith, h);
  firsts = λ place low. ap (first_at place) (sym same) ∙ sym (ap (λ n. or_field (behind n kept) (first_at place left)) (zero_there places zeros place));
}

low_place : (number : ℕ) → place_of number < place_count
low_place number = omega arith

-- the places of another number than a field's own stay as they were
kept_elsewhere : (places : List ℕ) (kept : List Field) (f : Field) (place : ℕ) → get_or places place 0 ≤ length kept → place ≢ place_of f.tag.number → kept_at (set places (place_of f.tag.number) (suc (length kept))) (kept ++ f ∷ []) place ≡ kept_at places kept place
kept_elsewhere places kept f place few other =
    ap (λ n. behind n (kept ++ f ∷ [])) (get_or-set_other places (place_of f.tag.number) place (suc (length kept)) 0 other)
    ∙ behind_more (get_or places place 0) kept f few

kept_own : (places : List ℕ) (kept : List Field) (f : Field) → length places ≡ place_count → kept_at (set places (place_of f.tag.number) (suc (length kept))) (kept ++ f ∷ []) (place_of f.tag.number) ≡ Some f
kept_own places kept f whole =
    ap (λ n. behind n (kept ++ f ∷ [])) (get_or-set_same places (place_of f.tag.number) (suc (length kept)) 0 (subst (λ n. place_of f.tag.number < n) (sym whole) (low_place f.tag.number)))
    ∙ behind_last kept f

-- where its place is empty a field is kept
kept_new : (start left : Forest) (places : List ℕ) (kept : List Field) (f : Field) → Indexes start places kept left → Some f ≡ first_element left → is_new places f.tag ≡ true → Indexes start (set places (place_of f.tag.number) (suc (length kept))) (kept ++ f ∷ []) (other_elements left)
kept_new start left places kept f so e new = record {
  whole = length-set places (place_of f.tag.number) (suc (length kept)) ∙ so.whole;
  room = roomy;
  within = λ place. few place (eqb_tells place (place_of f.tag.number));
  firsts = λ place low. by place low (has_place place f.tag) refl;
}
  where
    is : ((f.tag.class == 2) ≡ true) × ((get_or places (place_of f.tag.number) 0 == 0) ≡ true)
    is = and_parts _ _ new

    roomy : length (kept ++ f ∷ []) + free (set places (place_of f.tag.number) (suc (length kept))) ≡ place_count
    roomy = let low : place_of f.tag.number < length places = subst (λ n. place_of f.tag.number < n) (sym so.whole) (low_place f.tag.number) in
        let h = taken places (place_of f.tag.number) (length kept) low (eqb-true (get_or places (place_of f.tag.number) 0) 0 is.1) in
        let l = length-append kept (f ∷ []) in
        let r = so.room in omega (arith, h, l, r)

    few : (place : ℕ) → ((eqb place (place_of f.tag.number) ≡ true) × (place ≡ place_of f.tag.number)) ⊎ ((eqb place (place_of f.tag.number) ≡ false) × (place ≢ place_of f.tag.number)) → get_or (set places (place_of f.tag.number) (suc (length kept))) place 0 ≤ length (kept ++ f ∷ [])
    few place (inl same) = let h = get_or-set_same places (place_of f.tag.number) (suc (length kept)) 0 (subst (λ n. place_of f.tag.number < n) (sym so.whole) (low_place f.tag.number)) in
        let k : get_or (set places (place_of f.tag.number) (suc (length kept))) place 0 ≡ suc (length kept) = rw same.1 h in
        let l = length-append kept (f ∷ []) in omega (arith, k, l)
    few place (inr other) = let h = get_or-set_other places (place_of f.tag.number) place (suc (length kept)) 0 other.1 in
        let w = so.within place in
        let l = length-append kept (f ∷ []) in omega (arith, h, w, l)

    by : (place : ℕ) → place < place_count → (b : Bool) → has_place place f.tag ≡ b → first_at place start ≡ or_field (kept_at (set places (place_of f.tag.number) (suc (length kept))) (kept ++ f ∷ []) place) (first_at place (other_elements left))
    by place low true has =
        let here : place_of f.tag.number ≡ place = eqb-true (place_of f.tag.number) place (and_parts (f.tag.class == 2) (place_of f.tag.number == place) has).1 in
        let empty : kept_at places kept place ≡ None = ap (λ n. behind n kept) (ap (λ p. get_or places p 0) (sym here) ∙ eqb-true (get_or places (place_of f.tag.number) 0) 0 is.1) in
        let own : kept_at (set places (place_of f.tag.number) (suc (length kept))) (kept ++ f ∷ []) place ≡ Some f = subst (λ p. kept_at (set places (place_of f.tag.number) (suc (length kept))) (kept ++ f ∷ []) p ≡ Some f) here (kept_own places kept f so.whole) in
        so.firsts place low ∙ same_or _ _ _ _ empty (first_next place left f e ∙ cond-true _ _ _ has) ∙ sym (ap (λ o. or_field o (first_at place (other_elements left))) own)
    by place low false has =
        so.firsts place low ∙ same_or _ _ _ _ (sym (kept_elsewhere places kept f place (so.within place) (elsewhere place has))) (first_next place left f e ∙ cond-false _ _ _ has)
      where
        elsewhere : (place : ℕ) → has_place place f.tag ≡ false → place ≢ place_of f.tag.number
        elsewhere place has same = no (place_of f.tag.number == place) (let k : (place == place) ≡ true = grind (arith, nat_tests) in subst (λ p. (p == place) ≡ true) same k) (behind_true (f.tag.class == 2) _ is.0 has)

-- where its place is not empty, or it has none, nothing changes
kept_old : (start left : Forest) (places : List ℕ) (kept : List Field) (f : Field) → Indexes start places kept left → Some f ≡ first_element left → is_new places f.tag ≡ false → Indexes start places kept (other_elements left)
kept_old start left places kept f so e old = record {
  whole = so.whole;
  room = so.room;
  within = so.within;
  firsts = λ place low. by place low (has_place place f.tag) refl;
}
  where
    full : (a b c : Bool) → (a && b) ≡ false → (a && c) ≡ true → b ≡ false
    full true b c e t = e
    full false b c e t = no false t refl

    by : (place : ℕ) → place < place_count → (b : Bool) → has_place place f.tag ≡ b → first_at place start ≡ or_field (kept_at places kept place) (first_at place (other_elements left))
    by place low true has =
        let here : place_of f.tag.number ≡ place = eqb-true (place_of f.tag.number) place (and_parts (f.tag.class == 2) (place_of f.tag.number == place) has).1 in
        let some = behind_some (get_or places place 0) kept (so.within place) (subst (λ p. (get_or places p 0 == 0) ≡ false) here (full (f.tag.class == 2) _ _ old has)) in
        so.firsts place low ∙ either (kept_at places kept place) some.0 _ _ some.1
      where
        either : (a : Option Field) (g : Field) (x y : Option Field) → a ≡ Some g → or_field a x ≡ or_field a y
        either a g x y is = rw is refl
    by place low false has =
        so.firsts place low ∙ ap (or_field (kept_at places kept place)) (first_next place left f e ∙ cond-false _ _ _ has)

-- one element is passed
pub index_on : (start left others : Forest) (places new_places : List ℕ) (kept new_kept : List Field) (f : Field) → Indexes start places kept left → Some f ≡ first_element left → others ≡ other_elements left → new_places ≡ places_with places kept f → new_kept ≡ kept_with places kept f → Indexes start new_places new_kept others
index_on start left others places new_places kept new_kept f so e o p k =
    subst (λ (x : Forest). Indexes start new_places new_kept x) (sym o)
    (subst (λ (x : List ℕ). Indexes start x new_kept (other_elements left)) (sym p)
    (subst (λ (x : List Field). Indexes start (places_with places kept f) x (other_elements left)) (sym k)
    (by (is_new places f.tag) refl)))
  where
    by : (b : Bool) → is_new places f.tag ≡ b → Indexes start (cond b (set places (place_of f.tag.number) (suc (length kept))) places) (cond b (kept ++ f ∷ []) kept) (other_elements left)
    by true new = kept_new start left places kept f so e new
    by false old = kept_old start left places kept f so e old

pub ruleset found_steps = (none_there, first_there)
