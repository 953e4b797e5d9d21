-- The numbers of what is read are in the ranges of their fields.
use Rattle.std.proofs.Common.{◌≡◌, ◌==◌, ◌||◌, ℕ, zero, suc, ◌^◌, ℤ, pos, negsuc, Bool, true, false, cond, List, [], ◌∷◌, Option, None, Some, Result, Ok, Err, IfSome, sym, ap, subst, arith, refl}
use Rattle.std.proofs.lemmas.Bool.{ltb-true}
use Rattle.std.specs.Prelude.{option_and_then, nat_lt}
use Rattle.std.specs.List.{AllByRecursion}
use Rattle.z_types.specs.Numbers.{IsNumber, HasNumbers, HasNumbersOnly, IfGood, QueryHasNumbers, SearchHasNumbers, ScanHasNumbers, HasNumbersInRange}
use Rattle.z_types.specs.Tree.{Tree, leaf as leaf_node, operand}
use Rattle.z_types.specs.declared.query.Attr.{Attr}
use Rattle.z_types.specs.declared.query.RpnQuery.{RpnQuery}
use Rattle.z_types.specs.declared.query.Term.{Term}
use Rattle.z_types.specs.declared.requests.Asked.{Asked}
use Rattle.z_types.specs.declared.requests.Asked.TheVariants.{Good, Bad}
use Rattle.z_types.specs.declared.requests.Init.{Init}
use Rattle.z_types.specs.declared.requests.Search.{Search}
use Rattle.z_types.specs.declared.requests.Present.{Present}
use Rattle.z_types.specs.declared.requests.Scan.{Scan}
use Rattle.z_types.specs.declared.requests.Close.{Close}
use Rattle.z_types.specs.declared.requests.Request.{Request}
use Rattle.z_types.specs.declared.requests.Request.TheVariants as request
use Rattle.z_types.specs.declared.scan.ScanAsk.{ScanAsk}
use Rattle.z_ber.specs.Element.{Forest, none, leaf, branch}
use Rattle.z_ber.specs.declared.tag.Tag.{Tag}
use Rattle.unit_forms.specs.declared.operator.Operator.{Operator}
use Rattle.unit_forms.specs.declared.operator.Operator.TheVariants.{And, Or, AndNot}
use Rattle.unit_forms.specs.declared.refusal.Refusal.{Refusal}
use Rattle.unit_forms.specs.declared.refusal.Refusal.TheVariants.{UnknownUnit, Missing, BadValue}
use Rattle.unit_forms.specs.Reading.Answers.{◌⊗◌, read_as, value_or, read_or, read_if, each, in_front, both_asked, asked_as, all_asked}
use Rattle.unit_forms.specs.Reading.Attributes.{value_of, value_choice, attr_in, attr_of, attrs_in, attrs_of, term_choice, is_attributes_first, operand_asked, attrs_and_term_in}
use Rattle.unit_forms.specs.Reading.CloseUnit.{close_in}
use Rattle.unit_forms.specs.Reading.Contents.{integer_in, in_range, number_in}
use Rattle.unit_forms.specs.Reading.Diagnostics.{other_form, other_query_type}
use Rattle.unit_forms.specs.Reading.Elements.{Field, field_of, first_of, first_context, first_element, has_tag}
use Rattle.unit_forms.specs.Reading.InitRequest.{shared_in, init_in}
use Rattle.unit_forms.specs.Reading.PresentRequest.{present_in, place_in, form_in}
use Rattle.unit_forms.specs.Reading.Queries.{operand_choice, operand_of, operand_in, operator_in, join_asked, joined_of, structure_with, structure_at, rpn_query_in, query_of, query_in}
use Rattle.unit_forms.specs.Reading.Rows.{octets_of, number_of, required_of, optional_of, within, context, universal}
use Rattle.unit_forms.specs.Reading.ScanRequest.{ask_with, as_ask, start_in, ask_in, scan_in}
use Rattle.unit_forms.specs.Reading.SearchRequest.{bounds_in, named_in, wanted_in, with_names, as_search, search_in}
use Rattle.unit_forms.specs.Reading.Units.{request_of, request_in}

-- ---- parts of what is read

ok_same : {A : Type 0} (x y : A) (read : Result A Refusal) → read ≡ Ok x → read ≡ Ok y → x ≡ y
ok_same x y read p q = cc

pub both_ok : {A B : Type 0} (a : Result A Refusal) (b : Result B Refusal) (p : A × B) → a ⊗ b ≡ Ok p → (a ≡ Ok p.0) × (b ≡ Ok p.1)
both_ok {A} {B} (Ok x) (Ok y) p e =
    let same = ok_same (x, y) p (Ok (x, y)) refl e in
    (ap (λ (q : A × B). Ok q.0) same, ap (λ (q : A × B). Ok q.1) same)
both_ok (Ok x) (Err s) p e = absurd cc
both_ok (Err r) (Ok y) p e = absurd cc
both_ok (Err r) (Err s) p e = absurd cc

-- rows of a table: each is read
three_ok : {A B C : Type 0} {a : Result A Refusal} {b : Result B Refusal} {c : Result C Refusal} (x : A) (y : B) (z : C) → a ⊗ (b ⊗ c) ≡ Ok (x, (y, z)) → (a ≡ Ok x) × (b ≡ Ok y) × (c ≡ Ok z)
three_ok {A} {B} {C} {a} {b} {c} x y z e =
    let front = both_ok a (b ⊗ c) (x, (y, z)) e in
    let rest = both_ok b c (y, z) front.1 in
    (front.0, rest.0, rest.1)

four_ok : {A B C D : Type 0} {a : Result A Refusal} {b : Result B Refusal} {c : Result C Refusal} {d : Result D Refusal} (x : A) (y : B) (z : C) (w : D) → a ⊗ (b ⊗ (c ⊗ d)) ≡ Ok (x, (y, (z, w))) → (a ≡ Ok x) × (b ≡ Ok y) × (c ≡ Ok z) × (d ≡ Ok w)
four_ok {A} {B} {C} {D} {a} {b} {c} {d} x y z w e =
    let front = both_ok a (b ⊗ (c ⊗ d)) (x, (y, (z, w))) e in
    let rest = three_ok y z w front.1 in
    (front.0, rest.0, rest.1, rest.2)

five_ok : {A B C D E : Type 0} {a : Result A Refusal} {b : Result B Refusal} {c : Result C Refusal} {d : Result D Refusal} {f : Result E Refusal} (x : A) (y : B) (z : C) (w : D) (v : E) → a ⊗ (b ⊗ (c ⊗ (d ⊗ f))) ≡ Ok (x, (y, (z, (w, v)))) → (a ≡ Ok x) × (b ≡ Ok y) × (c ≡ Ok z) × (d ≡ Ok w) × (f ≡ Ok v)
five_ok {A} {B} {C} {D} {E} {a} {b} {c} {d} {f} x y z w v e =
    let front = both_ok a (b ⊗ (c ⊗ (d ⊗ f))) (x, (y, (z, (w, v)))) e in
    let rest = four_ok y z w v front.1 in
    (front.0, rest.0, rest.1, rest.2, rest.3)

-- what a value was made of
pub record Made {A B : Type 0} (f : A → B) (a : Result A Refusal) (y : B) : Type 0 where
  pub of : A
  pub read : a ≡ Ok of
  pub same : f of ≡ y

pub made_ok : {A B : Type 0} (f : A → B) (a : Result A Refusal) (y : B) → read_as f a ≡ Ok y → Made f a y
made_ok f (Ok x) y e = record { of = x; read = refl; same = cc }
made_ok f (Err r) y e = absurd cc

there_ok : {A : Type 0} (refusal : Refusal) (read : Field → Result A Refusal) (found : Option Field) (x : A) → read_or refusal read found ≡ Ok x → (field : Field) × (read field ≡ Ok x)
there_ok refusal read None x e = absurd cc
there_ok refusal read (Some field) x e = (field, e)

perhaps_ok : {A : Type 0} (P : A → Type 0) (read : Field → Result A Refusal) → ((field : Field) (x : A) → read field ≡ Ok x → P x) → (found : Option Field) (y : Option A) → read_if read found ≡ Ok y → IfSome y P
perhaps_ok P read so None None e = tt
perhaps_ok P read so None (Some x) e = absurd cc
perhaps_ok P read so (Some field) y e = let m = made_ok Some (read field) y e in subst (λ z. IfSome z P) m.same (so field m.of m.read)

inside_ok : {A : Type 0} (read : Forest → Result A Refusal) (field : Field) (x : A) → within read field ≡ Ok x → read field.inner ≡ Ok x
inside_ok {A} read field x e = by field.tag.constructed e
  where
    by : (b : Bool) → cond b (read field.inner) (Err (BadValue field.tag.number)) ≡ Ok x → read field.inner ≡ Ok x
    by true e = e
    by false e = absurd cc

-- each of a list
front_ok : {A : Type 0} (P : A → Type 0) (first : Result A Refusal) (rest : Result (List A) Refusal) (items : List A) → ((x : A) → first ≡ Ok x → P x) → ((xs : List A) → rest ≡ Ok xs → AllByRecursion P xs) → in_front first rest ≡ Ok items → AllByRecursion P items
front_ok {A} P first rest items p q e =
    let m = made_ok (λ (p : A × List A). p.0 ∷ p.1) (first ⊗ rest) items e in
    let b = both_ok first rest m.of m.read in
    subst (λ (l : List A). AllByRecursion P l) m.same (p m.of.0 b.0, q m.of.1 b.1)

wanted_ok : {A : Type 0} (P : A → Type 0) (b : Bool) (first : Result A Refusal) (rest : Result (List A) Refusal) (items : List A) → ((x : A) → first ≡ Ok x → P x) → ((xs : List A) → rest ≡ Ok xs → AllByRecursion P xs) → cond b (in_front first rest) rest ≡ Ok items → AllByRecursion P items
wanted_ok P true first rest items p q e = front_ok P first rest items p q e
wanted_ok P false first rest items p q e = q items e

every : {A : Type 0} (P : A → Type 0) (wanted : Field → Bool) (read : Field → Result A Refusal) → ((field : Field) (x : A) → read field ≡ Ok x → P x) → (x : Forest) (items : List A) → each wanted read x ≡ Ok items → AllByRecursion P items
every P wanted read so none [] e = tt
every P wanted read so none (y ∷ items) e = absurd cc
every P wanted read so (leaf tag contents others) items e =
    wanted_ok P (wanted (field_of tag contents none)) (read (field_of tag contents none)) (each wanted read others) items (so (field_of tag contents none)) (λ xs h. every P wanted read so others xs h) e
every P wanted read so (branch tag contents inner others) items e =
    wanted_ok P (wanted (field_of tag contents inner)) (read (field_of tag contents inner)) (each wanted read others) items (so (field_of tag contents inner)) (λ xs h. every P wanted read so others xs h) e

-- ---- and of what is asked

good_both : {A B : Type 0} (P : A → Type 0) (Q : B → Type 0) (a : Asked A) (b : Asked B) → IfGood a P → IfGood b Q → IfGood (both_asked a b) (λ (p : A × B). P p.0 × Q p.1)
good_both P Q (Good x) (Good y) p q = (p, q)
good_both P Q (Good x) (Bad d) p q = tt
good_both P Q (Bad d) b p q = tt

good_made : {A B : Type 0} (P : A → Type 0) (Q : B → Type 0) (f : A → B) (a : Asked A) → ((x : A) → P x → Q (f x)) → IfGood a P → IfGood (asked_as f a) Q
good_made P Q f (Good x) so p = so x p
good_made P Q f (Bad d) so p = tt

good_all : {A : Type 0} (P : A → Type 0) (items : List (Asked A)) → AllByRecursion (λ (item : Asked A). IfGood item P) items → IfGood (all_asked items) (AllByRecursion P)
good_all P [] all = tt
good_all {A} P (first ∷ rest) all =
    good_made (λ (p : A × List A). P p.0 × AllByRecursion P p.1) (AllByRecursion P) (λ (p : A × List A). p.0 ∷ p.1) (both_asked first (all_asked rest)) (λ p h. (h.0, h.1)) (good_both P (AllByRecursion P) first (all_asked rest) all.0 (good_all P rest all.1))

-- ---- numbers

range_ok : (z : ℤ) (n : ℕ) → in_range z ≡ Some n → IsNumber n
range_ok (pos m) n e = by (nat_lt m (2 ^ 31)) refl e
  where
    by : (b : Bool) → nat_lt m (2 ^ 31) ≡ b → cond b (Some m) None ≡ Some n → IsNumber n
    by true lt e = let same : m ≡ n = cc in let less = ltb-true m (2 ^ 31) lt in omega (arith, same, less)
    by false lt e = absurd cc
range_ok (negsuc m) n e = absurd cc

number_ok : (contents : List ℕ) (n : ℕ) → number_in contents ≡ Some n → IsNumber n
number_ok contents n e = by (integer_in contents) e
  where
    by : (found : Option ℤ) → option_and_then in_range found ≡ Some n → IsNumber n
    by None e = absurd cc
    by (Some z) e = range_ok z n e

value_or_ok : {A : Type 0} (refusal : Refusal) (found : Option A) (x : A) → value_or refusal found ≡ Ok x → found ≡ Some x
value_or_ok refusal None x e = absurd cc
value_or_ok refusal (Some y) x e = cc

field_ok : (field : Field) (n : ℕ) → number_of field ≡ Ok n → IsNumber n
field_ok field n e = by field.tag.constructed e
  where
    by : (b : Bool) → cond b (Err (BadValue field.tag.number)) (value_or (BadValue field.tag.number) (number_in field.contents)) ≡ Ok n → IsNumber n
    by true e = absurd cc
    by false e = number_ok field.contents n (value_or_ok (BadValue field.tag.number) (number_in field.contents) n e)

some_number : (number : ℕ) (choice : List Tag) (x : Forest) (n : ℕ) → required_of number choice number_of x ≡ Ok n → IsNumber n
some_number number choice x n e = let found = there_ok (Missing number) number_of (first_of choice x) n e in field_ok found.0 n found.1

maybe_number : (choice : List Tag) (x : Forest) (n : Option ℕ) → optional_of choice number_of x ≡ Ok n → IfSome n IsNumber
maybe_number choice x n e = perhaps_ok IsNumber number_of field_ok (first_of choice x) n e

-- ---- attributes

value_ok : (field : Field) (asked : Asked ℕ) → value_of field ≡ Ok asked → IfGood asked IsNumber
value_ok field asked e = by (field.tag.number == 224) e
  where
    by : (b : Bool) → cond b (Ok (Bad (other_form 224))) (read_as Good (number_of field)) ≡ Ok asked → IfGood asked IsNumber
    by true e = let same : Bad (other_form 224) ≡ asked = cc in subst (λ (r : Asked ℕ). IfGood r IsNumber) same tt
    by false e = let m = made_ok Good (number_of field) asked e in subst (λ (r : Asked ℕ). IfGood r IsNumber) m.same (field_ok field m.of m.read)

with_kind : (set : Option (List ℕ)) (kind : ℕ) → IsNumber kind → (value : Asked ℕ) → IfGood value IsNumber → IfGood (asked_as (λ (v : ℕ). record { set = set; kind = kind; value = v }) value) HasNumbers
with_kind set kind small (Good v) p = (small, p)
with_kind set kind small (Bad d) p = tt

attr_ok : (x : Forest) (asked : Asked Attr) → attr_in x ≡ Ok asked → IfGood asked HasNumbers
unfolding attr_in
attr_ok x asked e =
    let m = made_ok _ _ asked e in
    let (set, (kind, value)) = m.of in
    let rows = three_ok set kind value m.read in
    let found = there_ok _ value_of (first_of value_choice x) value rows.2 in
    subst (λ (r : Asked Attr). IfGood r HasNumbers) m.same
    (with_kind set kind (some_number 120 (context 120 ∷ []) x kind rows.1) value (value_ok found.0 value found.1))

attr_field_ok : (field : Field) (asked : Asked Attr) → attr_of field ≡ Ok asked → IfGood asked HasNumbers
attr_field_ok field asked e = by (has_tag field.tag (universal 16)) e
  where
    by : (b : Bool) → cond b (within attr_in field) (Err (BadValue field.tag.number)) ≡ Ok asked → IfGood asked HasNumbers
    by true e = attr_ok field.inner asked (inside_ok attr_in field asked e)
    by false e = absurd cc

abbrev AttrsNumbers : Asked (List Attr) → Type 0
AttrsNumbers asked = IfGood asked (AllByRecursion HasNumbers)

attrs_ok : (x : Forest) (asked : Asked (List Attr)) → attrs_in x ≡ Ok asked → AttrsNumbers asked
unfolding attrs_in
attrs_ok x asked e =
    let m = made_ok all_asked (each (λ field. true) attr_of x) asked e in
    subst AttrsNumbers m.same (good_all HasNumbers m.of (every (λ (item : Asked Attr). IfGood item HasNumbers) (λ field. true) attr_of attr_field_ok x m.of m.read))

-- attributes, and a term of which nothing is said
abbrev OperandNumbers : List Attr × Term → Type 0
OperandNumbers p = AllByRecursion HasNumbers p.0

operand_good : (first : Bool) (attrs : Asked (List Attr)) (term : Asked Term) → AttrsNumbers attrs → IfGood (operand_asked first (attrs, term)) OperandNumbers
operand_good true (Good a) (Good t) h = h
operand_good true (Good a) (Bad d) h = tt
operand_good true (Bad d) t h = tt
operand_good false (Good a) (Good t) h = h
operand_good false (Good a) (Bad d) h = tt
operand_good false (Bad d) (Good t) h = tt
operand_good false (Bad d) (Bad e) h = tt

abbrev PlusTermNumbers : Asked (List Attr × Term) → Type 0
PlusTermNumbers asked = IfGood asked OperandNumbers

plus_term_ok : (x : Forest) (asked : Asked (List Attr × Term)) → attrs_and_term_in x ≡ Ok asked → PlusTermNumbers asked
unfolding attrs_and_term_in
plus_term_ok x asked e =
    let m = made_ok (operand_asked (is_attributes_first (first_of (context 44 ∷ term_choice) x))) _ asked e in
    let b = both_ok _ _ m.of m.read in
    let found = there_ok _ attrs_of (first_of (context 44 ∷ []) x) m.of.0 b.0 in
    subst PlusTermNumbers m.same
    (operand_good (is_attributes_first (first_of (context 44 ∷ term_choice) x)) m.of.0 m.of.1 (attrs_ok found.0.inner m.of.0 (inside_ok attrs_in found.0 m.of.0 found.1)))

-- ---- queries

abbrev TreeNumbers : Asked Tree → Type 0
TreeNumbers asked = IfGood asked HasNumbersOnly

leaf_good : (asked : Asked (List Attr × Term)) → PlusTermNumbers asked → TreeNumbers (asked_as (λ (p : List Attr × Term). leaf_node p.0 p.1) asked)
leaf_good (Good p) h = h
leaf_good (Bad d) h = tt

operand_ok : (field : Field) (asked : Asked Tree) → operand_of field ≡ Ok asked → TreeNumbers asked
operand_ok field asked e = by (field.tag.number == 102) (field.tag.number == 31) e
  where
    by : (b c : Bool) → cond b (read_as (asked_as (λ (p : List Attr × Term). leaf_node p.0 p.1)) (within attrs_and_term_in field)) (cond c (read_as (λ (name : List ℕ). Good (operand name)) (octets_of field)) (Ok (Bad (other_form field.tag.number)))) ≡ Ok asked → TreeNumbers asked
    by true c e =
        let m = made_ok (asked_as (λ (p : List Attr × Term). leaf_node p.0 p.1)) (within attrs_and_term_in field) asked e in
        subst TreeNumbers m.same (leaf_good m.of (plus_term_ok field.inner m.of (inside_ok attrs_and_term_in field m.of m.read)))
    by false true e = let m = made_ok (λ (name : List ℕ). Good (operand name)) (octets_of field) asked e in subst TreeNumbers m.same tt
    by false false e = let same : Bad (other_form field.tag.number) ≡ asked = cc in subst TreeNumbers same tt

operand_in_ok : (x : Forest) (asked : Asked Tree) → operand_in x ≡ Ok asked → TreeNumbers asked
unfolding operand_in
operand_in_ok x asked e = let found = there_ok _ operand_of (first_of operand_choice x) asked e in operand_ok found.0 asked found.1

join_good : (l r : Asked Tree) (o : Asked Operator) → TreeNumbers l → TreeNumbers r → TreeNumbers (join_asked (l, (r, o)))
join_good (Bad d) r o p q = tt
join_good (Good l) (Bad d) o p q = tt
join_good (Good l) (Good r) (Bad d) p q = tt
join_good (Good l) (Good r) (Good And) p q = (p, q)
join_good (Good l) (Good r) (Good Or) p q = (p, q)
join_good (Good l) (Good r) (Good AndNot) p q = (p, q)

joined_ok : (left right : Result (Asked Tree) Refusal) (operator : Result (Asked Operator) Refusal) (asked : Asked Tree) → ((l : Asked Tree) → left ≡ Ok l → TreeNumbers l) → ((r : Asked Tree) → right ≡ Ok r → TreeNumbers r) → joined_of left right operator ≡ Ok asked → TreeNumbers asked
joined_ok left right operator asked p q e =
    let m = made_ok join_asked (left ⊗ (right ⊗ operator)) asked e in
    let (l, (r, o)) = m.of in
    let rows = three_ok l r o m.read in
    subst TreeNumbers m.same (join_good l r o (p l rows.0) (q r rows.1))

with_ok : (tag : Tag) (alone two : Result (Asked Tree) Refusal) (asked : Asked Tree) → (alone ≡ Ok asked → TreeNumbers asked) → (two ≡ Ok asked → TreeNumbers asked) → structure_with tag alone two ≡ Ok asked → TreeNumbers asked
with_ok tag alone two asked p q e = by (has_tag tag (context 0) || has_tag tag (context 1)) tag.constructed (tag.number == 0) e
  where
    by : (a b c : Bool) → cond a (cond b (cond c alone two) (Err (BadValue tag.number))) (Err (BadValue tag.number)) ≡ Ok asked → TreeNumbers asked
    by true true true e = p e
    by true true false e = q e
    by true false c e = absurd cc
    by false b c e = absurd cc

structure_ok : (place : ℕ) (x : Forest) (asked : Asked Tree) → structure_at place x ≡ Ok asked → TreeNumbers asked
unfolding structure_at
structure_ok zero none asked e = absurd cc
structure_ok (suc place) none asked e = absurd cc
structure_ok (suc place) (leaf t c os) asked e = structure_ok place os asked e
structure_ok (suc place) (branch t c is os) asked e = structure_ok place os asked e
structure_ok zero (leaf t c os) asked e =
    with_ok t (operand_in none) (joined_of (Err (Missing 0)) (Err (Missing 0)) (operator_in none)) asked (operand_in_ok none asked)
    (joined_ok (Err (Missing 0)) (Err (Missing 0)) (operator_in none) asked (λ l h. absurd cc) (λ r h. absurd cc)) e
structure_ok zero (branch t c is os) asked e =
    with_ok t (operand_in is) (joined_of (structure_at 0 is) (structure_at 1 is) (operator_in is)) asked (operand_in_ok is asked)
    (joined_ok (structure_at 0 is) (structure_at 1 is) (operator_in is) asked (structure_ok 0 is) (structure_ok 1 is)) e

abbrev QueryNumbers : Asked RpnQuery → Type 0
QueryNumbers asked = IfGood asked QueryHasNumbers

query_good : (set : List ℕ) (root : Asked Tree) → TreeNumbers root → QueryNumbers (asked_as (λ (tree : Tree). record { attr_set = set; root = tree }) root)
query_good set (Good tree) h = h
query_good set (Bad d) h = tt

rpn_query_ok : (x : Forest) (asked : Asked RpnQuery) → rpn_query_in x ≡ Ok asked → QueryNumbers asked
unfolding rpn_query_in
rpn_query_ok x asked e =
    let m = made_ok _ _ asked e in
    let b = both_ok _ _ m.of m.read in
    subst QueryNumbers m.same (query_good m.of.0 m.of.1 (structure_ok 1 x m.of.1 b.1))

query_field_ok : (field : Field) (asked : Asked RpnQuery) → query_of field ≡ Ok asked → QueryNumbers asked
query_field_ok field asked e = by ((field.tag.number == 1) || (field.tag.number == 101)) e
  where
    by : (b : Bool) → cond b (within rpn_query_in field) (Ok (Bad (other_query_type field.tag.number))) ≡ Ok asked → QueryNumbers asked
    by true e = rpn_query_ok field.inner asked (inside_ok rpn_query_in field asked e)
    by false e = let same : Bad (other_query_type field.tag.number) ≡ asked = cc in subst QueryNumbers same tt

query_ok : (x : Forest) (asked : Asked RpnQuery) → query_in x ≡ Ok asked → QueryNumbers asked
unfolding query_in
query_ok x asked e = let found = there_ok (Missing 1) query_of (first_context x) asked e in query_field_ok found.0 asked found.1

-- ---- requests

init_ok : (x : Forest) (init : Init) → init_in x ≡ Ok init → IsNumber init.preferred × IsNumber init.exceptional
unfolding init_in shared_in
init_ok x init e =
    let m = made_ok _ _ init e in
    let parts = both_ok _ _ m.of m.read in
    let (ref_id, (versions, (options, (preferred, exceptional)))) = m.of.0 in
    let rows = five_ok ref_id versions options preferred exceptional parts.0 in
    subst (λ (i : Init). IsNumber i.preferred × IsNumber i.exceptional) m.same
    (some_number 5 (context 5 ∷ []) x preferred rows.3, some_number 6 (context 6 ∷ []) x exceptional rows.4)

named_good : (names : Option (Asked (List ℕ))) (query : Asked RpnQuery) → QueryNumbers query → QueryNumbers (with_names names query)
named_good names (Bad d) h = tt
named_good None (Good q) h = h
named_good (Some (Good name)) (Good q) h = h
named_good (Some (Bad d)) (Good q) h = tt

bounds_ok : (x : Forest) (ref_id : Option (List ℕ)) (small large medium : ℕ) → bounds_in x ≡ Ok (ref_id, (small, (large, medium))) → IsNumber small × IsNumber large × IsNumber medium
unfolding bounds_in
bounds_ok x ref_id small large medium e =
    let rows = four_ok ref_id small large medium e in
    (some_number 13 (context 13 ∷ []) x small rows.1, some_number 14 (context 14 ∷ []) x large rows.2, some_number 15 (context 15 ∷ []) x medium rows.3)

wanted_query_ok : (x : Forest) (small medium : Option (Asked (List ℕ))) (syntax : Option (List ℕ)) (query : Asked RpnQuery) → wanted_in x ≡ Ok (small, (medium, (syntax, query))) → QueryNumbers query
unfolding wanted_in
wanted_query_ok x small medium syntax query e =
    let rows = four_ok small medium syntax query e in
    let found = there_ok _ (within query_in) (first_of (context 21 ∷ []) x) query rows.3 in
    query_ok found.0.inner query (inside_ok query_in found.0 query found.1)

search_ok : (x : Forest) (search : Search) → search_in x ≡ Ok search → SearchHasNumbers search
unfolding search_in
search_ok x search e =
    let m = made_ok as_search (bounds_in x ⊗ (named_in x ⊗ wanted_in x)) search e in
    let (bounds, (named, wanted)) = m.of in
    let parts = three_ok bounds named wanted m.read in
    let (ref_id, (small, (large, medium))) = bounds in
    let (small_names, (medium_names, (syntax, query))) = wanted in
    let numbers = bounds_ok x ref_id small large medium parts.0 in
    let served = wanted_query_ok x small_names medium_names syntax query parts.2 in
    subst SearchHasNumbers m.same (record {
      small = numbers.0;
      large = numbers.1;
      medium = numbers.2;
      query = named_good medium_names (with_names small_names query) (named_good small_names query served);
    })

place_ok : (x : Forest) (ref_id : Option (List ℕ)) (set_name : List ℕ) (start : ℤ) (number : ℕ) → place_in x ≡ Ok (ref_id, (set_name, (start, number))) → IsNumber number
unfolding place_in
place_ok x ref_id set_name start number e =
    some_number 29 (context 29 ∷ []) x number (four_ok ref_id set_name start number e).3

present_ok : (x : Forest) (present : Present) → present_in x ≡ Ok present → IsNumber present.number
unfolding present_in
present_ok x present e =
    let m = made_ok _ (place_in x ⊗ form_in x) present e in
    let parts = both_ok (place_in x) (form_in x) m.of m.read in
    let ((ref_id, (set_name, (start, number))), form) = m.of in
    subst (λ (p : Present). IsNumber p.number) m.same (place_ok x ref_id set_name start number parts.0)

abbrev AskNumbers : Asked ScanAsk → Type 0
AskNumbers asked = IfGood asked ScanHasNumbers

ask_good : (set : Option (List ℕ)) (step : Option ℕ) (number : ℕ) (position : Option ℕ) (start : Asked (List Attr × Term)) → IfSome step IsNumber → IsNumber number → IfSome position IsNumber → PlusTermNumbers start → AskNumbers (asked_as (ask_with set step number position) start)
ask_good set step number position (Good (attrs, term)) a b c d = record { attrs = d; step = a; number = b; position = c }
ask_good set step number position (Bad diag) a b c d = tt

ask_ok : (x : Forest) (asked : Asked ScanAsk) → ask_in x ≡ Ok asked → AskNumbers asked
unfolding ask_in start_in
ask_ok x asked e =
    let m = made_ok as_ask _ asked e in
    let (set, (start, (step, (number, position)))) = m.of in
    let rows = five_ok set start step number position m.read in
    let found = there_ok _ (within attrs_and_term_in) (first_of (context 102 ∷ []) x) start rows.1 in
    subst AskNumbers m.same
    (ask_good set step number position start
    (maybe_number (context 5 ∷ []) x step rows.2)
    (some_number 6 (context 6 ∷ []) x number rows.3)
    (maybe_number (context 7 ∷ []) x position rows.4)
    (plus_term_ok found.0.inner start (inside_ok attrs_and_term_in found.0 start found.1)))

scan_ok : (x : Forest) (scan : Scan) → scan_in x ≡ Ok scan → AskNumbers scan.ask
unfolding scan_in
scan_ok x scan e =
    let m = made_ok _ _ scan e in
    let (ref_id, (dbs, ask)) = m.of in
    let rows = three_ok ref_id dbs ask m.read in
    subst (λ (s : Scan). AskNumbers s.ask) m.same (ask_ok x ask rows.2)

close_ok : (x : Forest) (close : Close) → close_in x ≡ Ok close → IsNumber close.reason
unfolding close_in
close_ok x close e =
    let m = made_ok _ _ close e in
    let (ref_id, (reason, info)) = m.of in
    let rows = three_ok ref_id reason info m.read in
    subst (λ (c : Close). IsNumber c.reason) m.same (some_number 211 (context 211 ∷ []) x reason rows.1)

-- ---- so a request that is read has its numbers

request_ok : (field : Field) (request : Request) → request_of field ≡ Ok request → HasNumbersInRange request
unfolding request_of
request_ok field asked e = by (field.tag.class == 2) (field.tag.number == 20) (field.tag.number == 22) (field.tag.number == 24) (field.tag.number == 35) (field.tag.number == 48) e
  where
    by : (a b c d f g : Bool) → cond a (cond b (read_as request.Init (init_in field.inner)) (cond c (read_as request.Search (search_in field.inner)) (cond d (read_as request.Present (present_in field.inner)) (cond f (read_as request.Scan (scan_in field.inner)) (cond g (read_as request.Close (close_in field.inner)) (Err (UnknownUnit field.tag.number))))))) (Err (UnknownUnit field.tag.number)) ≡ Ok asked → HasNumbersInRange asked
    by false b c d f g e = absurd cc
    by true true c d f g e = let m = made_ok request.Init (init_in field.inner) asked e in subst HasNumbersInRange m.same (init_ok field.inner m.of m.read)
    by true false true d f g e = let m = made_ok request.Search (search_in field.inner) asked e in subst HasNumbersInRange m.same (search_ok field.inner m.of m.read)
    by true false false true f g e = let m = made_ok request.Present (present_in field.inner) asked e in subst HasNumbersInRange m.same (present_ok field.inner m.of m.read)
    by true false false false true g e = let m = made_ok request.Scan (scan_in field.inner) asked e in subst HasNumbersInRange m.same (scan_ok field.inner m.of m.read)
    by true false false false false true e = let m = made_ok request.Close (close_in field.inner) asked e in subst HasNumbersInRange m.same (close_ok field.inner m.of m.read)
    by true false false false false false e = absurd cc

pub tree_numbers : (tree : Forest) (request : Request) → request_in tree ≡ Ok request → HasNumbersInRange request
tree_numbers tree asked e = let found = there_ok (UnknownUnit 0) request_of (first_element tree) asked e in request_ok found.0 asked found.1

pub field_numbers : (field : Field) (request : Request) → Ok request ≡ request_of field → HasNumbersInRange request
field_numbers field asked e = request_ok field asked (sym e)
