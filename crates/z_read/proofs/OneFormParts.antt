-- The parts of units are read in one form as they are.
use Rattle.std.proofs.Common.{◌≡◌, ◌∙◌, ℕ, zero, suc, ◌==◌, ◌&&◌, ◌||◌, Bool, true, false, cond, List, [], ◌∷◌, Option, Some, None, Result, Ok, Err, refl, sym, ap, subst}
use Rattle.std.specs.Prelude.{option_map}
use Rattle.std.proofs.lemmas.Bool.{eqb-true}
use Rattle.z_types.specs.Tree.{leaf as leaf_node, operand}
use Rattle.z_types.specs.declared.requests.Asked.{Asked}
use Rattle.z_types.specs.declared.requests.Asked.TheVariants.{Good, Bad}
use Rattle.z_types.specs.declared.query.Term.TheVariants.{General, Number, Words}
use Rattle.z_types.specs.declared.records.Body.TheVariants as body
use Rattle.z_types.specs.declared.records.Form.TheVariants.{Single}
use Rattle.z_types.specs.declared.records.Item.TheVariants.{Surrogate}
use Rattle.z_ber.specs.declared.tag.Tag.{Tag}
use Rattle.z_ber.specs.Element.{Forest, none, leaf, branch}
use Rattle.unit_forms.specs.declared.refusal.Refusal.{Refusal}
use Rattle.unit_forms.specs.declared.refusal.Refusal.TheVariants.{Missing, BadValue}
use Rattle.unit_forms.specs.Reading.Answers.{read_or, read_as, value_or, asked_as, all_asked}
use Rattle.unit_forms.specs.Reading.Attributes.{value_of, value_choice, attr_in, attr_of, attrs_in, attrs_of, term_choice, term_of, is_attributes_first, attrs_and_term_in}
use Rattle.unit_forms.specs.Reading.Diagnostics.{diag_in, diag_of, other_query_type, other_form, complex_composition}
use Rattle.unit_forms.specs.Reading.ElementNames.{name_of, names_in, names_of, composition_of, composition_or_none, without_ranges, composition_in}
use Rattle.unit_forms.specs.Reading.Elements.{Field, is_one_of, has_tag, first_of, first_element, first_context}
use Rattle.unit_forms.specs.Reading.Queries.{operand_choice, operand_of, operand_in, operator_choice, operator_of, operator_in, structure_at, set_of, rpn_query_in, query_of, query_in}
use Rattle.unit_forms.specs.Reading.Records.{is_single, encoding_choice, encoding_of, external_in, item_of, item_in, named_in, named_of, records_in, diags_in, body_of, body_or_none, body_in}
use Rattle.unit_forms.specs.Reading.Responses.{entry_term_of, entry_in, entry_of, entries_in, listed_in, listing_in}
use Rattle.unit_forms.specs.Reading.Rows.{octets_of, integer_of, number_of, oid_of, context, universal, required_of, within}
use Rattle.unit_forms.specs.Reading.SearchRequest.{databases_in, databases_of}
use Rattle.z_read.specs.OneForm.{Kind, whole, octets, integer, inner_kind, kind_in, in_one_form}
use Rattle.z_read.proofs.OneFormLemmas.{formed, first_formed, first_element-formed, first_context-formed, each_formed, its_number, same_number, KeepsOctets, KeepsInteger, integer_same, octets_formed, oid_formed, integer_formed, number_formed, within_formed, required_formed, optional_formed, of_tag}

-- ---- what fields within fields hold

keeps_octets : (b : Bool) → KeepsOctets (cond b whole octets)
keeps_octets true c = refl
keeps_octets false c = refl

keeps_integer : (b : Bool) → KeepsInteger (cond b whole integer)
keeps_integer true c = refl
keeps_integer false c = integer_same c

-- a field of octets within another, of a number of its own
string : (m n : ℕ) → inner_kind n ≡ octets → KeepsOctets (kind_in m n)
string m n e = subst (λ k. KeepsOctets (cond (m == 8) whole k)) (sym e) (keeps_octets (m == 8))

-- a number within another field
numeric : (m n : ℕ) → inner_kind n ≡ integer → KeepsInteger (kind_in m n)
numeric m n e = subst (λ k. KeepsInteger (cond (m == 8) whole k)) (sym e) (keeps_integer (m == 8))

octets_at : (m : ℕ) (t : Tag) → inner_kind t.number ≡ octets → (f : Field) → is_one_of (t ∷ []) f.tag ≡ true → octets_of (formed (kind_in m) f) ≡ octets_of f
octets_at m t e f is = octets_formed (kind_in m) f (of_tag (λ n. KeepsOctets (kind_in m n)) t (string m t.number e) f is)

oid_at : (m : ℕ) (t : Tag) → inner_kind t.number ≡ octets → (f : Field) → is_one_of (t ∷ []) f.tag ≡ true → oid_of (formed (kind_in m) f) ≡ oid_of f
oid_at m t e f is = oid_formed (kind_in m) f (of_tag (λ n. KeepsOctets (kind_in m n)) t (string m t.number e) f is)

number_at : (m : ℕ) (t : Tag) → inner_kind t.number ≡ integer → (f : Field) → is_one_of (t ∷ []) f.tag ≡ true → number_of (formed (kind_in m) f) ≡ number_of f
number_at m t e f is = number_formed (kind_in m) f (of_tag (λ n. KeepsInteger (kind_in m n)) t (numeric m t.number e) f is)

-- of a field whose number is tested, what is read where it is this one, and otherwise
tested : {B : Type 0} (n k : ℕ) (p q r s : B) → (n ≡ k → p ≡ r) → q ≡ s → cond (n == k) p q ≡ cond (n == k) r s
tested n k p q r s same other = by (n == k) refl
  where
    by : (b : Bool) → (n == k) ≡ b → cond b p q ≡ cond b r s
    by true e = same (eqb-true n k e)
    by false e = other

-- octets, and numbers, of a field whose number is known
octets_of_number : (m k : ℕ) → inner_kind k ≡ octets → (f : Field) → f.tag.number ≡ k → octets_of (formed (kind_in m) f) ≡ octets_of f
octets_of_number m k e f is = octets_formed (kind_in m) f (subst (λ n. KeepsOctets (kind_in m n)) (sym is) (string m k e))

integer_of_number : (m k : ℕ) → inner_kind k ≡ integer → (f : Field) → f.tag.number ≡ k → integer_of (formed (kind_in m) f) ≡ integer_of f
integer_of_number m k e f is = integer_formed (kind_in m) f (subst (λ n. KeepsInteger (kind_in m n)) (sym is) (numeric m k e))

-- ---- names

name_formed : (m : ℕ) (f : Field) → name_of (formed (kind_in m) f) ≡ name_of f
name_formed m f = tested f.tag.number 0 _ _ _ _ (λ e. ap (read_as Good) (octets_of_number m 0 refl f e)) refl

names_in_formed : (m : ℕ) (x : Forest) → names_in (in_one_form (kind_in m) x) ≡ names_in x
unfolding names_in
names_in_formed m x = required_formed (kind_in m) 0 (context 0 ∷ context 1 ∷ []) name_of (λ f e. name_formed m f) x

pub names_formed : (kind : ℕ → Kind) (f : Field) → names_of (formed kind f) ≡ names_of f
names_formed kind f = within_formed kind names_in f names_in_formed

databases_in_formed : (m : ℕ) (x : Forest) → databases_in (in_one_form (kind_in m) x) ≡ databases_in x
unfolding databases_in
databases_in_formed m x = each_formed (kind_in m) (λ t. has_tag t (context 105)) octets_of (λ f e. octets_of_number m 105 refl f (same_number (context 105) f.tag e)) x

pub databases_formed : (kind : ℕ → Kind) (f : Field) → databases_of (formed kind f) ≡ databases_of f
databases_formed kind f = within_formed kind databases_in f databases_in_formed

composition_of_formed : (kind : ℕ → Kind) (f : Field) → composition_of (formed kind f) ≡ composition_of f
composition_of_formed kind f = ap (λ names. cond (f.tag.number == 19) (read_as (asked_as Some) names) (Ok (Bad complex_composition))) (names_formed kind f)

-- ---- attributes and terms

value_formed : (m : ℕ) (f : Field) → is_one_of value_choice f.tag ≡ true → value_of (formed (kind_in m) f) ≡ value_of f
value_formed m f is = by (f.tag.number == 224) refl
  where
    first_choice : (a c n : Bool) → n ≡ false → (a || ((c && n) || false)) ≡ true → (a || false) ≡ true
    first_choice true c n e h = refl
    first_choice false true true e h = absurd cc
    first_choice false true false e h = absurd cc
    first_choice false false n e h = absurd cc

    by : (b : Bool) → (f.tag.number == 224) ≡ b → cond b (Ok (Bad (other_form 224))) (read_as Good (number_of (formed (kind_in m) f))) ≡ cond b (Ok (Bad (other_form 224))) (read_as Good (number_of f))
    by true e = refl
    by false e = ap (read_as Good) (number_at m (context 121) refl f (first_choice (has_tag f.tag (context 121)) (f.tag.class == 2) (f.tag.number == 224) e is))

attr_in_formed : (m : ℕ) (x : Forest) → attr_in (in_one_form (kind_in m) x) ≡ attr_in x
unfolding attr_in
attr_in_formed m x =
    rw (optional_formed (kind_in m) (context 1 ∷ []) oid_of (oid_at m (context 1) refl) x, required_formed (kind_in m) 120 (context 120 ∷ []) number_of (number_at m (context 120) refl) x, required_formed (kind_in m) 121 value_choice value_of (value_formed m) x) refl

attr_formed : (m : ℕ) (f : Field) → attr_of (formed (kind_in m) f) ≡ attr_of f
attr_formed m f = ap (λ v. cond (has_tag f.tag (universal 16)) v (Err (BadValue f.tag.number))) (within_formed (kind_in m) attr_in f attr_in_formed)

attrs_in_formed : (m : ℕ) (x : Forest) → attrs_in (in_one_form (kind_in m) x) ≡ attrs_in x
unfolding attrs_in
attrs_in_formed m x = ap (read_as all_asked) (each_formed (kind_in m) (λ t. true) attr_of (λ f e. attr_formed m f) x)

attrs_formed : (m : ℕ) (f : Field) → attrs_of (formed (kind_in m) f) ≡ attrs_of f
attrs_formed m f = within_formed (kind_in m) attrs_in f attrs_in_formed

term_formed : (m : ℕ) (f : Field) → term_of (formed (kind_in m) f) ≡ term_of f
term_formed m f =
    tested f.tag.number 45 _ _ _ _ (λ e. ap (read_as (λ text. Good (General text))) (octets_of_number m 45 refl f e))
    (tested f.tag.number 215 _ _ _ _ (λ e. ap (read_as (λ number. Good (Number number))) (integer_of_number m 215 refl f e))
    (tested f.tag.number 216 _ _ _ _ (λ e. ap (read_as (λ text. Good (Words text))) (octets_of_number m 216 refl f e)) refl))

entry_term_formed : (m : ℕ) (f : Field) → entry_term_of (formed (kind_in m) f) ≡ entry_term_of f
entry_term_formed m f =
    tested f.tag.number 45 _ _ _ _ (λ e. ap (read_as General) (octets_of_number m 45 refl f e))
    (tested f.tag.number 215 _ _ _ _ (λ e. ap (read_as Number) (integer_of_number m 215 refl f e))
    (tested f.tag.number 216 _ _ _ _ (λ e. ap (read_as Words) (octets_of_number m 216 refl f e)) refl))

pub attrs_and_term_formed : (m : ℕ) (x : Forest) → attrs_and_term_in (in_one_form (kind_in m) x) ≡ attrs_and_term_in x
unfolding attrs_and_term_in
attrs_and_term_formed m x =
    rw (first_formed (kind_in m) (context 44 ∷ term_choice) is_attributes_first (λ f e. refl) x, required_formed (kind_in m) 44 (context 44 ∷ []) attrs_of (λ f e. attrs_formed m f) x, required_formed (kind_in m) 45 term_choice term_of (λ f e. term_formed m f) x) refl

-- ---- queries

operand_formed : (m : ℕ) (f : Field) → operand_of (formed (kind_in m) f) ≡ operand_of f
operand_formed m f =
    tested f.tag.number 102 _ _ _ _ (λ e. ap (read_as (asked_as (λ p. leaf_node p.0 p.1))) (within_formed (kind_in m) attrs_and_term_in f attrs_and_term_formed))
    (tested f.tag.number 31 _ _ _ _ (λ e. ap (read_as (λ name. Good (operand name))) (octets_of_number m 31 refl f e)) refl)

operand_in_formed : (m : ℕ) (x : Forest) → operand_in (in_one_form (kind_in m) x) ≡ operand_in x
unfolding operand_in
operand_in_formed m x = required_formed (kind_in m) 102 operand_choice operand_of (λ f e. operand_formed m f) x

operators_formed : (m : ℕ) (x : Forest) → required_of 0 operator_choice operator_of (in_one_form (kind_in m) x) ≡ required_of 0 operator_choice operator_of x
operators_formed m x = required_formed (kind_in m) 0 operator_choice operator_of (λ f e. refl) x

operator_in_formed : (m : ℕ) (x : Forest) → operator_in (in_one_form (kind_in m) x) ≡ operator_in x
unfolding operator_in
operator_in_formed m x =
    required_formed (kind_in m) 46 (context 46 ∷ []) (within (required_of 0 operator_choice operator_of)) (λ f e. within_formed (kind_in m) (required_of 0 operator_choice operator_of) f operators_formed) x

structure_formed : (m place : ℕ) (x : Forest) → structure_at place (in_one_form (kind_in m) x) ≡ structure_at place x
unfolding structure_at
structure_formed m zero none = refl
structure_formed m (suc place) none = refl
structure_formed m (suc place) (leaf t c os) = structure_formed m place os
structure_formed m (suc place) (branch t c is os) = structure_formed m place os
structure_formed m zero (leaf t c os) = refl
structure_formed m zero (branch t c is os) =
    rw (operand_in_formed t.number is, structure_formed t.number 0 is, structure_formed t.number 1 is, operator_in_formed t.number is) refl

set_formed : (m : ℕ) (found : Option Field) → set_of (option_map (formed (kind_in m)) found) ≡ set_of found
set_formed m None = refl
set_formed m (Some f) = by (has_tag f.tag (universal 6)) refl
  where
    by : (b : Bool) → has_tag f.tag (universal 6) ≡ b → cond b (oid_of (formed (kind_in m) f)) (Err (BadValue f.tag.number)) ≡ cond b (oid_of f) (Err (BadValue f.tag.number))
    by true e = oid_formed (kind_in m) f (subst (λ n. KeepsOctets (kind_in m n)) (sym (same_number (universal 6) f.tag e)) (string m 6 refl))
    by false e = refl

rpn_query_formed : (m : ℕ) (x : Forest) → rpn_query_in (in_one_form (kind_in m) x) ≡ rpn_query_in x
unfolding rpn_query_in
rpn_query_formed m x = rw (first_element-formed (kind_in m) x, set_formed m (first_element x), structure_formed m 1 x) refl

query_of_formed : (m : ℕ) (f : Field) → query_of (formed (kind_in m) f) ≡ query_of f
query_of_formed m f =
    ap (λ v. cond ((f.tag.number == 1) || (f.tag.number == 101)) v (Ok (Bad (other_query_type f.tag.number)))) (within_formed (kind_in m) rpn_query_in f rpn_query_formed)

queries_formed : (m : ℕ) (found : Option Field) → read_or (Missing 1) query_of (option_map (formed (kind_in m)) found) ≡ read_or (Missing 1) query_of found
queries_formed m None = refl
queries_formed m (Some f) = query_of_formed m f

pub query_formed : (m : ℕ) (x : Forest) → query_in (in_one_form (kind_in m) x) ≡ query_in x
unfolding query_in
query_formed m x = ap (read_or (Missing 1) query_of) (first_context-formed (kind_in m) x) ∙ queries_formed m (first_context x)

-- ---- diagnostics and records

addinfo_formed : (m : ℕ) (f : Field) → is_one_of (universal 26 ∷ universal 27 ∷ []) f.tag ≡ true → octets_of (formed (kind_in m) f) ≡ octets_of f
addinfo_formed m f is = by (has_tag f.tag (universal 26)) refl is
  where
    by : (b : Bool) → has_tag f.tag (universal 26) ≡ b → (b || is_one_of (universal 27 ∷ []) f.tag) ≡ true → octets_of (formed (kind_in m) f) ≡ octets_of f
    by true e h = octets_of_number m 26 refl f (same_number (universal 26) f.tag e)
    by false e h = octets_at m (universal 27) refl f h

diag_in_formed : (m : ℕ) (x : Forest) → diag_in (in_one_form (kind_in m) x) ≡ diag_in x
unfolding diag_in
diag_in_formed m x =
    rw (required_formed (kind_in m) 6 (universal 6 ∷ []) oid_of (oid_at m (universal 6) refl) x, required_formed (kind_in m) 2 (universal 2 ∷ []) number_of (number_at m (universal 2) refl) x, required_formed (kind_in m) 27 (universal 26 ∷ universal 27 ∷ []) octets_of (addinfo_formed m) x) refl

diag_formed : (kind : ℕ → Kind) (f : Field) → diag_of (formed kind f) ≡ diag_of f
diag_formed kind f = within_formed kind diag_in f diag_in_formed

pub diags_in_formed : (m : ℕ) (x : Forest) → diags_in (in_one_form (kind_in m) x) ≡ diags_in x
unfolding diags_in
diags_in_formed m x = each_formed (kind_in m) (λ t. has_tag t (universal 16)) diag_of (λ f e. diag_formed (kind_in m) f) x

-- one element, whatever it is
one_whole : (kind : ℕ → Kind) (x : Forest) (contents : List ℕ) → is_single (in_one_form kind x) contents ≡ is_single x contents
one_whole kind none c = refl
one_whole kind (leaf t d none) c = refl
one_whole kind (leaf t d (leaf u e os)) c = refl
one_whole kind (leaf t d (branch u e is os)) c = refl
one_whole kind (branch t d js none) c = refl
one_whole kind (branch t d js (leaf u e os)) c = refl
one_whole kind (branch t d js (branch u e is os)) c = refl

-- the encoding in an EXTERNAL is kept as it is
encoding_formed : (f : Field) → encoding_of (formed (kind_in 8) f) ≡ encoding_of f
encoding_formed f =
    tested f.tag.number 0 _ _ _ _ (λ e. ap (λ v. read_as (λ text. (Single, text)) (cond f.tag.constructed v (Err (BadValue f.tag.number)))) (ap (value_or (BadValue 0)) (one_whole (kind_in f.tag.number) f.inner f.contents))) refl

external_formed : (x : Forest) → external_in (in_one_form (kind_in 8) x) ≡ external_in x
unfolding external_in
external_formed x =
    rw (required_formed (kind_in 8) 6 (universal 6 ∷ []) oid_of (oid_at 8 (universal 6) refl) x, required_formed (kind_in 8) 0 encoding_choice encoding_of (λ f e. encoding_formed f) x) refl

external_at : (m : ℕ) (f : Field) → is_one_of (universal 8 ∷ []) f.tag ≡ true → within external_in (formed (kind_in m) f) ≡ within external_in f
external_at m f is =
    ap (λ v. cond f.tag.constructed v (Err (BadValue f.tag.number))) (ap (λ n. external_in (in_one_form (kind_in n) f.inner)) (its_number (universal 8) f.tag is) ∙ external_formed f.inner)

retrieved_formed : (m : ℕ) (x : Forest) → required_of 8 (universal 8 ∷ []) (within external_in) (in_one_form (kind_in m) x) ≡ required_of 8 (universal 8 ∷ []) (within external_in) x
retrieved_formed m x = required_formed (kind_in m) 8 (universal 8 ∷ []) (within external_in) (external_at m) x

surrogate_formed : (m : ℕ) (x : Forest) → required_of 16 (universal 16 ∷ []) diag_of (in_one_form (kind_in m) x) ≡ required_of 16 (universal 16 ∷ []) diag_of x
surrogate_formed m x = required_formed (kind_in m) 16 (universal 16 ∷ []) diag_of (λ f e. diag_formed (kind_in m) f) x

item_formed : (m : ℕ) (f : Field) → item_of (formed (kind_in m) f) ≡ item_of f
item_formed m f =
    tested f.tag.number 1 _ _ _ _ (λ e. within_formed (kind_in m) (required_of 8 (universal 8 ∷ []) (within external_in)) f retrieved_formed)
    (ap (read_as Surrogate) (within_formed (kind_in m) (required_of 16 (universal 16 ∷ []) diag_of) f surrogate_formed))

item_in_formed : (m : ℕ) (x : Forest) → item_in (in_one_form (kind_in m) x) ≡ item_in x
unfolding item_in
item_in_formed m x = required_formed (kind_in m) 1 (context 1 ∷ context 2 ∷ []) item_of (λ f e. item_formed m f) x

named_in_formed : (m : ℕ) (x : Forest) → named_in (in_one_form (kind_in m) x) ≡ named_in x
unfolding named_in
named_in_formed m x =
    rw (optional_formed (kind_in m) (context 0 ∷ []) octets_of (octets_at m (context 0) refl) x, required_formed (kind_in m) 1 (context 1 ∷ []) (within item_in) (λ f e. within_formed (kind_in m) item_in f item_in_formed) x) refl

records_in_formed : (m : ℕ) (x : Forest) → records_in (in_one_form (kind_in m) x) ≡ records_in x
unfolding records_in
records_in_formed m x =
    each_formed (kind_in m) (λ t. has_tag t (universal 16)) named_of (λ f e. within_formed (kind_in m) named_in f named_in_formed) x

body_formed : (kind : ℕ → Kind) (f : Field) → body_of (formed kind f) ≡ body_of f
body_formed kind f =
    tested f.tag.number 28 _ _ _ _ (λ e. ap (read_as body.Records) (within_formed kind records_in f records_in_formed))
    (tested f.tag.number 130 _ _ _ _ (λ e. ap (read_as body.Diag) (diag_formed kind f)) (ap (read_as body.Diags) (within_formed kind diags_in f diags_in_formed)))

pub body_in_formed : (kind : ℕ → Kind) (x : Forest) → body_in (in_one_form kind x) ≡ body_in x
unfolding body_in
body_in_formed kind x = first_formed kind (context 28 ∷ context 130 ∷ context 205 ∷ []) body_or_none (λ f e. body_formed kind f) x

-- ---- entries of a Scan

entry_in_formed : (m : ℕ) (x : Forest) → entry_in (in_one_form (kind_in m) x) ≡ entry_in x
unfolding entry_in
entry_in_formed m x =
    rw (required_formed (kind_in m) 45 term_choice entry_term_of (λ f e. entry_term_formed m f) x, optional_formed (kind_in m) (context 2 ∷ []) number_of (number_at m (context 2) refl) x) refl

entries_in_formed : (m : ℕ) (x : Forest) → entries_in (in_one_form (kind_in m) x) ≡ entries_in x
unfolding entries_in
entries_in_formed m x =
    each_formed (kind_in m) (λ t. has_tag t (context 1)) entry_of (λ f e. within_formed (kind_in m) entry_in f entry_in_formed) x

listed_in_formed : (m : ℕ) (x : Forest) → listed_in (in_one_form (kind_in m) x) ≡ listed_in x
unfolding listed_in
listed_in_formed m x =
    rw (optional_formed (kind_in m) (context 1 ∷ []) (within entries_in) (λ f e. within_formed (kind_in m) entries_in f entries_in_formed) x, optional_formed (kind_in m) (context 2 ∷ []) (within diags_in) (λ f e. within_formed (kind_in m) diags_in f diags_in_formed) x) refl

pub listing_formed : (kind : ℕ → Kind) (x : Forest) → listing_in (in_one_form kind x) ≡ listing_in x
unfolding listing_in
listing_formed kind x =
    rw (optional_formed kind (context 7 ∷ []) (within listed_in) (λ f e. within_formed kind listed_in f listed_in_formed) x) refl

-- ---- the composition of records

ranges_formed : (kind : ℕ → Kind) (x : Forest) (asked : Result (Asked (Option (List ℕ))) Refusal) → read_as (without_ranges (first_of (context 212 ∷ []) (in_one_form kind x))) asked ≡ read_as (without_ranges (first_of (context 212 ∷ []) x)) asked
ranges_formed kind x (Ok asked) = ap Ok (first_formed kind (context 212 ∷ []) (λ found. without_ranges found asked) (λ f e. refl) x)
ranges_formed kind x (Err refusal) = refl

pub composition_formed : (kind : ℕ → Kind) (x : Forest) → composition_in (in_one_form kind x) ≡ composition_in x
unfolding composition_in
composition_formed kind x =
    ranges_formed kind x (composition_or_none (first_of (context 19 ∷ context 209 ∷ []) (in_one_form kind x)))
    ∙ ap (read_as (without_ranges (first_of (context 212 ∷ []) x))) (first_formed kind (context 19 ∷ context 209 ∷ []) composition_or_none (λ f e. composition_of_formed kind f) x)
