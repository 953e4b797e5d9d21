-- Elements in one form are read as they are.
use Rattle.std.proofs.Common.{◌≡◌, ◌∙◌, ℕ, pos, negsuc, ◌==◌, ◌-◌, ◌||◌, ltb, leb, Bool, true, false, cond, List, [], ◌∷◌, length, map, Option, Some, None, Result, Ok, Err, arith, refl, sym, ap, subst}
use Rattle.std.specs.Int.Digits.{number_from_digits}
use Rattle.std.specs.Prelude.{option_map, option_and_then}
use Rattle.std.proofs.lemmas.Bool.{eqb-true, leb-true, le-leb}
use Rattle.z_types.specs.equality.Tests.{both_true}
use Rattle.z_ber.specs.declared.tag.Tag.{Tag}
use Rattle.z_ber.specs.Element.{Forest, none, leaf, branch}
use Rattle.unit_forms.specs.declared.refusal.Refusal.{Refusal}
use Rattle.unit_forms.specs.declared.refusal.Refusal.TheVariants.{Missing, BadValue, LeftOut}
use Rattle.unit_forms.specs.Reading.Answers.{read_or, read_if, read_as, value_or, each, in_front}
use Rattle.unit_forms.specs.Reading.Contents.{truth_in, signed, integer_in, in_range, bits_in, oid_in}
use Rattle.unit_forms.specs.Reading.Elements.{Field, field_of, is_constructed, is_one_of, has_tag, first_of, first_constructed, first_element, first_context}
use Rattle.unit_forms.specs.Reading.Rows.{octets_of, bits_of, truth_of, integer_of, number_of, oid_of, required_of, optional_of, within}
use Rattle.z_read.specs.OneForm.{Kind, is_repeated, shorter, fewest, one_truth, shown, kind_in, in_one_form}

-- ---- contents

-- an octet in front that repeats a sign changes nothing
repeated : (first second : ℕ) (rest : List ℕ) → is_repeated first second ≡ true → signed first (first ∷ second ∷ rest) ≡ signed second (second ∷ rest)
repeated first second rest e = by (ltb second 128) refl e
  where
    by : (b : Bool) → ltb second 128 ≡ b → cond b (first == 0) (first == 255) ≡ true → signed first (first ∷ second ∷ rest) ≡ signed second (second ∷ rest)
    by true small is =
        ap (λ n. signed n (n ∷ second ∷ rest)) (eqb-true first 0 is) ∙ sym (ap (λ b. cond b (pos (number_from_digits 256 (second ∷ rest))) (negsuc (number_from_digits 256 (map (λ octet. 255 - octet) (second ∷ rest))))) small)
    by false large is =
        ap (λ n. signed n (n ∷ second ∷ rest)) (eqb-true first 255 is) ∙ sym (ap (λ b. cond b (pos (number_from_digits 256 (second ∷ rest))) (negsuc (number_from_digits 256 (map (λ octet. 255 - octet) (second ∷ rest))))) large)

-- nor in an INTEGER of 8 octets at most
longer_same : (first second : ℕ) (rest : List ℕ) → leb (length rest) 7 ≡ true → leb (length (second ∷ rest)) 7 ≡ true → is_repeated first second ≡ true → integer_in (second ∷ rest) ≡ integer_in (first ∷ second ∷ rest)
unfolding integer_in
longer_same first second rest less few e =
    ap (λ b. cond b (Some (signed second (second ∷ rest))) None) less ∙ ap Some (sym (repeated first second rest e)) ∙ sym (ap (λ b. cond b (Some (signed first (first ∷ second ∷ rest))) None) few)

shorter_same : (first : ℕ) (rest : List ℕ) → leb (length rest) 7 ≡ true → integer_in (shorter first rest) ≡ integer_in (first ∷ rest)
shorter_same first [] few = refl
shorter_same first (second ∷ rest) few = by (is_repeated first second) refl (shorter_same second rest less)
  where
    less : leb (length rest) 7 ≡ true
    less = le-leb (length rest) 7 (omega (arith, leb-true (length (second ∷ rest)) 7 few))

    by : (b : Bool) → is_repeated first second ≡ b → integer_in (shorter second rest) ≡ integer_in (second ∷ rest) → integer_in (cond b (shorter second rest) (first ∷ second ∷ rest)) ≡ integer_in (first ∷ second ∷ rest)
    by true e same = same ∙ longer_same first second rest less few e
    by false e same = refl

pub integer_same : (contents : List ℕ) → integer_in (fewest contents) ≡ integer_in contents
integer_same [] = refl
integer_same (first ∷ rest) = by (leb (length rest) 7) refl
  where
    by : (b : Bool) → leb (length rest) 7 ≡ b → integer_in (cond b (shorter first rest) (first ∷ rest)) ≡ integer_in (first ∷ rest)
    by true few = shorter_same first rest few
    by false many = refl

pub truth_same : (contents : List ℕ) → truth_in (one_truth contents) ≡ truth_in contents
truth_same [] = refl
truth_same (octet ∷ []) = by (ltb 0 octet) refl
  where
    by : (b : Bool) → ltb 0 octet ≡ b → Some (ltb 0 (cond b 255 0)) ≡ Some (ltb 0 octet)
    by true e = ap Some (sym e)
    by false e = ap Some (sym e)
truth_same (octet ∷ second ∷ rest) = refl

-- ---- fields

-- a field in one form
abbrev pub formed : (ℕ → Kind) → Field → Field
formed kind field =
    field_of field.tag (shown (kind field.tag.number) field.tag.constructed field.contents) (in_one_form (kind_in field.tag.number) field.inner)

-- what is made of the first field of a choice is made of it in one form
pub first_formed : {B : Type 0} (kind : ℕ → Kind) (choice : List Tag) (g : Option Field → B) → ((f : Field) → is_one_of choice f.tag ≡ true → g (Some (formed kind f)) ≡ g (Some f)) → (x : Forest) → g (first_of choice (in_one_form kind x)) ≡ g (first_of choice x)
first_formed kind choice g same none = refl
first_formed kind choice g same (leaf t c os) = by (is_one_of choice t) refl (first_formed kind choice g same os)
  where
    by : (b : Bool) → is_one_of choice t ≡ b → g (first_of choice (in_one_form kind os)) ≡ g (first_of choice os) → g (cond b (Some (formed kind (field_of t c none))) (first_of choice (in_one_form kind os))) ≡ g (cond b (Some (field_of t c none)) (first_of choice os))
    by true e behind = same (field_of t c none) e
    by false e behind = behind
first_formed kind choice g same (branch t c is os) = by (is_one_of choice t) refl (first_formed kind choice g same os)
  where
    by : (b : Bool) → is_one_of choice t ≡ b → g (first_of choice (in_one_form kind os)) ≡ g (first_of choice os) → g (cond b (Some (formed kind (field_of t c is))) (first_of choice (in_one_form kind os))) ≡ g (cond b (Some (field_of t c is)) (first_of choice os))
    by true e behind = same (field_of t c is) e
    by false e behind = behind

-- so is what is made of the first constructed element with a tag
pub constructed_formed : {B : Type 0} (kind : ℕ → Kind) (wanted : Tag) (g : Option Field → B) → ((f : Field) → is_constructed wanted f.tag ≡ true → g (Some (formed kind f)) ≡ g (Some f)) → (x : Forest) → g (first_constructed wanted (in_one_form kind x)) ≡ g (first_constructed wanted x)
constructed_formed kind wanted g same none = refl
constructed_formed kind wanted g same (leaf t c os) = by (is_constructed wanted t) refl (constructed_formed kind wanted g same os)
  where
    by : (b : Bool) → is_constructed wanted t ≡ b → g (first_constructed wanted (in_one_form kind os)) ≡ g (first_constructed wanted os) → g (cond b (Some (formed kind (field_of t c none))) (first_constructed wanted (in_one_form kind os))) ≡ g (cond b (Some (field_of t c none)) (first_constructed wanted os))
    by true e behind = same (field_of t c none) e
    by false e behind = behind
constructed_formed kind wanted g same (branch t c is os) = by (is_constructed wanted t) refl (constructed_formed kind wanted g same os)
  where
    by : (b : Bool) → is_constructed wanted t ≡ b → g (first_constructed wanted (in_one_form kind os)) ≡ g (first_constructed wanted os) → g (cond b (Some (formed kind (field_of t c is))) (first_constructed wanted (in_one_form kind os))) ≡ g (cond b (Some (field_of t c is)) (first_constructed wanted os))
    by true e behind = same (field_of t c is) e
    by false e behind = behind

pub first_element-formed : (kind : ℕ → Kind) (x : Forest) → first_element (in_one_form kind x) ≡ option_map (formed kind) (first_element x)
first_element-formed kind none = refl
first_element-formed kind (leaf t c os) = refl
first_element-formed kind (branch t c is os) = refl

pub first_context-formed : (kind : ℕ → Kind) (x : Forest) → first_context (in_one_form kind x) ≡ option_map (formed kind) (first_context x)
first_context-formed kind none = refl
first_context-formed kind (leaf t c os) = by (t.class == 2) (first_context-formed kind os)
  where
    by : (b : Bool) → first_context (in_one_form kind os) ≡ option_map (formed kind) (first_context os) → cond b (Some (formed kind (field_of t c none))) (first_context (in_one_form kind os)) ≡ option_map (formed kind) (cond b (Some (field_of t c none)) (first_context os))
    by true behind = refl
    by false behind = behind
first_context-formed kind (branch t c is os) = by (t.class == 2) (first_context-formed kind os)
  where
    by : (b : Bool) → first_context (in_one_form kind os) ≡ option_map (formed kind) (first_context os) → cond b (Some (formed kind (field_of t c is))) (first_context (in_one_form kind os)) ≡ option_map (formed kind) (cond b (Some (field_of t c is)) (first_context os))
    by true behind = refl
    by false behind = behind

-- elements of some tags that are each read alike
pub each_formed : {A : Type 0} (kind : ℕ → Kind) (wanted : Tag → Bool) (read : Field → Result A Refusal) → ((f : Field) → wanted f.tag ≡ true → read (formed kind f) ≡ read f) → (x : Forest) → each (λ field. wanted field.tag) read (in_one_form kind x) ≡ each (λ field. wanted field.tag) read x
each_formed kind wanted read same none = refl
each_formed kind wanted read same (leaf t c os) = by (wanted t) refl (each_formed kind wanted read same os)
  where
    by : (b : Bool) → wanted t ≡ b → each (λ field. wanted field.tag) read (in_one_form kind os) ≡ each (λ field. wanted field.tag) read os
        → cond b (in_front (read (formed kind (field_of t c none))) (each (λ field. wanted field.tag) read (in_one_form kind os))) (each (λ field. wanted field.tag) read (in_one_form kind os))
        ≡ cond b (in_front (read (field_of t c none)) (each (λ field. wanted field.tag) read os)) (each (λ field. wanted field.tag) read os)
    by true e behind = ap (λ first. in_front first (each (λ field. wanted field.tag) read (in_one_form kind os))) (same (field_of t c none) e) ∙ ap (in_front (read (field_of t c none))) behind
    by false e behind = behind
each_formed kind wanted read same (branch t c is os) = by (wanted t) refl (each_formed kind wanted read same os)
  where
    by : (b : Bool) → wanted t ≡ b → each (λ field. wanted field.tag) read (in_one_form kind os) ≡ each (λ field. wanted field.tag) read os
        → cond b (in_front (read (formed kind (field_of t c is))) (each (λ field. wanted field.tag) read (in_one_form kind os))) (each (λ field. wanted field.tag) read (in_one_form kind os))
        ≡ cond b (in_front (read (field_of t c is)) (each (λ field. wanted field.tag) read os)) (each (λ field. wanted field.tag) read os)
    by true e behind = ap (λ first. in_front first (each (λ field. wanted field.tag) read (in_one_form kind os))) (same (field_of t c is) e) ∙ ap (in_front (read (field_of t c is))) behind
    by false e behind = behind

-- the number of the one tag of a choice
pub same_number : (wanted tag : Tag) → has_tag tag wanted ≡ true → tag.number ≡ wanted.number
same_number wanted tag e = eqb-true tag.number wanted.number (both_true (tag.class == wanted.class) (tag.number == wanted.number) e).1

pub its_number : (wanted tag : Tag) → is_one_of (wanted ∷ []) tag ≡ true → tag.number ≡ wanted.number
its_number wanted tag e = same_number wanted tag (alone (has_tag tag wanted) e)
  where
    alone : (b : Bool) → (b || false) ≡ true → b ≡ true
    alone true e = refl
    alone false e = absurd cc

pub its_constructed_number : (wanted tag : Tag) → is_constructed wanted tag ≡ true → tag.number ≡ wanted.number
its_constructed_number wanted tag e = same_number wanted tag (both_true tag.constructed (has_tag tag wanted) e).1

-- ---- kinds of fields

-- contents of a primitive field
primitive_formed : {B : Type 0} (refused : B) (g : List ℕ → B) (kind : Kind) (constructed : Bool) (contents : List ℕ) → g (shown kind false contents) ≡ g contents → cond constructed refused (g (shown kind constructed contents)) ≡ cond constructed refused (g contents)
primitive_formed refused g kind true contents same = refl
primitive_formed refused g kind false contents same = same

-- a kind keeps octets as they are
abbrev pub KeepsOctets : Kind → Type 0
KeepsOctets kind = (contents : List ℕ) → shown kind false contents ≡ contents

-- a kind keeps the value of an INTEGER
abbrev pub KeepsInteger : Kind → Type 0
KeepsInteger kind = (contents : List ℕ) → integer_in (shown kind false contents) ≡ integer_in contents

-- a kind keeps the value of a BOOLEAN
abbrev pub KeepsTruth : Kind → Type 0
KeepsTruth kind = (contents : List ℕ) → truth_in (shown kind false contents) ≡ truth_in contents

pub octets_formed : (kind : ℕ → Kind) (f : Field) → KeepsOctets (kind f.tag.number) → octets_of (formed kind f) ≡ octets_of f
octets_formed kind f keeps = primitive_formed (Err (LeftOut f.tag.number)) Ok (kind f.tag.number) f.tag.constructed f.contents (ap Ok (keeps f.contents))

pub bits_formed : (kind : ℕ → Kind) (f : Field) → KeepsOctets (kind f.tag.number) → bits_of (formed kind f) ≡ bits_of f
bits_formed kind f keeps =
    primitive_formed (Err (LeftOut f.tag.number)) (λ c. value_or (BadValue f.tag.number) (bits_in c)) (kind f.tag.number) f.tag.constructed f.contents (ap (λ c. value_or (BadValue f.tag.number) (bits_in c)) (keeps f.contents))

pub oid_formed : (kind : ℕ → Kind) (f : Field) → KeepsOctets (kind f.tag.number) → oid_of (formed kind f) ≡ oid_of f
oid_formed kind f keeps =
    primitive_formed (Err (BadValue f.tag.number)) (λ c. value_or (BadValue f.tag.number) (oid_in c)) (kind f.tag.number) f.tag.constructed f.contents (ap (λ c. value_or (BadValue f.tag.number) (oid_in c)) (keeps f.contents))

pub truth_formed : (kind : ℕ → Kind) (f : Field) → KeepsTruth (kind f.tag.number) → truth_of (formed kind f) ≡ truth_of f
truth_formed kind f keeps =
    primitive_formed (Err (BadValue f.tag.number)) (λ c. value_or (BadValue f.tag.number) (truth_in c)) (kind f.tag.number) f.tag.constructed f.contents (ap (value_or (BadValue f.tag.number)) (keeps f.contents))

pub integer_formed : (kind : ℕ → Kind) (f : Field) → KeepsInteger (kind f.tag.number) → integer_of (formed kind f) ≡ integer_of f
integer_formed kind f keeps =
    primitive_formed (Err (BadValue f.tag.number)) (λ c. value_or (BadValue f.tag.number) (integer_in c)) (kind f.tag.number) f.tag.constructed f.contents (ap (value_or (BadValue f.tag.number)) (keeps f.contents))

pub number_formed : (kind : ℕ → Kind) (f : Field) → KeepsInteger (kind f.tag.number) → number_of (formed kind f) ≡ number_of f
number_formed kind f keeps =
    primitive_formed (Err (BadValue f.tag.number)) (λ c. value_or (BadValue f.tag.number) (option_and_then in_range (integer_in c))) (kind f.tag.number) f.tag.constructed f.contents (ap (λ v. value_or (BadValue f.tag.number) (option_and_then in_range v)) (keeps f.contents))

pub within_formed : {A : Type 0} (kind : ℕ → Kind) (read : Forest → Result A Refusal) (f : Field) → ((m : ℕ) (x : Forest) → read (in_one_form (kind_in m) x) ≡ read x) → within read (formed kind f) ≡ within read f
within_formed kind read f same = ap (λ v. cond f.tag.constructed v (Err (BadValue f.tag.number))) (same f.tag.number f.inner)

-- ---- rows

pub required_formed : {A : Type 0} (kind : ℕ → Kind) (n : ℕ) (choice : List Tag) (read : Field → Result A Refusal) → ((f : Field) → is_one_of choice f.tag ≡ true → read (formed kind f) ≡ read f) → (x : Forest) → required_of n choice read (in_one_form kind x) ≡ required_of n choice read x
required_formed kind n choice read same x = first_formed kind choice (read_or (Missing n) read) same x

pub optional_formed : {A : Type 0} (kind : ℕ → Kind) (choice : List Tag) (read : Field → Result A Refusal) → ((f : Field) → is_one_of choice f.tag ≡ true → read (formed kind f) ≡ read f) → (x : Forest) → optional_of choice read (in_one_form kind x) ≡ optional_of choice read x
optional_formed kind choice read same x = first_formed kind choice (read_if read) (λ f e. ap (read_as Some) (same f e)) x

-- what holds of the one tag of a choice holds of a field that has it
pub of_tag : (P : ℕ → Type 0) (wanted : Tag) → P wanted.number → (f : Field) → is_one_of (wanted ∷ []) f.tag ≡ true → P f.tag.number
of_tag P wanted holds f e = subst P (sym (its_number wanted f.tag e)) holds
