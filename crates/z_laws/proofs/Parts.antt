-- Fields as they are written and as they are read again, one kind after another.
use Rattle.std.proofs.Common.{◌≡◌, ℕ, ◌^◌, ◌<◌, Bool, true, false, ℤ, pos, w64, List, [], ◌∷◌, ◌++◌, map, Option, Some, None, Result, Ok, ap, lit<, refl}
use Rattle.std.specs.Prelude.{FitsSigned, IfSome}
use Rattle.std.specs.List.{flat_map, AllByRecursion}
use Rattle.z_types.specs.Numbers.{IsNumber}
use Rattle.z_types.specs.Oid.{is_oid}
use Rattle.z_ber.specs.declared.tag.Tag.{Tag}
use Rattle.z_ber.specs.Element.{Forest, none, leaf, branch}
use Rattle.z_ber.specs.Written.{IsTag, element, int_octets, bool_octets, bits_octets, oid_octets}
use Rattle.unit_forms.specs.declared.refusal.Refusal.{Refusal}
use Rattle.unit_forms.specs.Fields.{primitive, constructed, optional}
use Rattle.unit_forms.specs.Reading.Elements.{Field, field_of}
use Rattle.unit_forms.specs.Reading.Answers.{read_if, read_as, each}
use Rattle.unit_forms.specs.Reading.Rows.{octets_of, number_of, integer_of, truth_of, bits_of, oid_of}
use Rattle.z_laws.proofs.Beginning.{Spells, spells-nothing, spells-both, spells-leaf, spells-branch}
use Rattle.z_laws.proofs.Forests.{joined}
use Rattle.z_laws.proofs.Lookup.{maybe_leaf, maybe_branch, maybe_field}
use Rattle.z_laws.proofs.Values.{integer_in-again, number_in-again, truth_in-again, bits_in-again, oid_in-again}

-- ---- written

infixl 20 ◌⊕◌
pub ◌⊕◌ : {a b : List ℕ} {f g : Forest} → Spells a f → Spells b g → Spells (a ++ b) (joined f g)
◌⊕◌ {a} {b} {f} {g} p q = spells-both a b f g p q

-- a primitive field
pub spells-primitive : (number : ℕ) (contents : List ℕ) → number < 2 ^ 31 → Spells (element (primitive number) contents) (leaf (primitive number) contents none)
spells-primitive number contents lt = spells-leaf (primitive number) contents (lit< tt, lt) refl

-- a constructed field
pub spells-constructed : (number : ℕ) (contents : List ℕ) (inner : Forest) → number < 2 ^ 31 → Spells contents inner → Spells (element (constructed number) contents) (branch (constructed number) contents inner none)
spells-constructed number contents inner lt p = spells-branch (constructed number) contents inner (lit< tt, lt) refl p

pub spells-maybe_leaf : {A : Type 0} (tag : Tag) (contents : A → List ℕ) (o : Option A) → IsTag tag → tag.constructed ≡ false → Spells (optional (λ x. element tag (contents x)) o) (maybe_leaf tag contents o)
spells-maybe_leaf tag contents None valid form = spells-nothing
spells-maybe_leaf tag contents (Some x) valid form = spells-leaf tag (contents x) valid form

pub spells-maybe : {A : Type 0} (number : ℕ) (contents : A → List ℕ) (o : Option A) → number < 2 ^ 31 → Spells (optional (λ x. element (primitive number) (contents x)) o) (maybe_leaf (primitive number) contents o)
spells-maybe number contents o lt = spells-maybe_leaf (primitive number) contents o (lit< tt, lt) refl

pub spells-maybe_branch : {A : Type 0} (number : ℕ) (contents : A → List ℕ) (inner : A → Forest) (o : Option A) → number < 2 ^ 31 → ((x : A) → Spells (contents x) (inner x)) → Spells (optional (λ x. element (constructed number) (contents x)) o) (maybe_branch (constructed number) contents inner o)
spells-maybe_branch number contents inner None lt p = spells-nothing
spells-maybe_branch number contents inner (Some x) lt p = spells-constructed number (contents x) (inner x) lt (p x)

-- primitive elements one after another
abbrev pub leaves : {A : Type 0} → Tag → (A → List ℕ) → List A → Forest
leaves tag contents [] = none
leaves tag contents (x ∷ xs) = leaf tag (contents x) (leaves tag contents xs)

-- constructed elements one after another
abbrev pub branches : {A : Type 0} → Tag → (A → List ℕ) → (A → Forest) → List A → Forest
branches tag contents inner [] = none
branches tag contents inner (x ∷ xs) = branch tag (contents x) (inner x) (branches tag contents inner xs)

pub spells-leaves : {A : Type 0} (tag : Tag) (contents : A → List ℕ) (xs : List A) → IsTag tag → tag.constructed ≡ false → Spells (flat_map (λ x. element tag (contents x)) xs) (leaves tag contents xs)
spells-leaves tag contents [] valid form = spells-nothing
spells-leaves tag contents (x ∷ xs) valid form = spells-leaf tag (contents x) valid form ⊕ spells-leaves tag contents xs valid form

pub spells-branches : {A : Type 0} (tag : Tag) (contents : A → List ℕ) (inner : A → Forest) (xs : List A) → IsTag tag → tag.constructed ≡ true → ((x : A) → Spells (contents x) (inner x)) → Spells (flat_map (λ x. element tag (contents x)) xs) (branches tag contents inner xs)
spells-branches tag contents inner [] valid form p = spells-nothing
spells-branches tag contents inner (x ∷ xs) valid form p = spells-branch tag (contents x) (inner x) valid form (p x) ⊕ spells-branches tag contents inner xs valid form p

-- ---- read again

pub number_once : (number n : ℕ) → IsNumber n → number_of (field_of (primitive number) (int_octets (pos n)) none) ≡ Ok n
number_once number n small = rw (number_in-again n small) refl

pub integer_once : (number : ℕ) (z : ℤ) → FitsSigned w64 z → integer_of (field_of (primitive number) (int_octets z) none) ≡ Ok z
integer_once number z fits = rw (integer_in-again z fits) refl

pub truth_once : (number : ℕ) (b : Bool) → truth_of (field_of (primitive number) (bool_octets b) none) ≡ Ok b
truth_once number b = rw (truth_in-again b) refl

pub bits_once : (number n : ℕ) → n < 2 ^ 32 → bits_of (field_of (primitive number) (bits_octets n) none) ≡ Ok n
bits_once number n small = rw (bits_in-again n small) refl

pub oid_once : (tag : Tag) (arcs : List ℕ) → tag.constructed ≡ false → is_oid arcs ≡ true → oid_of (field_of tag (oid_octets arcs) none) ≡ Ok arcs
oid_once tag arcs form valid = rw (form, oid_in-again arcs valid) refl

-- what may be absent is read where it is there
pub read_if-again : {A : Type 0} (read : Field → Result A Refusal) (field : A → Field) (P : A → Type 0) (o : Option A) → IfSome o P → ((x : A) → P x → read (field x) ≡ Ok x) → read_if read (maybe_field field o) ≡ Ok o
read_if-again read field P None h p = refl
read_if-again read field P (Some x) h p = ap (read_as Some) (p x h)

pub octets_if : (number : ℕ) (o : Option (List ℕ)) → read_if octets_of (maybe_field (λ x. field_of (primitive number) x none) o) ≡ Ok o
octets_if number None = refl
octets_if number (Some x) = refl

pub number_if : (number : ℕ) (o : Option ℕ) → IfSome o IsNumber → read_if number_of (maybe_field (λ n. field_of (primitive number) (int_octets (pos n)) none) o) ≡ Ok o
number_if number o h = read_if-again number_of _ IsNumber o h (number_once number)

pub oid_if : (tag : Tag) (o : Option (List ℕ)) → tag.constructed ≡ false → IfSome o (λ arcs. is_oid arcs ≡ true) → read_if oid_of (maybe_field (λ arcs. field_of tag (oid_octets arcs) none) o) ≡ Ok o
oid_if tag o form h = read_if-again oid_of _ (λ arcs. is_oid arcs ≡ true) o h (λ arcs valid. oid_once tag arcs form valid)

-- each of them is read
pub each-leaves : {A B : Type 0} (wanted : Field → Bool) (read : Field → Result B Refusal) (tag : Tag) (contents : A → List ℕ) (made : A → B) (P : A → Type 0) (xs : List A) → ((x : A) → wanted (field_of tag (contents x) none) ≡ true) → ((x : A) → P x → read (field_of tag (contents x) none) ≡ Ok (made x)) → AllByRecursion P xs → each wanted read (leaves tag contents xs) ≡ Ok (map made xs)
each-leaves wanted read tag contents made P [] w r h = refl
each-leaves wanted read tag contents made P (x ∷ xs) w r h =
    let rest = each-leaves wanted read tag contents made P xs w r h.1 in
    rw (w x, r x h.0, rest) refl

pub each-branches : {A B : Type 0} (wanted : Field → Bool) (read : Field → Result B Refusal) (tag : Tag) (contents : A → List ℕ) (inner : A → Forest) (made : A → B) (P : A → Type 0) (xs : List A) → ((x : A) → wanted (field_of tag (contents x) (inner x)) ≡ true) → ((x : A) → P x → read (field_of tag (contents x) (inner x)) ≡ Ok (made x)) → AllByRecursion P xs → each wanted read (branches tag contents inner xs) ≡ Ok (map made xs)
each-branches wanted read tag contents inner made P [] w r h = refl
each-branches wanted read tag contents inner made P (x ∷ xs) w r h =
    let rest = each-branches wanted read tag contents inner made P xs w r h.1 in
    rw (w x, r x h.0, rest) refl

pub map-same : {A : Type 0} (xs : List A) → map (λ x. x) xs ≡ xs
map-same [] = refl
map-same (x ∷ xs) = ap (λ l. x ∷ l) (map-same xs)
