-- Fields that are looked up among elements one after another.
use Rattle.std.proofs.Common.{◌≡◌, ◌∙◌, ℕ, Bool, true, false, cond, List, Option, Some, None, ap, refl}
use Rattle.z_ber.specs.declared.tag.Tag.{Tag}
use Rattle.z_ber.specs.Element.{Forest, none, leaf, branch}
use Rattle.unit_forms.specs.Reading.Elements.{Field, field_of, is_constructed, is_one_of, first_of, first_constructed}
use Rattle.unit_forms.specs.Fields.{primitive}
use Rattle.z_laws.proofs.Forests.{joined}

-- the first of two where there is one
abbrev pub or_else : Option Field → Option Field → Option Field
or_else None other = other
or_else (Some field) other = Some field

pub or_else-none : (o : Option Field) → or_else o None ≡ o
or_else-none None = refl
or_else-none (Some field) = refl

pick : (b : Bool) (x : Field) (o p : Option Field) → cond b (Some x) (or_else o p) ≡ or_else (cond b (Some x) o) p
pick true x o p = refl
pick false x o p = refl

pub first_of-joined : (choice : List Tag) (f g : Forest) → first_of choice (joined f g) ≡ or_else (first_of choice f) (first_of choice g)
first_of-joined choice none g = refl
first_of-joined choice (leaf tag contents others) g =
    ap (cond (is_one_of choice tag) (Some (field_of tag contents none))) (first_of-joined choice others g) ∙ pick (is_one_of choice tag) _ _ _
first_of-joined choice (branch tag contents inner others) g =
    ap (cond (is_one_of choice tag) (Some (field_of tag contents inner))) (first_of-joined choice others g) ∙ pick (is_one_of choice tag) _ _ _

abbrev nothing : Option Field
nothing = None

either_none : (b : Bool) → nothing ≡ cond b nothing nothing
either_none true = refl
either_none false = refl

-- a primitive field that may be absent
abbrev pub maybe_leaf : {A : Type 0} → Tag → (A → List ℕ) → Option A → Forest
maybe_leaf tag contents None = none
maybe_leaf tag contents (Some x) = leaf tag (contents x) none

-- a constructed field that may be absent
abbrev pub maybe_branch : {A : Type 0} → Tag → (A → List ℕ) → (A → Forest) → Option A → Forest
maybe_branch tag contents inner None = none
maybe_branch tag contents inner (Some x) = branch tag (contents x) (inner x) none

-- the field, where it is there
abbrev pub maybe_field : {A : Type 0} → (A → Field) → Option A → Option Field
maybe_field field None = None
maybe_field field (Some x) = Some (field x)

pub first_of-maybe_leaf : {A : Type 0} (choice : List Tag) (tag : Tag) (contents : A → List ℕ) (o : Option A) → first_of choice (maybe_leaf tag contents o) ≡ cond (is_one_of choice tag) (maybe_field (λ x. field_of tag (contents x) none) o) None
first_of-maybe_leaf choice tag contents None = either_none (is_one_of choice tag)
first_of-maybe_leaf choice tag contents (Some x) = refl

pub first_of-maybe_branch : {A : Type 0} (choice : List Tag) (tag : Tag) (contents : A → List ℕ) (inner : A → Forest) (o : Option A) → first_of choice (maybe_branch tag contents inner o) ≡ cond (is_one_of choice tag) (maybe_field (λ x. field_of tag (contents x) (inner x)) o) None
first_of-maybe_branch choice tag contents inner None = either_none (is_one_of choice tag)
first_of-maybe_branch choice tag contents inner (Some x) = refl

-- the same of constructed elements alone
pub first_constructed-joined : (wanted : Tag) (f g : Forest) → first_constructed wanted (joined f g) ≡ or_else (first_constructed wanted f) (first_constructed wanted g)
first_constructed-joined wanted none g = refl
first_constructed-joined wanted (leaf tag contents others) g =
    ap (cond (is_constructed wanted tag) (Some (field_of tag contents none))) (first_constructed-joined wanted others g) ∙ pick (is_constructed wanted tag) _ _ _
first_constructed-joined wanted (branch tag contents inner others) g =
    ap (cond (is_constructed wanted tag) (Some (field_of tag contents inner))) (first_constructed-joined wanted others g) ∙ pick (is_constructed wanted tag) _ _ _

pub first_constructed-maybe_leaf : {A : Type 0} (wanted : Tag) (number : ℕ) (contents : A → List ℕ) (o : Option A) → first_constructed wanted (maybe_leaf (primitive number) contents o) ≡ None
first_constructed-maybe_leaf wanted number contents None = refl
first_constructed-maybe_leaf wanted number contents (Some x) = refl
