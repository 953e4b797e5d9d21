-- What reading answers: a value, or the first refusal of the lowest rank; and in a query, in
-- element names and in a composition the diagnostic of a form that is not served
-- (this project's own).
use Rattle.std.specs.Prelude.{ℕ, List, [], ◌∷◌, Bool, Option, Some, None, Result, Ok, Err, nat_le, if◌then◌else◌}
use Rattle.z_types.specs.declared.requests.Asked.{Asked}
use Rattle.z_types.specs.declared.requests.Asked.TheVariants.{Good, Bad}
use Rattle.z_ber.specs.Element.{Forest, none, leaf, branch}
use Rattle.unit_forms.specs.declared.refusal.Refusal.{Refusal}
use Rattle.unit_forms.specs.declared.refusal.Refusal.TheVariants.{UnknownUnit, Missing, BadValue, LeftOut}
use Rattle.unit_forms.specs.Reading.Elements.{Field, field_of}

-- a unit that is not known goes before missing fields, these before bad values, and these before
-- what is left out
abbrev pub rank : Refusal → ℕ
rank (UnknownUnit n) = 2
rank (Missing n) = 3
rank (BadValue n) = 4
rank (LeftOut n) = 5

-- of two refusals the one of the lower rank, and of one rank the first
abbrev pub first_refusal : Refusal → Refusal → Refusal
first_refusal r s = if nat_le (rank r) (rank s) then r else s

-- two fields, in the order of the table: both are read, or one is refused
infixr 30 ◌⊗◌
abbrev pub ◌⊗◌ : {A B : Type 0} → Result A Refusal → Result B Refusal → Result (A × B) Refusal
◌⊗◌ (Ok a) (Ok b) = Ok (a, b)
◌⊗◌ (Ok a) (Err s) = Err s
◌⊗◌ (Err r) (Ok b) = Err r
◌⊗◌ (Err r) (Err s) = Err (first_refusal r s)

-- what is made of a value that is read
abbrev pub read_as : {A B : Type 0} → (A → B) → Result A Refusal → Result B Refusal
read_as f (Ok a) = Ok (f a)
read_as f (Err r) = Err r

-- the value of contents that have one; else a refusal
abbrev pub value_or : {A : Type 0} → Refusal → Option A → Result A Refusal
value_or refusal (Some value) = Ok value
value_or refusal None = Err refusal

-- a field that is there is read; else it is a refusal
abbrev pub read_or : {A : Type 0} → Refusal → (Field → Result A Refusal) → Option Field
    → Result A Refusal
read_or refusal read None = Err refusal
read_or refusal read (Some field) = read field

-- a field that may be absent
abbrev pub read_if : {A : Type 0} → (Field → Result A Refusal) → Option Field
    → Result (Option A) Refusal
read_if read None = Ok None
read_if read (Some field) = read_as Some (read field)

-- one more in front of a list
abbrev pub in_front : {A : Type 0} → Result A Refusal → Result (List A) Refusal
    → Result (List A) Refusal
in_front first rest = read_as (λ p. p.0 ∷ p.1) (first ⊗ rest)

-- all elements that are wanted, each read, in their order
abbrev pub each : {A : Type 0} → (Field → Bool) → (Field → Result A Refusal) → Forest
    → Result (List A) Refusal
each wanted read none = Ok []
each wanted read (leaf tag contents others) =
    if wanted (field_of tag contents none)
    then in_front (read (field_of tag contents none)) (each wanted read others)
    else each wanted read others
each wanted read (branch tag contents inner others) =
    if wanted (field_of tag contents inner)
    then in_front (read (field_of tag contents inner)) (each wanted read others)
    else each wanted read others

-- of two parts the first that is not served, or both
abbrev pub both_asked : {A B : Type 0} → Asked A → Asked B → Asked (A × B)
both_asked (Bad diag) second = Bad diag
both_asked (Good a) (Bad diag) = Bad diag
both_asked (Good a) (Good b) = Good (a, b)

-- what is made of what is asked
abbrev pub asked_as : {A B : Type 0} → (A → B) → Asked A → Asked B
asked_as f (Good a) = Good (f a)
asked_as f (Bad diag) = Bad diag

-- of a list of parts the first that is not served, or all
abbrev pub all_asked : {A : Type 0} → List (Asked A) → Asked (List A)
all_asked [] = Good []
all_asked (first ∷ rest) = asked_as (λ p. p.0 ∷ p.1) (both_asked first (all_asked rest))
