-- Readings one after the other answer what their definitions do.
use Rattle.std.proofs.Common.{◌≡◌, ◌∙◌, Result, Ok, Err, ap, refl}
use Rattle.unit_forms.specs.declared.refusal.Refusal.{Refusal}
use Rattle.unit_forms.specs.Reading.Answers.{◌⊗◌}
use Rattle.z_fields.specs.declared.answers.FieldFault.{FieldFault}
use Rattle.z_fields.specs.declared.answers.FieldFault.TheVariants.{Refused, Memory}
use Rattle.z_fields.specs.Answers.{as_fault, IsOrMemory, both_answers}

two : {A B : Type 0} (x a : Result A Refusal) (y b : Result B Refusal) → a ≡ x → b ≡ y → a ⊗ b ≡ x ⊗ y
two x a y b p q = ap (λ z. z ⊗ b) p ∙ ap (λ z. x ⊗ z) q

-- two fields
pub both_are : {A B : Type 0} (x : Result A Refusal) (y : Result B Refusal) (first : Result A FieldFault) (second : Result B FieldFault) → IsOrMemory x first → IsOrMemory y second → IsOrMemory (x ⊗ y) (both_answers first second)
both_are x y (Ok a) (Ok b) p q = two x (Ok a) y (Ok b) p q
both_are x y (Ok a) (Err (Refused s)) p q = two x (Ok a) y (Err s) p q
both_are x y (Ok a) (Err Memory) p q = tt
both_are x y (Err Memory) second p q = tt
both_are x y (Err (Refused r)) (Ok b) p q = two x (Err r) y (Ok b) p q
both_are x y (Err (Refused r)) (Err Memory) p q = tt
both_are x y (Err (Refused r)) (Err (Refused s)) p q = two x (Err r) y (Err s) p q

-- a field that takes no memory
pub as_fault_is : {A : Type 0} (x : Result A Refusal) → IsOrMemory x (as_fault x)
as_fault_is (Ok value) = refl
as_fault_is (Err refusal) = refl

pub ruleset rows = (both_are, as_fault_is)
