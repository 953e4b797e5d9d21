-- For contracts alone: what reading a field answers: its value or the refusal that its definition
-- has, or want of memory, which has no cause in the octets (this project's own).
use Rattle.std.specs.Prelude.{◌≡◌, Result, Ok, Err}
use Rattle.unit_forms.specs.declared.refusal.Refusal.{Refusal}
use Rattle.unit_forms.specs.Reading.Answers.{first_refusal}
use Rattle.z_fields.specs.declared.answers.FieldFault.{FieldFault}
use Rattle.z_fields.specs.declared.answers.FieldFault.TheVariants.{Refused, Memory}

-- the value or the refusal
abbrev pub as_fault : {A : Type 0} → Result A Refusal → Result A FieldFault
as_fault (Ok value) = Ok value
as_fault (Err refusal) = Err (Refused refusal)

-- the answer is the value or the refusal that is wanted, or want of memory
abbrev pub IsOrMemory : {A : Type 0} → Result A Refusal → Result A FieldFault → Type 0
IsOrMemory wanted (Ok value) = Ok value ≡ wanted
IsOrMemory wanted (Err (Refused refusal)) = Err refusal ≡ wanted
IsOrMemory wanted (Err Memory) = Unit {0}

-- two answers: both values; or want of memory; or the first refusal of the lowest rank
abbrev pub both_answers : {A B : Type 0} → Result A FieldFault → Result B FieldFault
    → Result (A × B) FieldFault
both_answers (Ok a) (Ok b) = Ok (a, b)
both_answers (Ok a) (Err fault) = Err fault
both_answers (Err Memory) second = Err Memory
both_answers (Err (Refused r)) (Ok b) = Err (Refused r)
both_answers (Err (Refused r)) (Err Memory) = Err Memory
both_answers (Err (Refused r)) (Err (Refused s)) = Err (Refused (first_refusal r s))
