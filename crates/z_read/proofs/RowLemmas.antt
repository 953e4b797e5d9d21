-- Rows that are read one after another are the rows of their table.
use Rattle.std.proofs.Common.{◌≡◌, Result, sym, subst}
use Rattle.unit_forms.specs.declared.refusal.Refusal.{Refusal}
use Rattle.unit_forms.specs.Reading.Answers.{◌⊗◌}
use Rattle.z_fields.specs.declared.answers.FieldFault.{FieldFault}
use Rattle.z_fields.specs.Answers.{as_fault, IsOrMemory, both_answers}
use Rattle.z_fields.proofs.AnswerLemmas.{both_are, as_fault_is}

-- two rows
pub both_rows : {A B : Type 0} (x : Result A Refusal) (y : Result B Refusal) (first : Result A FieldFault) (second : Result B FieldFault) (read : Result (A × B) FieldFault) → IsOrMemory x first → IsOrMemory y second → read ≡ both_answers first second → IsOrMemory (x ⊗ y) read
both_rows x y first second read p q e = subst (IsOrMemory (x ⊗ y)) (sym e) (both_are x y first second p q)

-- a row that takes no memory
pub fault_row : {A : Type 0} (x : Result A Refusal) (read : Result A FieldFault) → read ≡ as_fault x → IsOrMemory x read
fault_row x read e = subst (IsOrMemory x) (sym e) (as_fault_is x)
