-- For contracts alone: values that are read one behind another (this project's own).
use Rattle.std.specs.Prelude.{◌≡◌, List, [], ◌∷◌, ◌++◌, Result}
use Rattle.unit_forms.specs.declared.refusal.Refusal.{Refusal}
use Rattle.z_types.specs.declared.requests.Asked.{Asked}
use Rattle.z_fields.specs.declared.answers.FieldFault.{FieldFault}
use Rattle.z_fields.specs.Answers.{IsOrMemory}
use Rattle.unit_forms.specs.Reading.Answers.{◌⊗◌, read_as, both_asked, asked_as, all_asked}

-- one more behind others
abbrev pub read_behind : {A : Type 0} → Result (List A) Refusal → Result A Refusal
    → Result (List A) Refusal
read_behind items item = read_as (λ p. p.0 ++ p.1 ∷ []) (items ⊗ item)

-- others behind these
abbrev pub read_joined : {A : Type 0} → Result (List A) Refusal → Result (List A) Refusal
    → Result (List A) Refusal
read_joined items more = read_as (λ p. p.0 ++ p.1) (items ⊗ more)

-- one more behind others, where all are served
abbrev pub served_behind : {A : Type 0} → Asked (List A) × Asked A → Asked (List A)
served_behind p = asked_as (λ q. q.0 ++ q.1 ∷ []) (both_asked p.0 p.1)

abbrev pub asked_behind : {A : Type 0} → Result (Asked (List A)) Refusal → Result (Asked A) Refusal
    → Result (Asked (List A)) Refusal
asked_behind items item = read_as served_behind (items ⊗ item)

-- others behind these
abbrev pub join_lists : {A : Type 0} → Asked (List A) × List (Asked A) → Asked (List A)
join_lists p = asked_as (λ q. q.0 ++ q.1) (both_asked p.0 (all_asked p.1))

abbrev pub asked_joined : {A : Type 0} → Result (Asked (List A)) Refusal
    → Result (List (Asked A)) Refusal → Result (Asked (List A)) Refusal
asked_joined items more = read_as join_lists (items ⊗ more)

-- one more behind others, whatever they were to be read as, or want of memory
abbrev pub IsBehind : {A B : Type 0} → (Result A Refusal → Result B Refusal → Result A Refusal)
    → Result A FieldFault → Result B FieldFault → Result A FieldFault → Type 0
IsBehind {A} {B} behind items item read =
    (others : Result A Refusal) (wanted : Result B Refusal) →
    IsOrMemory others items → IsOrMemory wanted item → IsOrMemory (behind others wanted) read

-- some have been read of the whole, or memory was wanted, and these are left
pub record IsPassed {A M : Type 0} (joined : Result A Refusal → M → Result A Refusal)
    (whole : Result A Refusal) (left : M) (items : Result A FieldFault) : Type 0 where
  pub done : Result A Refusal
  pub read : IsOrMemory done items
  pub passed : whole ≡ joined done left
