-- The structures of a query are those of its elements, by their places.
use Rattle.std.proofs.Common.{◌≡◌, ◌∙◌, ◌≤◌, ◌||◌, Bool, true, Option, Some, Result, Ok, Err, sym, ap, subst, arith, refl}
use Rattle.std.proofs.lemmas.Bool.{ne_eqb}
use Rattle.z_types.specs.Tree.{Tree}
use Rattle.z_types.specs.declared.requests.Asked.{Asked}
use Rattle.z_ber.specs.declared.tag.Tag.{Tag}
use Rattle.z_ber.specs.Element.{Forest, none, leaf, branch}
use Rattle.unit_forms.specs.declared.operator.Operator.{Operator}
use Rattle.unit_forms.specs.declared.refusal.Refusal.{Refusal}
use Rattle.unit_forms.specs.Reading.Answers.{◌⊗◌, read_as}
use Rattle.unit_forms.specs.Reading.Elements.{Field, first_element, other_elements, has_tag}
use Rattle.unit_forms.specs.Reading.Queries.{operand_in, operator_in, join_asked, joined_of, structure_with, structure_at}
use Rattle.unit_forms.specs.Reading.Rows.{context}
use Rattle.z_fields.proofs.AnswerLemmas.{both_are}
use Rattle.z_fields.specs.Answers.{IsOrMemory, both_answers}
use Rattle.z_fields.specs.declared.answers.FieldFault.{FieldFault}
use Rattle.z_fields.specs.declared.answers.FieldFault.TheVariants.{Refused, Memory}
use Rattle.z_read.specs.Structures.{structure_of, size, size_of}

pub first_at : (forest : Forest) → structure_at 0 forest ≡ structure_of (first_element forest)
unfolding structure_at
first_at none = refl
first_at (leaf t c os) = refl
first_at (branch t c is os) = refl

pub second_at : (forest : Forest) → structure_at 1 forest ≡ structure_at 0 (other_elements forest)
unfolding structure_at
second_at none = refl
second_at (leaf t c os) = refl
second_at (branch t c is os) = refl

-- the first element is the structure at place 0
pub first_structure : (forest : Forest) (found : Option Field) → found ≡ first_element forest → structure_of found ≡ structure_at 0 forest
first_structure forest found e = ap structure_of e ∙ sym (first_at forest)

-- the first of the others is the structure at place 1
pub second_structure : (forest others : Forest) (found : Option Field) → others ≡ other_elements forest → found ≡ first_element others → structure_of found ≡ structure_at 1 forest
second_structure forest others found o e = first_structure others found e ∙ ap (structure_at 0) o ∙ sym (second_at forest)

first_size : (forest : Forest) → size_of (first_element forest) ≤ size forest
first_size none = omega arith
first_size (leaf t c os) = omega arith
first_size (branch t c is os) = omega arith

others_size : (forest : Forest) → size (other_elements forest) ≤ size forest
others_size none = omega arith
others_size (leaf t c os) = omega arith
others_size (branch t c is os) = omega arith

-- an element has fewer elements in it than the one that it is in
pub first_smaller : (forest : Forest) (found : Option Field) → found ≡ first_element forest → size_of found ≤ size forest
first_smaller forest found e = let same = ap size_of e in let less = first_size forest in omega arith

pub second_smaller : (forest others : Forest) (found : Option Field) → others ≡ other_elements forest → found ≡ first_element others → size_of found ≤ size forest
second_smaller forest others found o e =
    let first = first_smaller others found e in let same = ap size o in let less = others_size forest in omega arith

-- an element with the tag [1] is two structures and an operator
is_both : (tag : Tag) (alone both : Result (Asked Tree) Refusal) → (has_tag tag (context 0) || has_tag tag (context 1)) ≡ true → tag.constructed ≡ true → (tag.number ≡ 0 → ⊥) → structure_with tag alone both ≡ both
is_both tag alone both is c n = rw (is, c, ne_eqb tag.number 0 n) refl

-- two structures and an operator, which a structure is read as
pub record IsJoint (found : Option Field) (read : Result (Asked Tree × (Asked Tree × Asked Operator)) FieldFault) : Type 0 where
  pub wanted : Result (Asked Tree × (Asked Tree × Asked Operator)) Refusal
  pub same : structure_of found ≡ read_as join_asked wanted
  pub parts : IsOrMemory wanted read

pub two_structures : (found : Option Field) (field : Field) (tag : Tag) (is : Bool) (inside again others : Forest) (first second : Option Field) (left right : Result (Asked Tree) FieldFault) (operator : Result (Asked Operator) FieldFault) (later : Result (Asked Tree × Asked Operator) FieldFault) (read : Result (Asked Tree × (Asked Tree × Asked Operator)) FieldFault) → found ≡ Some field → tag ≡ field.tag → is ≡ (has_tag tag (context 0) || has_tag tag (context 1)) → is ≡ true → tag.constructed ≡ true → (tag.number ≡ 0 → ⊥) → inside ≡ field.inner → first ≡ first_element inside → others ≡ other_elements inside → second ≡ first_element others → IsOrMemory (structure_of first) left → IsOrMemory (structure_of second) right → again ≡ field.inner → IsOrMemory (operator_in again) operator → later ≡ both_answers right operator → read ≡ both_answers left later → IsJoint found read
two_structures found field tag is inside again others first second left right operator later read f t i y c n w p o q l r a m g j = record {
  wanted = structure_of first ⊗ (structure_of second ⊗ operator_in again);
  same =
      ap structure_of f
      ∙ sym (ap (λ x. structure_with x (operand_in field.inner) (joined_of (structure_at 0 field.inner) (structure_at 1 field.inner) (operator_in field.inner))) t)
      ∙ is_both tag (operand_in field.inner) (joined_of (structure_at 0 field.inner) (structure_at 1 field.inner) (operator_in field.inner)) (sym i ∙ y) c n
      ∙ ap (joined_of (structure_at 0 field.inner) (structure_at 1 field.inner)) (sym (ap operator_in a))
      ∙ ap (λ x. joined_of (structure_at 0 field.inner) x (operator_in again)) (sym (second_structure inside others second o q ∙ ap (structure_at 1) w))
      ∙ ap (λ x. joined_of x (structure_of second) (operator_in again)) (sym (first_structure inside first p ∙ ap (structure_at 0) w));
  parts =
      subst (IsOrMemory (structure_of first ⊗ (structure_of second ⊗ operator_in again))) (sym (j ∙ ap (both_answers left) g))
      (both_are (structure_of first) (structure_of second ⊗ operator_in again) left (both_answers right operator) l (both_are (structure_of second) (operator_in again) right operator r m));
}

-- why they are not read is why the structure is not
pub joint_fault : (found : Option Field) (fault : FieldFault) → IsJoint found (Err fault) → IsOrMemory (structure_of found) (Err fault)
joint_fault found Memory joint = tt
joint_fault found (Refused refusal) joint = ap (read_as join_asked) joint.parts ∙ sym joint.same

-- what they are joined to is the structure
pub joint_read : (found : Option Field) (parts : Asked Tree × (Asked Tree × Asked Operator)) (read : Asked Tree) → IsJoint found (Ok parts) → read ≡ join_asked parts → IsOrMemory (structure_of found) (Ok read)
joint_read found parts read joint e = ap Ok e ∙ ap (read_as join_asked) joint.parts ∙ sym joint.same

pub ruleset structure_steps = (first_structure, second_structure, first_smaller, second_smaller)
