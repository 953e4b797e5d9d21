-- Structures under an operator are put where the operator's length was kept last.
use Rattle.std.proofs.Common.{◌≡◌, ◌∙◌, ℕ, List, [], ◌∷◌, ◌++◌, length, sym, ap, refl, subst}
use Rattle.std.proofs.lemmas.List.{append_assoc}
use Rattle.z_types.specs.Tree.{Tree, and, or, and_not}
use Rattle.unit_forms.specs.Fields.{tree_field}
use Rattle.unit_forms.specs.Query.{operator_octets, tree_octets}
use Rattle.unit_forms.specs.Tags.{rpn_rpn_op, and_operator, or_operator, and_not_operator}
use Rattle.z_write.specs.Operators.{operands, operator_lens, PutsStructure, OpensOperator}

-- two structures and an operator, where the lengths of all three are the last that were kept
puts_operands : (l r : Tree) (operator : ℕ) (a b c d old o p q new below : List ℕ)
    → OpensOperator a b old o → PutsStructure l b c o p → PutsStructure r c d p q → new ≡ q ++ operator_octets operator
    → a ≡ below ++ ((operator_lens r ++ operator_lens l) ++ length (operands (tree_octets l) (tree_octets r) operator) ∷ [])
    → (d ≡ below) × (new ≡ old ++ tree_field rpn_rpn_op (operands (tree_octets l) (tree_octets r) operator))
puts_operands l r operator a b c d old o p q new below opens first second last e =
    let inside = operands (tree_octets l) (tree_octets r) operator in
    let opened = opens (below ++ (operator_lens r ++ operator_lens l)) (length inside) (e ∙ sym (append_assoc below (operator_lens r ++ operator_lens l) (length inside ∷ []))) in
    let left = first (below ++ operator_lens r) (opened.0 ∙ sym (append_assoc below (operator_lens r) (operator_lens l))) in
    let right = second below left.0 in
    let octets : q ≡ o ++ (tree_octets l ++ tree_octets r) =
    right.1 ∙ ap (λ x. x ++ tree_octets r) left.1 ∙ append_assoc o (tree_octets l) (tree_octets r) in
    (right.0, last ∙ ap (λ x. x ++ operator_octets operator) octets ∙ append_assoc o (tree_octets l ++ tree_octets r) (operator_octets operator) ∙ opened.1 inside refl)

-- under and
pub puts_and : (t l r x y : Tree) (a b c d old o p q new : List ℕ) → t ≡ and l r → x ≡ l → y ≡ r
    → OpensOperator a b old o → PutsStructure x b c o p → PutsStructure y c d p q → new ≡ q ++ operator_octets and_operator
    → PutsStructure t a d old new
unfolding tree_octets
puts_and t l r x y a b c d old o p q new is left right opens first second last =
    let one = subst (λ z. PutsStructure z b c o p) left first in
    let two = subst (λ z. PutsStructure z c d p q) right second in
    subst (λ z. PutsStructure z a d old new) (sym is) (λ below e. puts_operands l r and_operator a b c d old o p q new below opens one two last e)

-- under or
pub puts_or : (t l r x y : Tree) (a b c d old o p q new : List ℕ) → t ≡ or l r → x ≡ l → y ≡ r
    → OpensOperator a b old o → PutsStructure x b c o p → PutsStructure y c d p q → new ≡ q ++ operator_octets or_operator
    → PutsStructure t a d old new
unfolding tree_octets
puts_or t l r x y a b c d old o p q new is left right opens first second last =
    let one = subst (λ z. PutsStructure z b c o p) left first in
    let two = subst (λ z. PutsStructure z c d p q) right second in
    subst (λ z. PutsStructure z a d old new) (sym is) (λ below e. puts_operands l r or_operator a b c d old o p q new below opens one two last e)

-- under and-not
pub puts_and_not : (t l r x y : Tree) (a b c d old o p q new : List ℕ) → t ≡ and_not l r → x ≡ l → y ≡ r
    → OpensOperator a b old o → PutsStructure x b c o p → PutsStructure y c d p q → new ≡ q ++ operator_octets and_not_operator
    → PutsStructure t a d old new
unfolding tree_octets
puts_and_not t l r x y a b c d old o p q new is left right opens first second last =
    let one = subst (λ z. PutsStructure z b c o p) left first in
    let two = subst (λ z. PutsStructure z c d p q) right second in
    subst (λ z. PutsStructure z a d old new) (sym is) (λ below e. puts_operands l r and_not_operator a b c d old o p q new below opens one two last e)
