-- For contracts alone: the lengths of a query's operators, kept between two passes (this project's
-- own; ANSI/NISO Z39.50-2003, RPNStructure)
use Rattle.std.specs.Prelude.{◌≡◌, ℕ, List, [], ◌∷◌, ◌++◌, length}
use Rattle.z_types.specs.Tree.{Tree, leaf, operand, and, or, and_not}
use Rattle.unit_forms.specs.Fields.{constructed, tree_field}
use Rattle.unit_forms.specs.Query.{operator_octets, tree_octets}
use Rattle.unit_forms.specs.Tags.{rpn_rpn_op, and_operator, or_operator, and_not_operator}
use Rattle.z_write.specs.Opened.{Opens}

-- two structures and the operator behind them
abbrev pub operands : List ℕ → List ℕ → ℕ → List ℕ
operands first second operator = first ++ second ++ operator_octets operator

-- how many octets they are
abbrev pub operands_len : Tree → Tree → ℕ → ℕ
operands_len l r operator = length (operands (tree_octets l) (tree_octets r) operator)

-- the contents' length of each operator, behind those of its operands, the second one's first
abbrev pub operator_lens : Tree → List ℕ
operator_lens (leaf attrs term) = []
operator_lens (operand name) = []
operator_lens (and l r) = (operator_lens r ++ operator_lens l) ++ operands_len l r and_operator ∷ []
operator_lens (or l r) = (operator_lens r ++ operator_lens l) ++ operands_len l r or_operator ∷ []
operator_lens (and_not l r) =
    (operator_lens r ++ operator_lens l) ++ operands_len l r and_not_operator ∷ []

-- the length of two structures of these lengths under an operator
abbrev pub IsOperatorLength : ℕ → ℕ → ℕ → ℕ → Type 0
IsOperatorLength first second operator total =
    (l r : List ℕ) → length l ≡ first → length r ≡ second
    → total ≡ length (tree_field rpn_rpn_op (operands l r operator))

-- what is kept of them
abbrev pub KeepsOperator : ℕ → ℕ → ℕ → List ℕ → List ℕ → Type 0
KeepsOperator first second operator old new =
    (l r : List ℕ) → length l ≡ first → length r ≡ second
    → new ≡ old ++ length (operands l r operator) ∷ []

-- the length that was kept last is taken, and an element of it opened
abbrev pub OpensOperator : List ℕ → List ℕ → List ℕ → List ℕ → Type 0
OpensOperator old_lens new_lens old new =
    (below : List ℕ) (len : ℕ) → old_lens ≡ below ++ len ∷ []
    → (new_lens ≡ below) × Opens old (constructed rpn_rpn_op) len new

-- the lengths that were kept last are taken, and the structure of which they are is put
abbrev pub PutsStructure : Tree → List ℕ → List ℕ → List ℕ → List ℕ → Type 0
PutsStructure tree old_lens new_lens old new =
    (below : List ℕ) → old_lens ≡ below ++ operator_lens tree
    → (new_lens ≡ below) × (new ≡ old ++ tree_octets tree)
