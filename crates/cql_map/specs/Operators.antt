-- The booleans that are operators of type 1 (CQL 1.2, boolean; ANSI/NISO Z39.50-2003, Operator).
use Rattle.std.specs.Prelude.{ℕ, List, codes, Option, Some, None, if◌then◌else◌}
use Rattle.std.specs.Str.{bytes_eq}
use Rattle.z_types.specs.Tree as rpn
use Rattle.cql_map.specs.declared.operator.Operator.{Operator}
use Rattle.cql_map.specs.declared.operator.Operator.TheVariants.{And, Or, AndNot}

-- and, or and not
abbrev pub operator_of : List ℕ → Option Operator
operator_of boolean =
    if bytes_eq boolean (codes "and") then Some And
    else (if bytes_eq boolean (codes "or") then Some Or
    else (if bytes_eq boolean (codes "not") then Some AndNot else None))

-- two queries under an operator
abbrev pub under : Operator → rpn.Tree → rpn.Tree → rpn.Tree
under And a b = rpn.and a b
under Or a b = rpn.or a b
under AndNot a b = rpn.and_not a b
