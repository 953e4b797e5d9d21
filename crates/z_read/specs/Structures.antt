-- For contracts alone: the structure that one element is (ANSI/NISO Z39.50-2003, RPNStructure), as
-- it is read from the element itself.
use Rattle.std.specs.Prelude.{ℕ, ◌+◌, suc, Option, Some, None, Result, Err}
use Rattle.z_types.specs.Tree.{Tree}
use Rattle.z_types.specs.declared.requests.Asked.{Asked}
use Rattle.z_ber.specs.Element.{Forest, none, leaf, branch}
use Rattle.unit_forms.specs.declared.refusal.Refusal.{Refusal}
use Rattle.unit_forms.specs.declared.refusal.Refusal.TheVariants.{Missing}
use Rattle.unit_forms.specs.Reading.Elements.{Field}
use Rattle.unit_forms.specs.Reading.Queries.{operand_in, operator_in, joined_of, structure_with, structure_at}

-- an element, or none where one is due
abbrev pub structure_of : Option Field → Result (Asked Tree) Refusal
structure_of None = Err (Missing 0)
structure_of (Some field) =
    structure_with field.tag (operand_in field.inner)
    (joined_of (structure_at 0 field.inner) (structure_at 1 field.inner) (operator_in field.inner))

-- how many elements there are, all the way down
abbrev pub size : Forest → ℕ
size none = 0
size (leaf tag contents others) = suc (size others)
size (branch tag contents inner others) = suc (size inner + size others)

abbrev pub size_of : Option Field → ℕ
size_of None = 0
size_of (Some field) = suc (size field.inner)
