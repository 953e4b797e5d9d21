-- What a search finds at the test target n (this project's own; the operators are of ANSI/NISO
-- Z39.50-2003, RPNStructure)
use Rattle.std.specs.Prelude.{ℕ, ◌+◌, ◌%◌, ◌==◌, ◌&&◌, ◌||◌, not, Bool, false, List, length, filter, sum_by, take, min, Option, Some, None, option_map, unwrap_or, Result, Ok, Err, if◌then◌else◌}
use Rattle.std.specs.Option.{option_or}
use Rattle.std.specs.List.{range_with_len}
use Rattle.std.specs.Fmt.{decimal}
use Rattle.z_types.specs.Tree.{Tree, leaf, operand, and, or, and_not}
use Rattle.z_types.specs.declared.key.SetKey.{SetKey}
use Rattle.z_types.specs.declared.diagnostic.Diag.{Diag}
use Rattle.z_types.specs.Bib1.{bib1}
use Rattle.z_types.specs.declared.conditions.Condition.TheVariants.{DatabaseDoesNotExist, ResultSetDoesNotExist, UnsupportedUseAttribute}
use Rattle.z_types.specs.Bounds.{most_number}
use Rattle.test_target.specs.Databases.{size_of, missing_name}
use Rattle.test_target.specs.Operands.{use_of, is_use, modulus}

-- whether a structure finds the record of a number; the result set of a name finds none
abbrev pub finds : ℕ → Tree → ℕ → Bool
finds n (leaf attrs term) i = ((i + n + use_of attrs) % modulus term) == 0
finds n (operand name) i = false
finds n (and l r) i = finds n l i && finds n r i
finds n (or l r) i = finds n l i || finds n r i
finds n (and_not l r) i = finds n l i && not (finds n r i)

-- a Use that is not there
abbrev pub use_fault : ℕ → Option Diag
use_fault value = if is_use value then None else Some (bib1 UnsupportedUseAttribute (decimal value))

-- the first operand from the left that cannot be answered: of a Use that is not there, or a result
-- set
abbrev pub operand_fault : Tree → Option Diag
operand_fault (leaf attrs term) = use_fault (use_of attrs)
operand_fault (operand name) = Some (bib1 ResultSetDoesNotExist name)
operand_fault (and l r) = option_or (operand_fault l) (operand_fault r)
operand_fault (or l r) = option_or (operand_fault l) (operand_fault r)
operand_fault (and_not l r) = option_or (operand_fault l) (operand_fault r)

-- the first database that is not there
abbrev pub database_fault : ℕ → List (List ℕ) → Option Diag
database_fault n names = option_map (bib1 DatabaseDoesNotExist) (missing_name n names)

-- the records of a database that a structure finds, in their order
abbrev pub found_in : ℕ → Tree → List ℕ → List ℕ
found_in n tree name = filter (finds n tree) (range_with_len 1 (unwrap_or (size_of n name) 0))

-- how many of the first records of a database are found, by which are found in any
abbrev pub found_of : ℕ → List Bool → List ℕ → ℕ
found_of n found name =
    length (filter (λ is_found. is_found) (take (unwrap_or (size_of n name) 0) found))

-- how many records are found; a database that is named again counts again
abbrev pub hits : ℕ → Tree → List (List ℕ) → ℕ
hits n tree names = min (sum_by (λ name. length (found_in n tree name)) names) most_number

-- the diagnostic where there is one, else the answer
abbrev pub answer_unless : {T : Type 0} → Option Diag → T → Result T Diag
answer_unless (Some diag) answer = Err diag
answer_unless None answer = Ok answer

-- the hits of a search, or the diagnostic of its databases, or else of its query
abbrev pub search_at : ℕ → SetKey → Result ℕ Diag
search_at n key =
    answer_unless (option_or (database_fault n key.dbs) (operand_fault key.query.root))
    (hits n key.query.root key.dbs)
