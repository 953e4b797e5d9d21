-- The databases of the test target n, whose records are numbered from 1 (this project's own)
use Rattle.z_types.specs.Same.{is_same}
use Rattle.std.specs.Prelude.{ℕ, ◌+◌, ◌%◌, List, Option, Some, None, is_none, find, codes, if◌then◌else◌}

-- how many records the database of a name has, where there is one
abbrev pub size_of : ℕ → List ℕ → Option ℕ
size_of n name =
    if is_same name (codes "Default") then Some (20 + n % 80)
    else (if is_same name (codes "Small") then Some 3
    else (if is_same name (codes "Empty") then Some 0 else None))

-- the first name of no database
abbrev pub missing_name : ℕ → List (List ℕ) → Option (List ℕ)
missing_name n names = find (λ name. is_none (size_of n name)) names
