-- For contracts alone: what a table of names tells of parameters (this project's own)
use Rattle.std.specs.Prelude.{◌≡◌, ℕ, Bool, false, not, ◌||◌, ◌&&◌, List, unwrap_or}
use Rattle.std.specs.Borrow.{Bor}
use Rattle.std.specs.BTreeMap as tree
use Rattle.std.specs.BTreeMap.{BTreeMap}
use Rattle.std.specs.Cmp.Lexicographic.{slice_cmp}
use Rattle.std.specs.Ordering.{nat_cmp}
use Rattle.sru_request.specs.declared.parameter.Parameter.{Parameter}
use Rattle.sru_request.specs.Choices.{is_known, is_extra, first_given}

-- names, each with whether its first pair has a value
abbrev pub Firsts : Type 0
Firsts = BTreeMap (Bor (List ℕ)) Bool

-- whether a name has a value
abbrev pub has_value : Firsts → List ℕ → Bool
has_value firsts name = unwrap_or (tree.get_by (λ k. slice_cmp nat_cmp name k.now) firsts) false

-- another name that has one
unfoldable pub is_other_in : Firsts → List ℕ → Bool
is_other_in firsts name = not (is_known name || is_extra name) && has_value firsts name

-- the table is of these parameters
abbrev pub IsTableOf : Firsts → List Parameter → Type 0
IsTableOf firsts given =
    (name : List ℕ)
    → tree.get_by (λ k. slice_cmp nat_cmp name k.now) firsts ≡ first_given name given
