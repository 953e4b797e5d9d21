-- Under which mark a request is answered, and which diagnostic each gives (this project's own)
use Rattle.std.specs.Prelude.{ℕ, List, codes, Option, None, Some, Contains}
use Rattle.z_types.specs.declared.diagnostic.Diag.{Diag}
use Rattle.z_types.specs.declared.marks.Mark.{Mark}
use Rattle.z_types.specs.declared.marks.Mark.TheVariants.{Plain, Link, Silent, Gone, Full}
use Rattle.z_types.specs.Bib1.{bib1}
use Rattle.z_types.specs.declared.conditions.Condition.TheVariants.{TemporarySystemError, DatabaseUnavailable, ResultSetNoLongerExists}

-- a mark, and where it is not Plain the name of the class whose leg was marked first
pub record Cause : Type 0 where
  pub mark : Mark
  pub class : List ℕ

-- no leg was marked
abbrev pub plain : Cause
plain = record { mark = Plain; class = codes "" }

-- the diagnostic that a mark gives in place of the targets' answer
abbrev pub marked_diag : Mark → List ℕ → Option Diag
marked_diag Plain class = None
marked_diag Link class = Some (bib1 DatabaseUnavailable class)
marked_diag (Silent looks) class = Some (bib1 TemporarySystemError (codes "patience"))
marked_diag Gone class = Some (bib1 ResultSetNoLongerExists (codes ""))
marked_diag (Full sessions) class = Some (bib1 TemporarySystemError (codes "sessions"))

-- a mark may come where these classes are asked: Plain always, and another only of one of them
abbrev pub MayCome : List (List ℕ) → List ℕ → Mark → Type 0
MayCome classes class Plain = Unit {0}
MayCome classes class _ = Contains classes class

-- a cause that was taken, and the names of the classes that the request asked
pub record Taken : Type 0 where
  pub classes : List (List ℕ)
  pub cause : Cause

-- the request may be answered under the cause
abbrev pub IsAllowed : Taken → Type 0
IsAllowed taken = MayCome taken.classes taken.cause.class taken.cause.mark
