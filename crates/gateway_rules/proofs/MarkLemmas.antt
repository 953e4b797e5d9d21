-- The mark of what comes of a work is the mark that it is answered under.
use Rattle.std.proofs.Common.{◌≡◌, ℕ, List, Result, Ok, Err, refl}
use Rattle.z_types.specs.declared.diagnostic.Diag.{Diag}
use Rattle.z_types.specs.declared.marks.Mark.{Mark}
use Rattle.z_types.specs.declared.marks.Mark.TheVariants.{Plain, Link, Silent, Gone, Full}
use Rattle.z_types.specs.declared.outcome.Fetched.{Fetched}
use Rattle.z_types.specs.declared.outcome.Outcome.{Outcome}
use Rattle.gateway_rules.specs.Outcomes.{found, under_mark}
use Rattle.gateway_rules.specs.Works.{mark_of}

pub mark-kept : (mark : Mark) (class : List ℕ) (plainly : Outcome) → mark_of plainly ≡ Plain
    → mark_of (under_mark mark class plainly) ≡ mark
mark-kept Plain class plainly h = h
mark-kept Link class plainly h = refl
mark-kept (Silent looks) class plainly h = refl
mark-kept Gone class plainly h = refl
mark-kept (Full sessions) class plainly h = refl

-- what the targets answer has none
pub found-plain : (said : Result (List ℕ) Diag) (records : List ℕ → Fetched) → mark_of (found said records) ≡ Plain
found-plain (Ok hits) records = refl
found-plain (Err diag) records = refl
