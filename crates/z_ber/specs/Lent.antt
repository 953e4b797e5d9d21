-- For contracts alone: elements that are lent, with the children that have not been lent yet
-- (X.690:2021, 8.1.1). The bound of 64 levels is this project's own.
use Rattle.std.specs.Prelude.{◌≡◌, ◌≢◌, ℕ, suc, List, [], Option, Some, None, Result, Ok, Err, if◌then◌else◌}
use Rattle.z_types.specs.Bounds.{most_levels}
use Rattle.z_ber.specs.declared.fault.BerFault.{BerFault}
use Rattle.z_ber.specs.declared.tag.Tag.{Tag}
use Rattle.z_ber.specs.Frames.{BeginsWith}
use Rattle.z_ber.specs.Due.{IsRefused}

-- an element: its tag, its contents octets, those of its children that have not been lent, and how
-- many levels are left in it
pub record Lent : Type 0 where
  pub tag : Tag
  pub body : List ℕ
  pub left : List ℕ
  pub levels : ℕ

-- a constructed element's contents octets are children, a primitive one has none
abbrev pub children_of : Tag → List ℕ → List ℕ
children_of tag body = if tag.constructed then body else []

-- the element stands at the front of octets where `levels` levels are left, with nothing of it lent
-- yet
pub record IsLentFrom (levels : ℕ) (bytes rest : List ℕ) (element : Lent) : Type 0 where
  pub begins : BeginsWith levels bytes element.tag element.body rest
  pub children : element.left ≡ children_of element.tag element.body
  pub deeper : suc element.levels ≡ levels

-- what lending the first element answers
abbrev pub IsFirst : List ℕ → Result Lent BerFault → Type 0
IsFirst bytes (Ok element) = (rest : List ℕ) × IsLentFrom most_levels bytes rest element
IsFirst bytes (Err fault) = IsRefused most_levels bytes fault

-- what is left of an element once the child at the front of its rest is lent
abbrev pub without_first : Lent → List ℕ → Lent
without_first element rest =
    record { tag = element.tag; body = element.body; left = rest; levels = element.levels }

-- what lending the next child answers, where an element goes from old to new: none is left; or a
-- child; or a refusal, which changes nothing
abbrev pub IsNext : Lent → Lent → Result (Option Lent) BerFault → Type 0
IsNext old new (Ok None) = (old.left ≡ []) × (new ≡ old)
IsNext old new (Ok (Some child)) =
    IsLentFrom old.levels old.left new.left child × (new ≡ without_first old new.left)
IsNext old new (Err fault) = (old.left ≢ []) × (new ≡ old) × IsRefused old.levels old.left fault
