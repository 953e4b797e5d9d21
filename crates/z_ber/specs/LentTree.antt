-- For contracts alone: what lending answers where octets have trees (X.690:2021, 8.1.1). The bound
-- of 64 levels is this project's own.
use Rattle.std.specs.Prelude.{◌≡◌, ℕ, ◌-◌, ◌<◌, suc, List, [], ◌++◌, length, Bool, Option, Some, None, Result, Ok, Err}
use Rattle.z_types.specs.Bounds.{most_levels}
use Rattle.z_ber.specs.declared.fault.BerFault.{BerFault}
use Rattle.z_ber.specs.declared.tag.Tag.{Tag}
use Rattle.z_ber.specs.Element.{Forest, none, leaf, branch, AreElements, IsElement}
use Rattle.z_ber.specs.Frames.{IsExtent}
use Rattle.z_ber.specs.Lent.{Lent, children_of}

-- the element as it was lent at first, with all of its children
abbrev pub with_all_children : Lent → Lent
with_all_children lent =
    record {
      tag = lent.tag;
      body = lent.body;
      left = children_of lent.tag lent.body;
      levels = lent.levels;
    }

-- what is lent stands for a primitive element, in an element that has `levels` levels left
pub record IsLeafLent (levels : ℕ) (lent : Lent) (tag : Tag) (contents : List ℕ) : Type 0 where
  pub tagged : lent.tag ≡ tag
  pub filled : lent.body ≡ contents
  pub childless : lent.left ≡ []
  pub deeper : suc lent.levels ≡ levels

-- what is lent stands for a constructed element with these children, of which none is lent yet
pub record IsBranchLent (levels : ℕ) (lent : Lent) (tag : Tag) (contents : List ℕ)
    (children : Forest) : Type 0 where
  pub tagged : lent.tag ≡ tag
  pub filled : lent.body ≡ contents
  pub whole : lent.left ≡ contents
  pub deeper : suc lent.levels ≡ levels
  pub within : Bool
  pub holds : AreElements within lent.levels contents children

-- what is lent stands for the first of these elements
abbrev pub IsLentAs : ℕ → Lent → Forest → Type 0
IsLentAs levels lent none = ⊥
IsLentAs levels lent (leaf tag contents others) = IsLeafLent levels lent tag contents
IsLentAs levels lent (branch tag contents children others) =
    IsBranchLent levels lent tag contents children

-- a child is lent that stands for the first of these elements, and those behind it are left
pub record IsChildOf (within : Bool) (old new : Lent) (forest others : Forest)
    (answer : Result (Option Lent) BerFault) : Type 0 where
  pub child : Lent
  pub answered : answer ≡ Ok (Some child)
  pub first : IsLentAs old.levels child forest
  pub behind : AreElements within old.levels new.left others

-- what lending the next child answers where these elements are left: none after the last, and
-- otherwise the first of them
abbrev pub IsNextOf : Bool → Lent → Lent → Forest → Result (Option Lent) BerFault → Type 0
IsNextOf within old new none answer = answer ≡ Ok None
IsNextOf within old new (leaf tag contents others) answer =
    IsChildOf within old new (leaf tag contents others) others answer
IsNextOf within old new (branch tag contents children others) answer =
    IsChildOf within old new (branch tag contents children others) others answer

-- fewer octets are left behind a child
abbrev pub LeavesLess : Lent → Lent → Result (Option Lent) BerFault → Type 0
LeavesLess old new (Ok (Some child)) = length new.left < length old.left
LeavesLess old new (Ok None) = Unit {0}
LeavesLess old new (Err fault) = Unit {0}

-- whatever elements are left, the first of them is lent
abbrev pub LendsNext : Lent → Lent → Result (Option Lent) BerFault → Type 0
LendsNext old new answer =
    (within : Bool) (forest : Forest) → AreElements within old.levels old.left forest
    → IsNextOf within old new forest answer

-- whatever tree octets begin with, an element is lent that stands for it
abbrev pub LendsFirst : List ℕ → Result Lent BerFault → Type 0
LendsFirst bytes answer =
    (tree : Forest) (octets rest : List ℕ) → IsElement most_levels octets tree
    → bytes ≡ octets ++ rest →
    (lent : Lent) × (answer ≡ Ok lent) × IsLentAs most_levels lent tree

-- what stands at the root of an element with this tree: a frame with the tag and contents of a
-- leaf, or with those of a branch, whose contents are its children, one level deeper
abbrev pub IsRoot : ℕ → List ℕ → Forest → Type 0
IsRoot levels octets none = ⊥
IsRoot levels octets (leaf tag contents others) = IsExtent levels octets tag contents
IsRoot levels octets (branch tag contents children others) =
    (within : Bool) × IsExtent levels octets tag contents
    × AreElements within (levels - 1) contents children
