-- What is true of all that is written, of frames and of trees; the functions in src/laws.rt cite it
-- (X.690:2021, 8.1 to 8.19).
use Rattle.std.specs.Prelude.{◌≡◌, ℕ, suc, ◌^◌, ◌<◌, List, ◌++◌, length, true, false, Option, Some, Result, Ok}
use Rattle.std.specs.List.{flat_map, AllByRecursion}
use Rattle.z_types.specs.ReadAs.{IsReadAs}
use Rattle.z_ber.specs.declared.fault.BerFault.{BerFault}
use Rattle.z_ber.specs.declared.tag.Tag.{Tag}
use Rattle.z_ber.specs.Element.{Forest, none, leaf, branch, AreElements, IsElement}
use Rattle.z_ber.specs.Frames.{IsDefiniteFrame, IsExtent, Splits}
use Rattle.z_ber.specs.Lent.{Lent, IsFirst, IsNext}
use Rattle.z_ber.specs.LentTree.{IsRoot}
use Rattle.z_ber.specs.Written.{IsTag, element}

-- an element that is written begins no other one, and its octets have one tag and one value of
-- contents octets
abbrev pub WrittenElementsAreApart : Type 0
WrittenElementsAreApart =
    (s t : Tag) (a b x y : List ℕ) → element s a ++ x ≡ element t b ++ y
    → (s ≡ t) × (a ≡ b) × (x ≡ y)

-- what is written of a value is read as the value, by every answer that is right
abbrev pub IsReadBack : {A : Type 0} → (A → Type 0) → (A → List ℕ) → Type 0
IsReadBack {A} IsOfKind spell =
    (value : A) (answer : Option A) → IsOfKind value → IsReadAs IsOfKind spell (spell value) answer
    → answer ≡ Some value

-- a stream is one list of frames of definite length, with one rest, however it is cut
abbrev pub StreamsHaveOneSplit : Type 0
StreamsHaveOneSplit =
    (stream rest tail : List ℕ) (frames others : List (List ℕ)) →
    Splits IsDefiniteFrame stream frames rest → Splits IsDefiniteFrame stream others tail →
    (frames ≡ others) × (rest ≡ tail)

-- octets have at most one tree, and no element is a proper prefix of another
abbrev pub ElementsHaveOneTree : Type 0
ElementsHaveOneTree =
    (s t : Forest) (m n : ℕ) (a b x y : List ℕ) →
    IsElement m a s → IsElement n b t → a ++ x ≡ b ++ y →
    (a ≡ b) × (s ≡ t) × (x ≡ y)

-- the frame in front of octets has one tag, one value of contents octets, and one rest behind it
abbrev pub FramesHaveOneExtent : Type 0
FramesHaveOneExtent =
    (levels : ℕ) (s t : Tag) (f g b c x y : List ℕ) →
    IsExtent levels f s b → IsExtent levels g t c → f ++ x ≡ g ++ y →
    (s ≡ t) × (b ≡ c) × (x ≡ y)

-- an element with a tree is a frame with the tag and the contents octets of its root, whose
-- children stand in them in their order
abbrev pub ElementsHaveTheirRoot : Type 0
ElementsHaveTheirRoot =
    (tree : Forest) (levels : ℕ) (octets : List ℕ) → IsElement levels octets tree
    → IsRoot levels octets tree

-- an element that is written is a frame with its tag and its contents octets, on any level
abbrev pub WrittenElementsAreFrames : Type 0
WrittenElementsAreFrames =
    (levels : ℕ) (tag : Tag) (contents : List ℕ) →
    0 < levels → IsTag tag → length contents < 2 ^ 64 →
    IsExtent levels (element tag contents) tag contents

-- a primitive element that is written is an element without elements in it, on any level
abbrev pub WrittenLeavesAreElements : Type 0
WrittenLeavesAreElements =
    (levels : ℕ) (tag : Tag) (contents : List ℕ) →
    IsTag tag → tag.constructed ≡ false → length contents < 2 ^ 64 →
    IsElement (suc levels) (element tag contents) (leaf tag contents none)

-- a constructed element that is written round elements is an element with just these in it, one
-- level more
abbrev pub WrittenBranchesAreElements : Type 0
WrittenBranchesAreElements =
    (levels : ℕ) (tag : Tag) (contents : List ℕ) (inner : Forest) →
    IsTag tag → tag.constructed ≡ true → length contents < 2 ^ 64
    → AreElements false levels contents inner →
    IsElement (suc levels) (element tag contents) (branch tag contents inner none)

-- octets are one element, whatever stands in it
abbrev pub IsSomeElement : ℕ → List ℕ → Type 0
IsSomeElement levels octets = (tree : Forest) × IsElement levels octets tree

-- a constructed element that is written round a list of elements, one after another, is an element,
-- one level more
abbrev pub WrittenListsAreElements : Type 0
WrittenListsAreElements =
    (levels : ℕ) (tag : Tag) (elements : List (List ℕ)) →
    IsTag tag → tag.constructed ≡ true → length (flat_map (λ octets. octets) elements) < 2 ^ 64 →
    AllByRecursion (IsSomeElement levels) elements →
    IsSomeElement (suc levels) (element tag (flat_map (λ octets. octets) elements))

-- what is written is lent again: its tag and its contents octets, whatever follows it
abbrev pub WrittenElementsAreLent : Type 0
WrittenElementsAreLent =
    (tag : Tag) (contents rest : List ℕ) (answer : Result Lent BerFault) →
    IsTag tag → length contents < 2 ^ 64 → IsFirst (element tag contents ++ rest) answer →
    (lent : Lent) × (answer ≡ Ok lent) × (lent.tag ≡ tag) × (lent.body ≡ contents)

-- what is written is lent again as a child, where levels are left, and what follows it is left
abbrev pub WrittenChildrenAreLent : Type 0
WrittenChildrenAreLent =
    (tag : Tag) (contents rest : List ℕ) (old new : Lent) (answer : Result (Option Lent) BerFault) →
    IsTag tag → length contents < 2 ^ 64 → 0 < old.levels
    → old.left ≡ element tag contents ++ rest →
    IsNext old new answer →
    (child : Lent) × (answer ≡ Ok (Some child)) × (child.tag ≡ tag) × (child.body ≡ contents)
    × (new.left ≡ rest)
