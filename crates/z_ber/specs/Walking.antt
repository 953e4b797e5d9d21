-- For contracts alone: what the check of all elements meets on its way (X.690:2021, 8.1.1 to
-- 8.1.5). Public contracts do not cite it.
use Rattle.std.specs.Prelude.{◌≡◌, ℕ, ◌+◌, ◌<◌, ◌≤◌, List, ◌++◌, length, take, drop, true, false, Option, Some, None, IfSome}
use Rattle.z_ber.specs.declared.tag.Header.{Header}
use Rattle.z_ber.specs.Element.{Forest, end_of_contents, AreElements}
use Rattle.z_ber.specs.Header.{IsHeader}
use Rattle.z_ber.specs.Place.{IsPlace}

-- an element can begin with this header: there is a level for it, and its contents do not pass the
-- end of octets
pub record MayBegin (levels : ℕ) (octets : List ℕ) (head : Header) : Type 0 where
  pub level : 0 < levels
  pub some : 0 < head.size
  pub fits : head.size ≤ length octets
  pub header : IsHeader (take head.size octets) head.tag head.length
  pub holds : IfSome head.length (λ len. head.size + len ≤ length octets)

-- such a header, or none
abbrev pub IsHeaderFound : ℕ → List ℕ → Option Header → Type 0
IsHeaderFound levels octets (Some head) = MayBegin levels octets head
IsHeaderFound levels octets None = IsPlace levels octets 0

-- octets are elements one after another, with nothing left over
abbrev pub AreSomeElements : ℕ → List ℕ → Type 0
AreSomeElements levels octets = (forest : Forest) × AreElements false levels octets forest

-- elements and an end of contents stand in front of others
pub record AreClosed (levels : ℕ) (octets others : List ℕ) : Type 0 where
  pub forest : Forest
  pub front : List ℕ
  pub are : AreElements true levels front forest
  pub spelled : octets ≡ front ++ (end_of_contents ++ others)

-- they take `size` octets
abbrev pub AreClosedAt : ℕ → List ℕ → ℕ → Type 0
AreClosedAt levels octets size = (size ≤ length octets) × AreClosed levels octets (drop size octets)
