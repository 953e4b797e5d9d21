-- Elements as trees: X.690:2021, 8.1.1 (structure), 8.1.3.6 and 8.1.5 (the indefinite form and its
-- end). The bound of 64 levels is this project's own.
use Rattle.std.specs.Prelude.{◌≡◌, ◌≢◌, ℕ, zero, suc, List, [], ◌∷◌, ◌++◌, length, Bool, true, false, Some, None, if◌then◌else◌}
use Rattle.z_ber.specs.declared.tag.Tag.{Tag}
use Rattle.z_ber.specs.Header.{IsHeader}

-- elements one after another: each has its tag and its contents octets, a constructed one the
-- elements in it, too
pub data Forest : Type 0 where
  none : Forest
  leaf : Tag → List ℕ → Forest → Forest
  branch : Tag → List ℕ → Forest → Forest → Forest

-- 8.1.5: the end of an indefinite element
abbrev pub end_of_contents : List ℕ
end_of_contents = 0 ∷ 0 ∷ []

-- 8.1.5: elements have ended before octets: within an indefinite element at the end of contents,
-- otherwise where nothing is left
abbrev pub HaveEnded : Bool → List ℕ → Type 0
HaveEnded true rest = (more : List ℕ) × (rest ≡ end_of_contents ++ more)
HaveEnded false rest = rest ≡ []

-- 8.1.3.2: a primitive element is definite: a header, and as many contents octets as it says
pub record IsLeaf (tag : Tag) (contents octets : List ℕ) : Type 0 where
  pub primitive : tag.constructed ≡ false
  pub head : List ℕ
  pub header : IsHeader head tag (Some (length contents))
  pub spelled : octets ≡ head ++ contents

-- 8.1.1.4: a constructed element: a header, the elements in it, and the end of contents where the
-- length is indefinite
pub record IsBranch (Inner : Bool → List ℕ → Type 0) (tag : Tag)
    (contents octets : List ℕ) : Type 0 where
  pub constructed : tag.constructed ≡ true
  pub indefinite : Bool
  pub head : List ℕ
  pub header : IsHeader head tag (if indefinite then None else Some (length contents))
  pub inner : Inner indefinite contents
  pub spelled : octets ≡ head ++ contents ++ (if indefinite then end_of_contents else [])

-- an element in front of others; within an indefinite element the first 0000 is its end, and so no
-- element
pub record IsInFront (within : Bool) (First Others : List ℕ → Type 0)
    (octets : List ℕ) : Type 0 where
  pub first : List ℕ
  pub others : List ℕ
  pub here : First first
  pub apart : within ≡ true → first ≢ end_of_contents
  pub behind : Others others
  pub spelled : octets ≡ first ++ others

-- octets are these elements, with nothing left over, on `levels` levels at most
abbrev pub AreElements : Bool → ℕ → List ℕ → Forest → Type 0
AreElements within levels octets none = octets ≡ []
AreElements within zero octets (leaf tag contents others) = ⊥
AreElements within zero octets (branch tag contents children others) = ⊥
AreElements within (suc levels) octets (leaf tag contents others) =
    IsInFront within (IsLeaf tag contents)
    (λ rest. AreElements within (suc levels) rest others) octets
AreElements within (suc levels) octets (branch tag contents children others) =
    IsInFront
    within
    (IsBranch (λ indefinite body. AreElements indefinite levels body children) tag contents)
    (λ rest. AreElements within (suc levels) rest others)
    octets

-- octets are one element with its tree, on `levels` levels at most
abbrev pub IsElement : ℕ → List ℕ → Forest → Type 0
IsElement levels octets none = ⊥
IsElement levels octets (leaf tag contents others) =
    (others ≡ none) × AreElements false levels octets (leaf tag contents others)
IsElement levels octets (branch tag contents children others) =
    (others ≡ none) × AreElements false levels octets (branch tag contents children others)
