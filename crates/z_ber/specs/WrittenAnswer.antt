-- For contracts alone: what reading an element in its written form answers (X.690:2021, 10.1).
use Rattle.std.specs.Prelude.{◌≡◌, ℕ, List, ◌++◌, Option, Some, None}
use Rattle.z_ber.specs.declared.tag.Tag.{Tag}
use Rattle.z_ber.specs.declared.tag.WrittenElement.{WrittenElement}
use Rattle.z_ber.specs.Written.{IsTag, element}

-- the element in its written form that octets begin with, exactly where they begin with one
abbrev pub IsWrittenAnswer : List ℕ → Option WrittenElement → Type 0
IsWrittenAnswer octets None =
    (tag : Tag) (contents rest : List ℕ) → IsTag tag → octets ≡ element tag contents ++ rest → ⊥
IsWrittenAnswer octets (Some found) =
    IsTag found.tag × (octets ≡ element found.tag found.contents.now ++ found.rest.now)
