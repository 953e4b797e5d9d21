-- For contracts alone: what stands in a text of an element whose contents have a length that is
-- known and are to follow (X.690:2021, 8.1.1)
use Rattle.std.specs.Prelude.{◌≡◌, ℕ, List, ◌++◌, length}
use Rattle.z_ber.specs.declared.tag.Tag.{Tag}
use Rattle.z_ber.specs.Written.{element}

-- a text is such that any contents of this length, put behind it, make it the old one with the
-- element
abbrev pub Opens : List ℕ → Tag → ℕ → List ℕ → Type 0
Opens old tag len new =
    (contents : List ℕ) → length contents ≡ len → new ++ contents ≡ old ++ element tag contents

-- the length of an element whose contents have a length
abbrev pub IsElementLength : Tag → ℕ → ℕ → Type 0
IsElementLength tag len total =
    (contents : List ℕ) → length contents ≡ len → total ≡ length (element tag contents)
