-- When two octet strings, object identifiers or lists of places are one (this project's own)
use Rattle.std.specs.Prelude.{ℕ, ◌==◌, Bool, List}
use lib.Pointwise.{pointwise}

-- they are one, item by item
abbrev pub is_same : List ℕ → List ℕ → Bool
is_same = pointwise ◌==◌
