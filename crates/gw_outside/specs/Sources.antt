-- What a source gives (this project's own)
use Rattle.std.specs.Prelude.{◌≡◌, ℕ, ◌≤◌, List, [], ◌++◌, Option, None, Some, option_map, length, take, drop}
use Rattle.gw_outside.specs.declared.sources.Got.{Got}
use Rattle.gw_outside.specs.declared.sources.Got.TheVariants.{Bytes, End, Failed}

-- the octets were the first that were left, where these are told
abbrev pub Gave : Option (List ℕ) → List ℕ → Option (List ℕ) → Type 0
Gave None piece new = new ≡ None
Gave (Some left) piece new = (rest : List ℕ) × (left ≡ piece ++ rest) × (new ≡ Some rest)

-- nothing was left, where that is told
abbrev pub HasEnded : Option (List ℕ) → Type 0
HasEnded None = Unit {0}
HasEnded (Some left) = left ≡ []

-- the answer to a read: the next octets stand at the buffer's front, or nothing was left, or
-- nothing was read
abbrev pub GotFits : Option (List ℕ) → Option (List ℕ) → List ℕ → List ℕ → Got → Type 0
GotFits old new before after (Bytes count) =
    (1 ≤ count) × (count ≤ length before) × (drop count after ≡ drop count before)
    × Gave old (take count after) new
GotFits old new before after End = HasEnded old × (new ≡ old) × (after ≡ before)
GotFits old new before after Failed = (new ≡ old) × (after ≡ before)

-- what was given after a read into a buffer
abbrev pub given_after : List ℕ → Got → Option (List ℕ) → Option (List ℕ)
given_after into (Bytes count) given = option_map (λ before. before ++ take count into) given
given_after into End given = given
given_after into Failed given = given
