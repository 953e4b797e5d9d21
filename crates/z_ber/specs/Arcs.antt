-- For contracts alone: the numbers of an object identifier behind its first two (X.690:2021,
-- 8.19.2, 8.19.3). The bounds of 32 numbers and of 2^32 are this project's own.
use Rattle.std.specs.Prelude.{◌≡◌, ℕ, ◌+◌, ◌^◌, ◌≤◌, List, ◌++◌, length, map, Option, Some, None, nat_lt, IsTrue}
use Rattle.std.specs.Int.Digits.{digits_of}
use Rattle.std.specs.List.{flat_map, list_all}
use Rattle.z_ber.specs.Written.{septets}

-- octets are these numbers one after another, behind a count of numbers before them
pub record AreArcs (before : ℕ) (octets arcs : List ℕ) : Type 0 where
  pub few : before + length arcs ≤ 32
  pub small : IsTrue (list_all (λ arc. nat_lt arc (2 ^ 32)) arcs)
  pub spelled : octets ≡ flat_map septets arcs

-- 8.19.2: octets of seven bits that are followed by others
abbrev pub marked_digits : ℕ → List ℕ
marked_digits high = map (λ digit. 128 + digit) (digits_of 128 high)

-- what reading the numbers behind others answers: those and all that octets are, exactly where they
-- are some
abbrev pub AreArcsRead : List ℕ → List ℕ → Option (List ℕ) → Type 0
AreArcsRead before octets None = (more : List ℕ) → ¬ AreArcs (length before) octets more
AreArcsRead before octets (Some all) =
    (more : List ℕ) × (all ≡ before ++ more) × AreArcs (length before) octets more
