-- Counts that never fall (this project's own)
use Rattle.std.specs.Prelude.{ℕ, ◌+◌, ◌-◌, ◌^◌, ◌≤◌, min, Bool, true, false}

-- the count rose, or stands at the last value of 64 bits
abbrev pub Rose : ℕ → ℕ → Type 0
Rose before now = min (before + 1) (2 ^ 64 - 1) ≤ now

-- one more, up to the last value of 64 bits, where the answer is one that counts
abbrev pub one_more : Bool → ℕ → ℕ
one_more true n = min (n + 1) (2 ^ 64 - 1)
one_more false n = n
