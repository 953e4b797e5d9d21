-- Which calls fail (this project's own): they are numbered from 1, and those listed fail
use Rattle.std.specs.Prelude.{ℕ, ◌+◌, ◌-◌, ◌^◌, Bool, List, ◌==◌, min}
use Rattle.std.specs.List.{list_any}

-- the number of the call after `made` calls; the last number of 64 bits stays
abbrev pub next_call : ℕ → ℕ
next_call made = min (made + 1) (2 ^ 64 - 1)

-- the call of this number is to fail
abbrev pub is_to_fail : List ℕ → ℕ → Bool
is_to_fail failing call = list_any (λ number. number == call) failing
