-- For contracts alone: what the books of a locked pool and the shares of its doors keep
-- (this project's own)
use Rattle.std.specs.Prelude.{◌≡◌, ◌≢◌, ℕ, ◌+◌, ◌-◌, ◌^◌, ◌≤◌, min, Bool, true, false}
use Rattle.z_types.specs.Counts.{one_more}
use Rattle.pool_sets.specs.Counts.{DoorCounts}

-- an amount of a ledger, which ends nowhere, as a count of 64 bits holds it
abbrev pub counted : ℕ → ℕ
counted n = min n (2 ^ 64 - 1)

-- the counts of a door whose ledgers have these amounts
abbrev pub counts_of : ℕ → ℕ → ℕ → ℕ → DoorCounts
counts_of most fulls opens booked =
    record { most = most; fulls = counted fulls; opens = counted opens; booked = counted booked }

-- one more in a ledger, where it happened
abbrev pub plus : Bool → ℕ → ℕ
plus true n = n + 1
plus false n = n

-- an amount is one more where it happened, and so is the count of it
abbrev pub IsNoted : Bool → ℕ → ℕ → Type 0
IsNoted happened old new =
    (new ≡ plus happened old) × (counted new ≡ one_more happened (counted old))

-- where a pool was full, it had opened as many sessions as there may be
abbrev pub FullOpens : ℕ → ℕ → ℕ → Type 0
FullOpens most fulls opens = fulls ≢ 0 → most ≤ opens
