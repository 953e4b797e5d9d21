-- How many records are shown with a Search (ANSI/NISO Z39.50-2003, 3.2.2 Search,
-- Small-set-upper-bound and its like)
use Rattle.std.specs.Prelude.{ℕ, nat_le, min, if◌then◌else◌}

-- all of a small set, none of a large one, and of a medium one the medium-set-present-number; small
-- is tested first
abbrev pub shown : (count small large medium : ℕ) → ℕ
shown count small large medium =
    if nat_le count small then count
    else if nat_le large count then 0
    else min medium count
