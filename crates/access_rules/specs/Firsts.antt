-- For contracts alone: the first place, as it is found by one who looks at every place (this
-- project's own)
use Rattle.std.specs.Prelude.{ℕ, Bool, Option, None, Some, if◌then◌else◌}

-- what was found, or else a place where it is one
abbrev pub first_of : Option ℕ → Bool → ℕ → Option ℕ
first_of (Some first) is_one place = Some first
first_of None is_one place = if is_one then Some place else None
