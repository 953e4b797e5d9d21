-- Who shares a session with a target (this project's own): those who ask the same class under the
-- same login, or all without one
use Rattle.std.specs.Prelude.{ℕ, Bool, List, Option, ◌==◌, ◌&&◌}
use Rattle.z_types.specs.Logins.{same_login}

pub record Sharers : Type 0 where
  pub class : ℕ
  pub login : Option (List ℕ)

-- whether two share with the same
abbrev pub same_sharers : Sharers → Sharers → Bool
same_sharers one other = (one.class == other.class) && same_login one.login other.login
