-- For contracts alone: tokens as spans of a text (this project's own).
use Rattle.std.specs.Prelude.{ℕ, ◌<◌, ◌≤◌}
use Rattle.cql_lex.specs.declared.token.Token.{Token}

-- at least one octet, within a text of this length
pub record IsSpan (len : ℕ) (t : Token) : Type 0 where
  pub some : t.start < t.end
  pub within : t.end ≤ len

-- one token ends where another starts, or before
abbrev pub EndsBefore : Token → Token → Type 0
EndsBefore t u = t.end ≤ u.start
