-- How deep brackets are nested within tokens (this project's own).
use Rattle.std.specs.Prelude.{ℕ, suc, ◌-◌, ◌≤◌, max, List, [], ◌∷◌, if◌then◌else◌}
use Rattle.z_types.specs.Bounds.{most_query_depth}
use Rattle.cql_parse.specs.Classes.{is_open, is_close}
use Rattle.cql_parse.specs.Lexemes.{Lexeme}

-- the most brackets that are open at once, where `open_before` are open before these tokens
abbrev pub nesting : ℕ → List Lexeme → ℕ
nesting open_before [] = open_before
nesting open_before (x ∷ rest) =
    max open_before (nesting
    (if is_open x.class then suc open_before
    else (if is_close x.class then open_before - 1 else open_before)) rest)

-- brackets are within the limit
abbrev pub HasShallowBrackets : List Lexeme → Type 0
HasShallowBrackets ts = nesting 0 ts ≤ most_query_depth
