use Rattle.std.proofs.Common.{◌≤◌, length}
use Rattle.cql_parse.specs.Classes.{is_term}
use Rattle.cql_parse.specs.Lexemes.{lexemes, starts}
use Rattle.cql_parse.specs.Grammar.{IsKey}
use Rattle.cql_parse.proofs.Repeating.{Reading}
use Rattle.cql_parse.proofs.clauses.due_keys.Given as goal

-- the items so far, and those to come
abbrev pub invariant-items : goal.invariant-items
invariant-items l =
    Reading (starts is_term) IsKey (lexemes l.text l.tokens) l.found (lexemes l.text l.rest) × (length l.rest ≤ length l.tokens)

abbrev pub decreases-items : goal.decreases-items
decreases-items l = length l.rest
