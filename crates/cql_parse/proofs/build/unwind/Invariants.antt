use Rattle.std.proofs.Common.{◌≡◌, ◌↔◌, List, length}
use Rattle.cql_parse.specs.Tree.{Tree}
use Rattle.cql_parse.specs.Lexemes.{Lexeme}
use Rattle.cql_parse.specs.ParserState.{Ends}
use Rattle.cql_parse.proofs.build.unwind.Given as goal

-- the query so far ends where the query did
abbrev pub invariant-frames : goal.invariant-frames
invariant-frames l =
    (l.fn.stack.brackets ≡ l.stack.brackets) × ((rest : List Lexeme) (t : Tree) → Ends l.fn.stack.frames l.fn.query.tree rest t ↔ Ends l.stack.frames l.query.tree rest t)

abbrev pub decreases-frames : goal.decreases-frames
decreases-frames l = length l.stack.frames
