use Rattle.std.proofs.Common.{◌↔◌, ◌<◌, length}
use Rattle.cql_parse.specs.Tree.{Tree}
use Rattle.cql_parse.specs.Lexemes.{lexemes}
use Rattle.cql_parse.specs.Grammar.{IsQuery}
use Rattle.cql_parse.specs.Nesting.{nesting}
use Rattle.cql_parse.specs.ParserState.{due_of, Completes}
use Rattle.cql_parse.proofs.build.build.Given as goal
use Rattle.z_types.specs.Bounds.{most_query_depth}

-- the tokens left make the same trees of what is read, and the same nesting
abbrev pub invariant-parts : goal.invariant-parts
invariant-parts l =
    ((t : Tree) → IsQuery (lexemes l.text l.tokens) t ↔ Completes (due_of l.state) l.stack.frames (lexemes l.text l.rest) t)
    × ((most_query_depth < nesting 0 (lexemes l.text l.tokens)) ↔ (most_query_depth < nesting l.stack.brackets (lexemes l.text l.rest)))

abbrev pub decreases-parts : goal.decreases-parts
decreases-parts l = length l.rest
