use Rattle.std.proofs.Common.{sym}
use Rattle.cql_parse.specs.Lexemes.{lexemes}
use Rattle.cql_parse.proofs.Syntax.{is_syntax, is_query}
use Rattle.cql_parse.proofs.parser.refusal.Goals as goal

pub returns-in-Some : goal.returns-in-Some
returns-in-Some c =
    let ts = lexemes c.args.text.now c.args.tokens.now in
    (c.in-Some.at, is_syntax ts c.in-Some.at (sym c.in-Some.ensures), c.place_of.ensures)

pub returns-in-None : goal.returns-in-None
returns-in-None c =
    let ts = lexemes c.args.text.now c.args.tokens.now in
    let q = is_query ts (sym c.in-None.ensures) in
    (q.0, q.1, c.requires q.0 q.1)
