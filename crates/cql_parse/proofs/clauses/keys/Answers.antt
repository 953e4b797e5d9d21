use Rattle.std.proofs.Common.{sym, ◌∙◌}
use Rattle.cql_parse.specs.Classes.{is_term}
use Rattle.cql_parse.specs.Lexemes.{lexemes}
use Rattle.cql_parse.proofs.Finding.{Finds_keys, front_some}
use Rattle.cql_parse.proofs.clauses.keys.Goals as goal

pub returns-then-is_some-clause-found : goal.returns-then-is_some-clause-found
returns-then-is_some-clause-found c =
    let text = c.args.text.now in
    let due = front_some is_term text c.args.tokens.now c.term.result c.term.ensures.front (sym c.is_some.ensures ∙ c.if-is_some.true) in
    Finds_keys text (lexemes text c.args.tokens.now) c.due_keys.result due c.due_keys.ensures.found
