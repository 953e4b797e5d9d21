use Rattle.std.proofs.lemmas.Result.{err_from_is_err_and}
use Rattle.cql_parse.specs.Lexemes.{lexemes}
use Rattle.cql_parse.specs.Grammar.{IsKey, AreModifiers}
use Rattle.cql_parse.specs.ParserAnswers.{lexeme_in}
use Rattle.cql_parse.proofs.Finding.{Finds_err, key_modifiers}
use Rattle.cql_parse.proofs.clauses.key.Goals as goal

pub returns-in_err-modifiers-clause-found : goal.returns-in_err-modifiers-clause-found
returns-in_err-modifiers-clause-found c =
    let text = c.args.text.now in
    let ts = lexemes text c.args.tokens.now in
    let rest = lexemes text c.in-Some.term.rest.now in
    let p = err_from_is_err_and c.from_residual-in_err-modifiers.result c.from_residual-in_err-modifiers.ensures.1 in
    rw (p.1, p.2) (Finds_err text (AreModifiers rest) (IsKey ts) c.in_err-modifiers.field-0.0 (λ k r h. (k.modifiers, r, key_modifiers ts (lexeme_in c.in-Some.term) rest k r c.in-Some.ensures.front.1 h)) c.in_err-modifiers.ensures.found)
