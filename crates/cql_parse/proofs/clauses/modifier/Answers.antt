use Rattle.std.proofs.lemmas.Result.{err_from_is_err_and}
use Rattle.cql_parse.specs.Lexemes.{lexemes}
use Rattle.cql_parse.specs.Grammar.{IsName, IsModifier}
use Rattle.cql_parse.proofs.Finding.{Finds_err}
use Rattle.cql_parse.proofs.clauses.modifier.Goals as goal

pub returns-in_err-name-clause-found : goal.returns-in_err-name-clause-found
returns-in_err-name-clause-found c =
    let ts = lexemes c.args.text.now c.args.tokens.now in
    let p = err_from_is_err_and c.from_residual.result c.from_residual.ensures.1 in
    rw (p.1, p.2) (Finds_err c.args.text.now (IsName ts) (IsModifier ts) c.in_err-name.field-0.0 (λ m rest h. (m.name, h.0, h.1)) c.in_err-name.ensures.found)
