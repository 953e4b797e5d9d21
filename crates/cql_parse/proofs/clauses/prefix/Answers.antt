use Rattle.std.proofs.Common.{ℕ, List, ◌∷◌, Option, sym, ◌∙◌, ap}
use Rattle.std.proofs.lemmas.Result.{err_from_is_err_and}
use Rattle.cql_parse.specs.Classes.{is_equal}
use Rattle.cql_parse.specs.Lexemes.{Lexeme, lexemes}
use Rattle.cql_parse.specs.Grammar.{IsPrefix, IsNamedPrefix}
use Rattle.cql_parse.specs.ParserAnswers.{lexeme_in}
use Rattle.cql_parse.proofs.Finding.{Finds_err, front_some, prefix_named}
use Rattle.cql_parse.proofs.clauses.prefix.Goals as goal

pub returns-in_err-name-clause-found : goal.returns-in_err-name-clause-found
returns-in_err-name-clause-found c =
    let text = c.args.text.now in
    let ts = lexemes text c.args.tokens.now in
    let sign = lexeme_in c.in-Some.sign in
    let first = lexeme_in c.in-Some-term.first in
    let due = front_some is_equal text c.in-Some-term.first.rest.now c.equal.result c.equal.ensures.front (sym c.is_some.ensures ∙ c.if-is_some.true) in
    let tokens = c.in-Some.ensures.front.1 ∙ ap (λ (t : List Lexeme). sign ∷ t) c.in-Some-term.ensures.front.1 in
    let p = err_from_is_err_and c.from_residual.result c.from_residual.ensures.1 in
    rw (p.1, p.2) (Finds_err text (λ (q : List ℕ × List ℕ). IsNamedPrefix ts q.0 q.1) (λ (q : Option (List ℕ) × List ℕ). IsPrefix ts q.0 q.1) c.in_err-name.field-0.0 (prefix_named ts sign first (lexemes text c.in-Some-term.first.rest.now) tokens due) c.in_err-name.ensures.found)
