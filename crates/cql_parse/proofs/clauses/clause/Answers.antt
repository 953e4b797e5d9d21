use Rattle.std.proofs.Common.{ℕ, List, Option, sym, ◌∙◌}
use Rattle.std.proofs.lemmas.Result.{err_from_is_err_and}
use Rattle.cql_parse.specs.declared.tree.Head.{Head}
use Rattle.cql_parse.specs.Classes.{is_relation}
use Rattle.cql_parse.specs.Lexemes.{lexemes}
use Rattle.cql_parse.specs.Grammar.{IsClause, IsComparison}
use Rattle.cql_parse.specs.ParserAnswers.{lexeme_in}
use Rattle.cql_parse.proofs.Finding.{Finds_err, front_some, clause_compared}
use Rattle.cql_parse.proofs.clauses.clause.Goals as goal

pub returns-in_err-head-clause-found : goal.returns-in_err-head-clause-found
returns-in_err-head-clause-found c =
    let text = c.args.text.now in
    let ts = lexemes text c.args.tokens.now in
    let rest = c.in-Some.first.rest.now in
    let due = front_some is_relation text rest c.relation.result c.relation.ensures.front (sym c.is_some.ensures ∙ c.if-is_some.true) in
    let p = err_from_is_err_and c.from_residual.result c.from_residual.ensures.1 in
    rw (p.1, p.2) (Finds_err text (λ (d : Head × List ℕ). IsComparison ts d.0 d.1) (λ (d : Option Head × List ℕ). IsClause ts d.0 d.1) c.in_err-head.field-0.0 (clause_compared ts (lexeme_in c.in-Some.first) (lexemes text rest) c.in-Some.ensures.front.1 due) c.in_err-head.ensures.found)
