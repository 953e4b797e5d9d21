use Rattle.std.proofs.Common.{ℕ, List, ◌∷◌, ◌∙◌, ap}
use Rattle.std.proofs.lemmas.Result.{err_from_is_err_and}
use Rattle.cql_parse.specs.declared.tree.Head.{Head}
use Rattle.cql_parse.specs.Lexemes.{Lexeme, lexemes}
use Rattle.cql_parse.specs.Grammar.{IsComparison, AreModifiers}
use Rattle.cql_parse.specs.ParserAnswers.{lexeme_in}
use Rattle.cql_parse.proofs.Finding.{Finds_err, comparison_modifiers, comparison_stuck}
use Rattle.cql_parse.proofs.clauses.comparison.Goals as goal

pub returns-in_err-modifiers-clause-found : goal.returns-in_err-modifiers-clause-found
returns-in_err-modifiers-clause-found c =
    let text = c.args.text.now in
    let ts = lexemes text c.args.tokens.now in
    let index = lexeme_in c.in-Some.index in
    let relation = lexeme_in c.in-Some-relation.relation in
    let more = lexemes text c.in-Some-relation.relation.rest.now in
    let tokens = c.in-Some.ensures.front.1 ∙ ap (λ (t : List Lexeme). index ∷ t) c.in-Some-relation.ensures.front.1 in
    let p = err_from_is_err_and c.from_residual.result c.from_residual.ensures.1 in
    rw (p.1, p.2) (Finds_err text (AreModifiers more) (λ (d : Head × List ℕ). IsComparison ts d.0 d.1) c.in_err-modifiers.field-0.0 (λ d rest h. let w = comparison_modifiers ts index relation more d rest tokens h in (w.0, w.1, w.2)) c.in_err-modifiers.ensures.found)

pub returns-in_default-term-clause-found : goal.returns-in_default-term-clause-found
returns-in_default-term-clause-found c =
    let text = c.args.text.now in
    let ts = lexemes text c.args.tokens.now in
    let index = lexeme_in c.in-Some.index in
    let relation = lexeme_in c.in-Some-relation.relation in
    let more = lexemes text c.in-Some-relation.relation.rest.now in
    let tokens = c.in-Some.ensures.front.1 ∙ ap (λ (t : List Lexeme). index ∷ t) c.in-Some-relation.ensures.front.1 in
    comparison_stuck ts index relation more c.in_ok-modifiers.modifiers (lexemes text c.in_ok-modifiers.rest.now) tokens c.in_ok-modifiers.ensures.found c.in_default-term.ensures.front
