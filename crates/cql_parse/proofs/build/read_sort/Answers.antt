use Rattle.std.proofs.Common.{◌∙◌}
use Rattle.std.proofs.lemmas.Result.{err_from_is_err_and}
use Rattle.cql_parse.specs.Tree.{sorted}
use Rattle.cql_parse.specs.Lexemes.{lexemes}
use Rattle.cql_parse.specs.Grammar.{after, AreKeys}
use Rattle.cql_parse.specs.ParserAnswers.{lexeme_in}
use Rattle.std.proofs.Common.{◌∷◌}
use Rattle.cql_parse.proofs.Steps.{no_keys}
use Rattle.cql_parse.proofs.Going.{Goes_none, Goes_deep, sort_goes, sort_deep}
use Rattle.std.proofs.Common.{refl}
use Rattle.cql_parse.specs.Classes.{is_sortby}
use Rattle.cql_parse.proofs.Nested.{nesting_skip, nesting_keys}
use Rattle.cql_parse.proofs.build.read_sort.Goals as goal

pub returns-in_err-keys-clause-goes : goal.returns-in_err-keys-clause-goes
returns-in_err-keys-clause-goes c =
    let text = c.args.text.now in
    let stack = c.args.stack.now in
    let x = lexeme_in c.args.front in
    let ts = lexemes text c.args.front.rest.now in
    let p = err_from_is_err_and c.from_residual.result c.from_residual.ensures.1 in
    rw (p.1, p.2) (Goes_none text stack.brackets (after c.args.query.tree) stack.frames stack.frames (x ∷ ts) (AreKeys ts) c.in_err-keys.field-0.0 (λ none t. no_keys c.args.query.tree stack.frames x ts t c.requires none) c.in_err-keys.ensures.found)

pub returns-in_err-query-clause-goes : goal.returns-in_err-query-clause-goes
returns-in_err-query-clause-goes c =
    let text = c.args.text.now in
    let stack = c.args.stack.now in
    let x = lexeme_in c.args.front in
    let ts = lexemes text c.args.front.rest.now in
    let deep = sort_deep c.args.query.tree stack.frames x ts c.in_ok-keys.keys (lexemes text c.in_ok-keys.rest.now) c.requires c.in_ok-keys.ensures.found in
    let p = err_from_is_err_and c.from_residual-in_err-query.result c.from_residual-in_err-query.ensures.1 in
    rw (p.1, p.2) (Goes_deep text stack.brackets (after c.args.query.tree) stack.frames stack.frames (x ∷ ts) (sorted c.args.query.tree c.in_ok-keys.keys) c.in_err-query.field-0.0 deep c.in_err-query.ensures)

pub returns-clause-goes : goal.returns-clause-goes
returns-clause-goes c =
    let text = c.args.text.now in
    let stack = c.args.stack.now in
    sort_goes text stack.brackets c.args.query.tree stack.frames (lexeme_in c.args.front) (lexemes text c.args.front.rest.now) c.in_ok-keys.keys c.in_ok-keys.rest c.in_ok-query.query c.requires c.in_ok-keys.ensures.found c.in_ok-query.ensures

pub returns-clause-nested : goal.returns-clause-nested
returns-clause-nested c =
    let text = c.args.text.now in
    let n = c.args.stack.now.brackets in
    let ts = lexemes text c.args.front.rest.now in
    nesting_skip is_sortby refl refl n (lexeme_in c.args.front) ts c.requires ∙ nesting_keys n ts c.in_ok-keys.keys (lexemes text c.in_ok-keys.rest.now) c.in_ok-keys.ensures.found
