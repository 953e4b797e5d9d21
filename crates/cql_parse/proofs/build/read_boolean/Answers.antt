use Rattle.std.proofs.Common.{◌∙◌}
use Rattle.std.proofs.lemmas.Result.{err_from_is_err_and}
use Rattle.cql_parse.specs.Lexemes.{lexemes}
use Rattle.cql_parse.specs.Grammar.{after, AreModifiers}
use Rattle.cql_parse.specs.ParserAnswers.{lexeme_in}
use Rattle.std.proofs.Common.{◌∷◌}
use Rattle.cql_parse.proofs.Steps.{no_boolean}
use Rattle.cql_parse.proofs.Going.{Goes_none, boolean_goes}
use Rattle.std.proofs.Common.{refl}
use Rattle.cql_parse.specs.Classes.{is_boolean}
use Rattle.cql_parse.proofs.Nested.{nesting_skip, nesting_modifiers}
use Rattle.cql_parse.proofs.build.read_boolean.Goals as goal

pub returns-in_err-modifiers-clause-goes : goal.returns-in_err-modifiers-clause-goes
returns-in_err-modifiers-clause-goes c =
    let text = c.args.text.now in
    let stack = c.args.stack.now in
    let x = lexeme_in c.args.front in
    let ts = lexemes text c.args.front.rest.now in
    let p = err_from_is_err_and c.from_residual.result c.from_residual.ensures.1 in
    rw (p.1, p.2) (Goes_none text stack.brackets (after c.args.query.tree) stack.frames stack.frames (x ∷ ts) (AreModifiers ts) c.in_err-modifiers.field-0.0 (λ none t. no_boolean c.args.query.tree stack.frames x ts t c.requires none) c.in_err-modifiers.ensures.found)

pub returns-clause-goes : goal.returns-clause-goes
returns-clause-goes c =
    let text = c.args.text.now in
    let stack = c.args.stack.now in
    boolean_goes text stack.brackets c.args.query stack.frames (lexeme_in c.args.front) (lexemes text c.args.front.rest.now) c.in_ok-boolean.boolean c.in_ok-modifiers.modifiers c.in_ok-modifiers.rest c.requires c.in_ok-modifiers.ensures.found c.in_ok-boolean.ensures

pub returns-clause-nested : goal.returns-clause-nested
returns-clause-nested c =
    let text = c.args.text.now in
    let n = c.args.stack.now.brackets in
    let ts = lexemes text c.args.front.rest.now in
    nesting_skip is_boolean refl refl n (lexeme_in c.args.front) ts c.requires ∙ nesting_modifiers n ts c.in_ok-modifiers.modifiers (lexemes text c.in_ok-modifiers.rest.now) c.in_ok-modifiers.ensures.found
