use Rattle.std.proofs.Common.{ℕ, List, Option, sym, ◌∙◌}
use Rattle.std.proofs.lemmas.Result.{err_from_is_err_and}
use Rattle.cql_parse.specs.Lexemes.{lexemes}
use Rattle.cql_parse.specs.Grammar.{operand, IsPrefix}
use Rattle.cql_parse.specs.ParserState.{left_of}
use Rattle.std.proofs.Common.{option_map}
use Rattle.cql_parse.proofs.Steps.{no_prefix}
use Rattle.cql_parse.proofs.Going.{Goes_none, prefix_goes}
use Rattle.std.proofs.Common.{ap}
use Rattle.cql_parse.specs.Nesting.{nesting}
use Rattle.cql_parse.proofs.Nested.{nesting_prefix, same_limit}
use Rattle.cql_parse.proofs.build.assign_prefix.Goals as goal

pub returns-in_err-name-clause-goes : goal.returns-in_err-name-clause-goes
returns-in_err-name-clause-goes c =
    let text = c.args.text.now in
    let old = c.args.stack.now in
    let ts = lexemes text c.args.tokens.now in
    let left = option_map left_of c.args.left in
    let p = err_from_is_err_and c.from_residual.result c.from_residual.ensures.1 in
    rw (p.1, p.2) (Goes_none text old.brackets (operand left) old.frames old.frames ts (λ (q : Option (List ℕ) × List ℕ). IsPrefix ts q.0 q.1) c.in_err-name.field-0.0 (λ none t. no_prefix left old.frames ts t c.requires none) c.in_err-name.ensures.found)

pub returns-clause-goes : goal.returns-clause-goes
returns-clause-goes c =
    let text = c.args.text.now in
    let old = c.args.stack.now in
    prefix_goes text old.brackets c.args.left old.frames c.push_prefix.new.self.frames (lexemes text c.args.tokens.now) c.in_ok-name.name c.in_ok-name.uri c.in_ok-name.rest c.in_ok-name.ensures.found c.in_ok-push_prefix.ensures.frames

pub returns-clause-nested : goal.returns-clause-nested
returns-clause-nested c =
    let text = c.args.text.now in
    let n = c.args.stack.now.brackets in
    let ts = lexemes text c.args.tokens.now in
    let rest = lexemes text c.in_ok-name.rest.now in
    let skipped = nesting_prefix n ts c.in_ok-name.name c.in_ok-name.uri rest c.in_ok-name.ensures.found in
    same_limit (nesting n ts) (nesting c.push_prefix.new.self.brackets rest) (skipped ∙ ap (λ (k : ℕ). nesting k rest) (sym c.push_prefix.ensures.brackets))
