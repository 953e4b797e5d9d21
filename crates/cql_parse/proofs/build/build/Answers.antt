use Rattle.std.proofs.Common.{◌≡◌, ◌↔◌, ◌<◌, List, [], length, sym, ◌∙◌, subst}
use Rattle.std.proofs.lemmas.Bool.{eqb-true}
use Rattle.std.proofs.lemmas.List.{nil_from_length}
use Rattle.std.proofs.lemmas.Result.{err_from_is_err_and}
use Rattle.cql_lex.specs.declared.token.Token.{Token}
use Rattle.cql_parse.specs.Tree.{Tree}
use Rattle.cql_parse.specs.Lexemes.{lexemes}
use Rattle.cql_parse.specs.Grammar.{IsQuery}
use Rattle.cql_parse.specs.Nesting.{nesting}
use Rattle.cql_parse.specs.ParserState.{due_of, Completes}
use Rattle.cql_parse.proofs.Going.{query_more, query_err, query_done}
use Rattle.cql_parse.proofs.build.build.Goals as goal
use Rattle.z_types.specs.Bounds.{most_query_depth}

pub returns-in_err-next : goal.returns-in_err-next
returns-in_err-next c =
    let text = c.args.text.now in
    let p = err_from_is_err_and c.from_residual.result c.from_residual.ensures.1 in
    rw (p.1, p.2) (query_err text (lexemes text c.args.tokens.now) (due_of c.parts.state) c.parts.stack.frames c.step.new.stack.frames (lexemes text c.parts.rest.now) c.parts.stack.brackets c.in_err-next.field-0.0 c.parts.invariant.0 c.parts.invariant.1 c.in_err-next.ensures.goes)

pub parts-preserved : goal.parts-preserved
parts-preserved c =
    let text = c.args.text.now in
    let nested = c.in_ok-next.ensures.nested in
    let before = c.parts.invariant.1 in
    (query_more text (lexemes text c.args.tokens.now) (due_of c.parts.state) c.parts.stack.frames c.step.new.stack.frames (lexemes text c.parts.rest.now) c.parts.stack.brackets c.in_ok-next.next c.in_ok-next.left c.parts.invariant.0 c.in_ok-next.ensures.goes, (λ h. nested.0 (before.0 h), λ h. before.1 (nested.1 h)))

pub returns : goal.returns
returns c =
    let text = c.args.text.now in
    let all = lexemes text c.args.tokens.now in
    let due = due_of c.parts.state in
    let frames = c.parts.stack.frames in
    let n = c.parts.stack.brackets in
    let none : c.parts.rest.now ≡ [] = nil_from_length c.parts.rest.now (eqb-true (length c.parts.rest.now) 0 (sym c.is_empty.ensures ∙ c.parts-test.false)) in
    let same = subst (λ (r : List Token). (t : Tree) → IsQuery all t ↔ Completes due frames (lexemes text r) t) none c.parts.invariant.0 in
    let nest = subst (λ (r : List Token). (most_query_depth < nesting 0 all) ↔ (most_query_depth < nesting n (lexemes text r))) none c.parts.invariant.1 in
    query_done all due frames n c.finish.result same nest c.are_few.ensures c.finish.ensures.shallow c.finish.ensures.finishes
