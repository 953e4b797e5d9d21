use Rattle.std.proofs.Common.{◌≡◌, ◌↔◌, ◌∷◌, Ok, option_map, subst}
use Rattle.std.proofs.lemmas.Result.{err_from_is_err_and}
use Rattle.cql_parse.specs.declared.frame.Ended.{Ended}
use Rattle.cql_parse.specs.declared.frame.Ended.TheVariants.{Inner}
use Rattle.cql_parse.specs.Lexemes.{lexemes}
use Rattle.cql_parse.specs.Grammar.{after, join}
use Rattle.cql_parse.specs.ParserAnswers.{lexeme_in}
use Rattle.cql_parse.specs.ParserState.{left_of, Unwinds}
use Rattle.cql_parse.proofs.Going.{Goes_deep, close_goes, close_deep}
use Rattle.std.proofs.Common.{◌+◌, ◌-◌, ◌<◌, ℕ, arith}
use Rattle.cql_parse.specs.Nesting.{nesting}
use Rattle.cql_parse.specs.ParserState.{closed_in}
use Rattle.cql_parse.proofs.Nested.{nesting_close}
use Rattle.cql_parse.proofs.build.close_bracket.Goals as goal
use Rattle.z_types.specs.Bounds.{most_query_depth}

pub returns-in_err-query-in-Inner-clause-goes : goal.returns-in_err-query-in-Inner-clause-goes
returns-in_err-query-in-Inner-clause-goes c =
    let text = c.args.text.now in
    let old = c.args.stack.now in
    let new = c.unwind.new.stack.frames in
    let x = lexeme_in c.args.front in
    let ts = lexemes text c.args.front.rest.now in
    let w = c.in-Inner in
    let u : Unwinds c.args.query.tree old.frames new (Ok (Inner w.left w.query)) = subst (λ (z : Ended). Unwinds c.args.query.tree old.frames new (Ok z)) w.is c.in_ok-left.ensures.unwinds in
    let deep = close_deep c.args.query.tree old.frames new x w.left w.query ts c.requires u in
    let p = err_from_is_err_and c.from_residual-in_err-query-in-Inner.result c.from_residual-in_err-query-in-Inner.ensures.1 in
    rw (p.1, p.2) (Goes_deep text old.brackets (after c.args.query.tree) old.frames new (x ∷ ts) (join (option_map left_of w.left) w.query.tree) c.in_err-query-in-Inner.field-0.0 deep c.in_err-query-in-Inner.ensures)

pub returns-in-Inner-clause-goes : goal.returns-in-Inner-clause-goes
returns-in-Inner-clause-goes c =
    let text = c.args.text.now in
    let old = c.args.stack.now in
    let new = c.unwind.new.stack.frames in
    let w = c.in-Inner in
    let u : Unwinds c.args.query.tree old.frames new (Ok (Inner w.left w.query)) = subst (λ (z : Ended). Unwinds c.args.query.tree old.frames new (Ok z)) w.is c.in_ok-left.ensures.unwinds in
    close_goes text old.brackets c.args.query.tree old.frames new (lexeme_in c.args.front) w.left w.query c.in_ok-query-in-Inner.query c.args.front.rest c.requires u c.in_ok-query-in-Inner.ensures

pub returns-in-Inner-clause-nested : goal.returns-in-Inner-clause-nested
returns-in-Inner-clause-nested c =
    let n = c.args.stack.now.brackets in
    let m = c.unwind.new.stack.brackets in
    let x = lexeme_in c.args.front in
    let ts = lexemes c.args.text.now c.args.front.rest.now in
    let one : n ≡ m + 1 = subst (λ (z : Ended). n ≡ m + closed_in z) c.in-Inner.is c.in_ok-left.ensures.brackets in
    let less : n - 1 ≡ m = omega (arith, one) in
    subst (λ (k : ℕ). (most_query_depth < nesting n (x ∷ ts)) ↔ (most_query_depth < nesting k ts)) less (nesting_close n x ts c.are_few.ensures c.requires)
