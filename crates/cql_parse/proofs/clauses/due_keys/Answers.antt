use Rattle.std.proofs.Common.{sym, ◌∙◌, arith}
use Rattle.std.proofs.lemmas.Result.{err_from_is_err_and}
use Rattle.cql_parse.specs.Classes.{is_term}
use Rattle.cql_parse.specs.Lexemes.{lexemes, starts}
use Rattle.cql_parse.specs.Grammar.{IsKey}
use Rattle.cql_parse.proofs.Repeating.{Reading_more, Reading_done}
use Rattle.cql_parse.proofs.UniqueParts.{IsKey_unique}
use Rattle.cql_parse.proofs.Finding.{Finds_stuck, front_some, front_none}
use Rattle.cql_parse.proofs.clauses.due_keys.Goals as goal

pub returns-in_err-item-clause-found : goal.returns-in_err-item-clause-found
returns-in_err-item-clause-found c =
    let text = c.args.text.now in
    let due = front_some is_term text c.items.rest.now c.term.result c.term.ensures.front (sym c.is_some.ensures ∙ c.items-test.true) in
    let p = err_from_is_err_and c.from_residual.result c.from_residual.ensures.1 in
    rw (p.1, p.2) (Finds_stuck text (starts is_term) IsKey (lexemes text c.args.tokens.now) c.items.found (lexemes text c.items.rest.now) c.in_err-item.field-0.0 c.items.invariant.0 due c.in_err-item.ensures.found)

pub items-preserved : goal.items-preserved
items-preserved c =
    let text = c.args.text.now in
    let due = front_some is_term text c.items.rest.now c.term.result c.term.ensures.front (sym c.is_some.ensures ∙ c.items-test.true) in
    let more = Reading_more (starts is_term) IsKey IsKey_unique (lexemes text c.args.tokens.now) c.items.found (lexemes text c.items.rest.now) c.in_ok-item.item (lexemes text c.in_ok-item.behind.now) c.items.invariant.0 due c.in_ok-item.ensures.found in
    (rw c.in_ok-push.ensures.ok more, omega (arith, c.in_ok-item.ensures.shorter))

pub returns-clause-found : goal.returns-clause-found
returns-clause-found c =
    let text = c.args.text.now in
    let due = front_none is_term text c.items.rest.now c.term.result c.term.ensures.front (sym c.is_some.ensures ∙ c.items-test.false) in
    Reading_done (starts is_term) IsKey (lexemes text c.args.tokens.now) c.items.found (lexemes text c.items.rest.now) c.items.invariant.0 due
