use Rattle.std.proofs.Common.{ℕ, List, Option}
use Rattle.std.proofs.lemmas.Result.{err_from_is_err_and}
use Rattle.cql_parse.specs.declared.tree.Head.{Head}
use Rattle.cql_parse.specs.Lexemes.{lexemes}
use Rattle.cql_parse.specs.Grammar.{operand, join, IsClause}
use Rattle.cql_parse.specs.ParserState.{left_of}
use Rattle.std.proofs.Common.{option_map}
use Rattle.cql_parse.proofs.Steps.{no_clause}
use Rattle.cql_parse.proofs.Going.{Goes_none, Goes_deep, clause_goes, clause_deep}
use Rattle.cql_parse.proofs.Nested.{nesting_clause}
use Rattle.cql_parse.proofs.build.read_clause.Goals as goal

pub returns-in_err-head-clause-goes : goal.returns-in_err-head-clause-goes
returns-in_err-head-clause-goes c =
    let text = c.args.text.now in
    let stack = c.args.stack.now in
    let ts = lexemes text c.args.tokens.now in
    let left = option_map left_of c.args.left in
    let p = err_from_is_err_and c.from_residual.result c.from_residual.ensures.1 in
    rw (p.1, p.2) (Goes_none text stack.brackets (operand left) stack.frames stack.frames ts (λ (q : Option Head × List ℕ). IsClause ts q.0 q.1) c.in_err-head.field-0.0 (λ none t. no_clause left stack.frames ts t c.requires.«open» c.requires.sign none) c.in_err-head.ensures.found)

pub returns-in_err-query-clause-goes : goal.returns-in_err-query-clause-goes
returns-in_err-query-clause-goes c =
    let text = c.args.text.now in
    let stack = c.args.stack.now in
    let ts = lexemes text c.args.tokens.now in
    let left = option_map left_of c.args.left in
    let deep = clause_deep c.args.left stack.frames ts c.in_ok-head.head c.in_ok-head.term (lexemes text c.in_ok-head.rest.now) c.clause-2.result.tree c.in_ok-head.ensures.found c.clause-2.ensures in
    let p = err_from_is_err_and c.from_residual-in_err-query.result c.from_residual-in_err-query.ensures.1 in
    rw (p.1, p.2) (Goes_deep text stack.brackets (operand left) stack.frames stack.frames ts (join left c.clause-2.result.tree) c.in_err-query.field-0.0 deep c.in_err-query.ensures)

pub returns-clause-goes : goal.returns-clause-goes
returns-clause-goes c =
    let text = c.args.text.now in
    let stack = c.args.stack.now in
    clause_goes text stack.brackets c.args.left stack.frames (lexemes text c.args.tokens.now) c.in_ok-head.head c.in_ok-head.term c.in_ok-head.rest c.in_ok-query.query c.clause-2.result.tree c.in_ok-head.ensures.found c.in_ok-query.ensures c.clause-2.ensures

pub returns-clause-nested : goal.returns-clause-nested
returns-clause-nested c =
    let text = c.args.text.now in
    nesting_clause c.args.stack.now.brackets (lexemes text c.args.tokens.now) c.in_ok-head.head c.in_ok-head.term (lexemes text c.in_ok-head.rest.now) c.in_ok-head.ensures.found
