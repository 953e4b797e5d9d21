use Rattle.std.proofs.Common.{arith}
use Rattle.cql_lex.proofs.OneReading.{LeadsTo_push, next_from}
use Rattle.cql_lex.proofs.SpanLemmas.{leads_spans}
use Rattle.cql_lex.proofs.lexer.split.Goals as goal

pub loop-found-preserved : goal.loop-found-preserved
loop-found-preserved c =
    let next = next_from c.args.text.now c.loop-found.at c.next_start-start.result c.in-Some.token c.next_start-start.ensures.start (omega arith) c.in-Some.ensures.token in
    let more = LeadsTo_push c.args.text.now 0 c.loop-found.found c.loop-found.at c.in-Some.token c.loop-found.invariant.1 next in
    (omega (arith, c.in-Some.ensures.end), rw c.in_ok-push.ensures.ok more)

pub returns-then-start-text-clause-spans : goal.returns-then-start-text-clause-spans
returns-then-start-text-clause-spans c =
    (leads_spans c.args.text.now 0 c.loop-found.found c.loop-found.at (omega arith) c.loop-found.invariant.1).spans

pub returns-then-start-text-clause-order : goal.returns-then-start-text-clause-order
returns-then-start-text-clause-order c =
    (leads_spans c.args.text.now 0 c.loop-found.found c.loop-found.at (omega arith) c.loop-found.invariant.1).in_order
