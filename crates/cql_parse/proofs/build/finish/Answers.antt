use Rattle.std.proofs.Common.{Ok, subst}
use Rattle.cql_parse.specs.declared.frame.Ended.{Ended}
use Rattle.cql_parse.specs.declared.frame.Ended.TheVariants.{Inner, Whole}
use Rattle.cql_parse.specs.ParserState.{Unwinds}
use Rattle.cql_parse.proofs.Going.{finish_whole, finish_inner}
use Rattle.cql_parse.proofs.build.finish.Goals as goal

pub returns-in-Whole-clause-finishes : goal.returns-in-Whole-clause-finishes
returns-in-Whole-clause-finishes c =
    let old = c.args.stack.now.frames in
    let new = c.unwind.new.stack.frames in
    let q = c.in-After.query.tree in
    let u : Unwinds q old new (Ok (Whole c.in-Whole.query)) = subst (λ (z : Ended). Unwinds q old new (Ok z)) c.in-Whole.is c.in_ok-query.ensures.unwinds in
    rw c.in-After.is (finish_whole q old new c.in-Whole.query u)

pub returns-clause-finishes : goal.returns-clause-finishes
returns-clause-finishes c =
    let old = c.args.stack.now.frames in
    let new = c.unwind.new.stack.frames in
    let q = c.in-After.query.tree in
    let u : Unwinds q old new (Ok (Inner c.in-Inner.field-0 c.in-Inner.field-1)) = subst (λ (z : Ended). Unwinds q old new (Ok z)) c.in-Inner.is c.in_ok-query.ensures.unwinds in
    rw c.in-After.is (finish_inner q old new c.in-Inner.field-0 c.in-Inner.field-1 u)
