use Rattle.cql_parse.proofs.build.step.Goals as goal

pub returns-in-Operand-clause-goes : goal.returns-in-Operand-clause-goes
returns-in-Operand-clause-goes c = rw c.in-Operand.is c.operand.ensures.goes

pub returns-in-After-clause-goes : goal.returns-in-After-clause-goes
returns-in-After-clause-goes c = rw c.in-After.is c.behind.ensures.goes
