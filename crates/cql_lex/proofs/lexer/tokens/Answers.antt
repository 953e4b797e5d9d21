use Rattle.std.proofs.Common.{⊎_elim, arith}
use Rattle.std.proofs.lemmas.Bool.{cases_lt}
use Rattle.cql_lex.proofs.lexer.tokens.Goals as goal

pub returns-in-Err-clause-refused : goal.returns-in-Err-clause-refused
returns-in-Err-clause-refused c =
    let v = c.in-Err.ensures.cases.1 in
    rw c.valid_up_to.ensures (c.in-Err.ensures.cases.0, (omega (arith, v.short), v.front, λ longer le u. ⊎_elim (λ above. absurd (v.longest longer above u)) (λ below. below) (cases_lt c.in-Err.error.valid_up_to longer)))
