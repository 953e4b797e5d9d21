use Rattle.std.proofs.Common.{ℕ, List, subst}
use Rattle.cql_lex.specs.Refusals as lexer
use Rattle.front_sru.proofs.WhatIsRead.{text_refused}
use Rattle.front_sru.proofs.query.rpn_of.Goals as goal

pub returns-in_ok-no_tokens-in-Err : goal.returns-in_ok-no_tokens-in-Err
returns-in_ok-no_tokens-in-Err c =
    text_refused c.args.version.now c.args.indexes.now c.args.text.now c.in-Err.fault _
    (subst (λ (text : List ℕ). lexer.IsRefusal text c.in-Err.fault) c.as_slice.ensures c.in-Err.ensures.refused)
    c.in_ok-no_tokens-in-Err.ensures
