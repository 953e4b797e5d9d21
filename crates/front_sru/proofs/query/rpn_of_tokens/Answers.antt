use Rattle.std.proofs.Common.{ℕ, List, subst}
use Rattle.cql_parse.specs.Refusals as parser
use Rattle.sru_rules.specs.Reading.{IsParsed}
use Rattle.front_sru.proofs.WhatIsRead.{tokens_good, tokens_refused}
use Rattle.front_sru.proofs.query.rpn_of_tokens.Goals as goal

pub returns-in-Ok : goal.returns-in-Ok
returns-in-Ok c =
    tokens_good c.args.version.now c.args.indexes.now c.args.text.now c.args.tokens.now c.in-Ok.tree _ c.requires
    (subst (λ (text : List ℕ). IsParsed text c.args.tokens.now c.in-Ok.tree) c.as_slice.ensures (record {
      is_query = c.in-Ok.ensures.tree;
      levels = c.in-Ok.ensures.levels;
      brackets = c.in-Ok.ensures.brackets;
    }))
    c.rpn_of_tree.ensures

pub returns-in_ok-no_tree-in-Err : goal.returns-in_ok-no_tree-in-Err
returns-in_ok-no_tree-in-Err c =
    tokens_refused c.args.version.now c.args.indexes.now c.args.text.now c.args.tokens.now c.in-Err.fault _ c.requires
    (subst (λ (text : List ℕ). parser.IsRefusal text c.args.tokens.now c.in-Err.fault) c.as_slice.ensures
    c.in-Err.ensures.refused)
    c.in_ok-no_tree-in-Err.ensures
