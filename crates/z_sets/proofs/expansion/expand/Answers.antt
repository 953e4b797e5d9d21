use Rattle.std.proofs.Common.{sym, subst, ◌∙◌, List}
use Rattle.z_types.specs.declared.known_set.KnownSet.{KnownSet}
use Rattle.z_sets.specs.Expansion.{IsExpansion}
use Rattle.z_sets.proofs.AskableLemmas.{askable-expansion}
use Rattle.z_sets.proofs.ExpansionLemmas.{expansion-none}
use Rattle.z_sets.proofs.expansion.expand.Goals as goal

pub returns-then-names_a_set-clause-askable : goal.returns-then-names_a_set-clause-askable
returns-then-names_a_set-clause-askable c =
    askable-expansion c.args.query.now c.args.legs.now c.args.sets.now c.expand_among.result
    (subst (λ (sets : List KnownSet). IsExpansion c.args.query.now c.args.legs.now sets c.expand_among.result) c.as_slice.ensures c.expand_among.ensures)

pub returns-else-names_a_set-clause-expansion : goal.returns-else-names_a_set-clause-expansion
returns-else-names_a_set-clause-expansion c =
    expansion-none c.args.query.now c.args.legs.now c.args.sets.now c.expand_among-else-names_a_set.result
    (sym c.names_a_set.ensures ∙ c.if-names_a_set.false) c.expand_among-else-names_a_set.ensures

pub returns-else-names_a_set-clause-askable : goal.returns-else-names_a_set-clause-askable
returns-else-names_a_set-clause-askable c =
    askable-expansion c.args.query.now c.args.legs.now c.args.sets.now c.expand_among-else-names_a_set.result
    (expansion-none c.args.query.now c.args.legs.now c.args.sets.now c.expand_among-else-names_a_set.result
    (sym c.names_a_set.ensures ∙ c.if-names_a_set.false) c.expand_among-else-names_a_set.ensures)
