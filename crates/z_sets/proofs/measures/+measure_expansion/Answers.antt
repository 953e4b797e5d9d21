use Rattle.std.proofs.Common.{inl, inr, rules}
use Rattle.z_sets.proofs.MeasureLemmas.{measures_in-and, measures_in-or, measures_in-and_not}
use Rattle.z_sets.proofs.measures.+measure_expansion.Goals as goal

pub returns-in_ok-right-in-And : goal.returns-in_ok-right-in-And
returns-in_ok-right-in-And t c =
    elim c.in-And.is [
      | inl h ↦ search (rules, measures_in-and)
      | inr h ↦ elim h [
        | inl k ↦ search (rules, measures_in-or)
        | inr k ↦ search (rules, measures_in-and_not)
      ]
    ]
