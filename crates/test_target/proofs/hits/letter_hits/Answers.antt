use Rattle.std.proofs.Common.{◌∙◌, ap, min, sum_by, List, Bool, [], ◌∷◌}
use Rattle.z_types.specs.Tree.{leaf}
use Rattle.z_types.specs.declared.query.Term.TheVariants.{General}
use Rattle.test_target.specs.Searches.{found_of}
use Rattle.test_target.proofs.FoundLemmas.{hits_by_marks}
use Rattle.test_target.proofs.hits.letter_hits.Goals as goal

pub returns : goal.returns
returns c =
    c.count_hits.ensures ∙ ap (λ (marks : List Bool). min (sum_by (found_of c.args.target marks) c.args.names.now) 2147483647) (c.as_slice.ensures.value ∙ c.in_ok-found.ensures) ∙ hits_by_marks c.args.target (leaf c.args.attrs.now (General (c.args.letter ∷ []))) c.args.names.now
