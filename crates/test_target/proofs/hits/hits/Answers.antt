use Rattle.std.proofs.Common.{◌∙◌, ap, min, sum_by, List, Bool}
use Rattle.test_target.specs.Searches.{found_of}
use Rattle.test_target.proofs.FoundLemmas.{hits_by_marks}
use Rattle.test_target.proofs.hits.hits.Goals as goal

pub returns : goal.returns
returns c =
    c.count_hits.ensures ∙ ap (λ (marks : List Bool). min (sum_by (found_of c.args.target marks) c.args.names.now) 2147483647) (c.as_slice.ensures.value ∙ c.in_ok-found.ensures) ∙ hits_by_marks c.args.target c.args.query.now c.args.names.now
