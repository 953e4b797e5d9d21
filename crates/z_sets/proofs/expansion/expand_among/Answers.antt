use Rattle.std.proofs.Common.{rules}
use Rattle.z_sets.proofs.ExpansionLemmas.{test_fails, built}
use Rattle.z_sets.proofs.expansion.expand_among.Goals as goal

pub returns-in_err-test_measures : goal.returns-in_err-test_measures
returns-in_err-test_measures c = search (rules, test_fails)

pub returns : goal.returns
returns c =
    let e = built c.args.query.now c.args.legs.now c.args.sets.now c.in_ok-root.root tt (search rules) (search rules) in search (rules, e)
