use Rattle.std.proofs.Common.{[], arith}
use Rattle.leg.specs.Terms.{databases_of}
use Rattle.package_rules.proofs.AskedLemmas.{searches_of}
use Rattle.package.proofs.asking.key_at.Goals as goal

pub returns-in_err-dbs-clause-may : goal.returns-in_err-dbs-clause-may
returns-in_err-dbs-clause-may c =
    searches_of (databases_of c.args.route.now c.args.leg) c.args.query.now [] c.databases_of.ensures.few c.requires.askable (omega arith)

pub returns-in_err-query-clause-may : goal.returns-in_err-query-clause-may
returns-in_err-query-clause-may c =
    searches_of (databases_of c.args.route.now c.args.leg) c.args.query.now [] c.databases_of.ensures.few c.requires.askable (omega arith)

pub returns-clause-may : goal.returns-clause-may
returns-clause-may c =
    searches_of (databases_of c.args.route.now c.args.leg) c.args.query.now [] c.databases_of.ensures.few c.requires.askable (omega arith)
