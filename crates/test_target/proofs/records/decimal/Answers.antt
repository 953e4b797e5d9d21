use Rattle.std.proofs.Common.{◌≡◌, rules, arith}
use Rattle.std.specs.Fmt.{decimal}
use Rattle.test_target.proofs.Dotted.{short_decimal}
use Rattle.test_target.proofs.records.decimal.Goals as goal

pub returns-clause-short : goal.returns-clause-short
returns-clause-short c =
    let text : c.from_vec.result ≡ decimal c.args.number = search rules in
    short_decimal c.from_vec.result c.args.number text (omega arith)
