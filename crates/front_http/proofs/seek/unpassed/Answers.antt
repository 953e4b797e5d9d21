use Rattle.std.proofs.Common.{◌-◌, arith}
use Rattle.std.proofs.lemmas.List.{take_rest}
use Rattle.front_http.proofs.Seeking.{passed-from}
use Rattle.front_http.proofs.seek.unpassed.Goals as goal

pub returns-then-passed-gt2 : goal.returns-then-passed-gt2
returns-then-passed-gt2 c =
    let same = passed-from c.args.octets.now c.args.passed (omega arith) c.requires in
    rw (take_rest c.args.octets.now (c.args.passed - 2)) same
