use Rattle.z_ber.proofs.WholeReading.{whole-large}
use Rattle.z_ber.proofs.scan.whole.Goals as goal

pub returns-clause-large : goal.returns-clause-large
returns-clause-large c = λ n l. whole-large c.args.bytes.now n l c.whole.result c.whole.ensures.answer
