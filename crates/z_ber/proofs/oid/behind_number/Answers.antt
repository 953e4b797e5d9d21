use Rattle.std.proofs.Common.{◌∙◌, arith}
use Rattle.z_ber.proofs.OidReading.{oid-large}
use Rattle.z_ber.proofs.oid.behind_number.Goals as goal

pub returns-in-Err : goal.returns-in-Err
returns-in-Err c = λ arcs valid e.
    oid-large c.from.result c.args.number c.args.bytes.now arcs (c.from.ensures ∙ c.min-first.ensures) (omega (arith, c.in-Err.ensures)) valid e
