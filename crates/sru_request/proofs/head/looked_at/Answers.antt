use Rattle.std.proofs.Common.{sym, arith, take_all}
use Rattle.std.proofs.lemmas.List.{length-take}
use Rattle.sru_request.proofs.head.looked_at.Goals as goal

pub slice_bounds-result-end : goal.slice_bounds-result-end
slice_bounds-result-end c = omega (arith, length-take 16384 c.args.octets.now)

pub returns-else-octets-gt-MOST_HEAD_OCTETS : goal.returns-else-octets-gt-MOST_HEAD_OCTETS
returns-else-octets-gt-MOST_HEAD_OCTETS c = sym (take_all 16384 c.args.octets.now (omega arith))
