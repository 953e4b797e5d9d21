use Rattle.std.proofs.Common.{rules, arith}
use Rattle.pool_roster.proofs.Seeking.{all_less, other_there, place_read}
use Rattle.pool_roster.proofs.berths.place_of.Goals as goal

pub returns-then-place-berths-clause-none : goal.returns-then-place-berths-clause-none
returns-then-place-berths-clause-none g c = λ e. all_less c.args.number c.args.berths.now c.count_below-place.result c.count_below-place.ensures.point (omega arith)

pub returns-then-berths-place-clause-none : goal.returns-then-berths-place-clause-none
returns-then-berths-place-clause-none g c =
    λ e. other_there c.args.number c.args.berths.now c.count_below-place.result c.count_below-place.ensures.point c.index-berths-place.result c.requires.order (omega arith) c.if-berths-place.true

pub returns-clause-some : goal.returns-clause-some
returns-clause-some g c = place_read c.args.number c.args.berths.now c.count_below-place.result c.index-berths-place.result (omega arith) c.index-berths-place.is (search rules)
