use Rattle.std.proofs.Common.{◌≡◌, map}
use Rattle.std.specs.List.{range_with_len}
use Rattle.front_conn.specs.steps.Totals.{no_total}
use Rattle.front_conn.proofs.totals.no_totals.Given as goal

abbrev pub invariant-loop-class : goal.invariant-loop-class
invariant-loop-class l = l.totals ≡ map no_total (range_with_len 0 l.class)
