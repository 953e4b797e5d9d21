use Rattle.std.proofs.Common.{◌≡◌, drop}
use Rattle.replay.specs.Classes.{costs_after}
use Rattle.replay.proofs.classes.add_totals.Given as goal

-- the sums so far go on by the totals that are left
abbrev pub invariant-loop-total : goal.invariant-loop-total
invariant-loop-total l = costs_after l.classes (drop l.total-index l.totals) ≡ costs_after l.fn.classes l.totals
