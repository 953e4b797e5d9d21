use Rattle.std.proofs.Common.{◌≡◌, take}
use Rattle.front_conn.specs.steps.Totals.{totals_after}
use Rattle.front_conn.proofs.totals.add_accounts.Given as goal

abbrev pub invariant-loop-account : goal.invariant-loop-account
invariant-loop-account l = l.sums.items ≡ totals_after l.initial.sums.items (take l.account-index l.account-items)
