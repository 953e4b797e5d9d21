use Rattle.std.proofs.Common.{◌≡◌, ◌∙◌, ℕ, ap, arith}
use Rattle.pool_sets.specs.Counts.{DoorCounts}
use Rattle.pool_core.specs.PoolView.{PoolView, counts_of}
use Rattle.pool_locked.specs.Books.{counted}
use Rattle.locked_tests.specs.declared.holders.Holder.{Holder}
use Rattle.locked_tests.proofs.takes.first_other_locked.Goals as goal

abbrev counts_with : (most none : ℕ) → DoorCounts
counts_with most none = record { most = most; fulls = none; opens = none; booked = none }

none_counted : 0 ≡ counted 0
none_counted = omega arith

pub first_other_behind-requires-clause-new : goal.first_other_behind-requires-clause-new
first_other_behind-requires-clause-new g c = λ lifetimes within.
    ap (λ (v : PoolView Holder). counts_of v) c.after-pool.ensures ∙ ap (λ n. counts_with n 0) c.numbers_of.ensures.most
    ∙ ap (λ n. counts_with c.args.max_sessions n) none_counted
