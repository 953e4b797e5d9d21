use Rattle.std.proofs.Common.{◌≡◌, ◌≤◌, ℕ, length, take, drop, get_or}
use Rattle.std.specs.List.{zip}
use Rattle.package.specs.steps.Ends.{fetch_of, no_supply, supply_of}
use Rattle.package.specs.steps.Packages.{answers_of}
use Rattle.package.proofs.supplies.supplies_of.Given as goal

abbrev pub invariant-loop : goal.invariant-loop
invariant-loop g l =
    (length l.supplies.items ≡ l.counter) × ((leg : ℕ) → get_or l.supplies.items leg no_supply ≡ no_supply)

abbrev pub invariant-loop-leg : goal.invariant-loop-leg
invariant-loop-leg g l =
    (length l.supplies.items ≡ l.many)
    × (length l.legs.items ≤ length l.fn.legs.items)
    × (l.legs.items ≡ take (length l.legs.items) l.fn.legs.items)
    × ((leg : ℕ) → get_or l.supplies.items leg no_supply
    ≡ supply_of 0 (fetch_of (zip (drop (length l.legs.items) l.spans) (answers_of (drop (length l.legs.items) l.fn.legs.items))) leg))

abbrev pub decreases-loop-leg : goal.decreases-loop-leg
decreases-loop-leg g l = length l.legs.items
