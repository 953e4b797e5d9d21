use Rattle.std.proofs.Common.{ℕ, All}
use Rattle.package.specs.leg.Turns.{IsLegOf}
use Rattle.flight_tests.proofs.asks.hits_legs.Given as goal

-- the legs so far are some of the route
abbrev pub invariant-loop-place : goal.invariant-loop-place
invariant-loop-place g l = (most : ℕ) → All (IsLegOf g.W.World g.S.Sitting l.route most) l.legs
