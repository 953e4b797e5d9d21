use Rattle.std.proofs.Common.{◌≡◌}
use Rattle.leg.specs.Turns.{IsLegOf}
use Rattle.leg_tests.proofs.plays.turns_of.Given as goal

-- the leg stays one of the route
abbrev pub invariant-loop-turns : goal.invariant-loop-turns
invariant-loop-turns g l = record {
  leg : IsLegOf g.W.World g.B.Session.Sitting l.route (g.D.Door.counts l.door).most l.leg;
  most : (g.D.Door.counts l.door).most ≡ (g.D.Door.counts l.fn.door).most;
}
