use Rattle.std.proofs.Common.{◌≡◌, ◌≤◌, ℕ, length, map, take, get_or, option_map}
use Rattle.leg.specs.LegView.{LegView}
use Rattle.package.specs.steps.Ends.{gave_up, lost_seats}
use Rattle.package.proofs.package.give_up_each.Given as goal

abbrev pub invariant-loop-leg : goal.invariant-loop-leg
invariant-loop-leg g l =
    (length l.leg-items ≡ length l.initial.leg-items)
    × ((place : ℕ) (d : LegView g.row.S.Denot) → l.leg-index ≤ place → get_or l.leg-items place d ≡ get_or l.initial.leg-items place d)
    × (take l.leg-index l.leg-items ≡ map gave_up (take l.leg-index l.initial.leg-items))
    × (g.D.Door.pool l.door ≡ option_map (lost_seats (take l.leg-index l.initial.leg-items)) (g.D.Door.pool l.initial.door))
    × (g.D.Door.counts l.door ≡ g.D.Door.counts l.initial.door)
