use Rattle.std.proofs.Common.{◌≡◌}
use Rattle.sample_maker.specs.Load.{load_events}
use Rattle.sample_maker.proofs.load.make.Given as goal

-- the events so far are those of the clients so far
abbrev pub invariant-loop-place : goal.invariant-loop-place
invariant-loop-place l = l.events ≡ load_events l.place
