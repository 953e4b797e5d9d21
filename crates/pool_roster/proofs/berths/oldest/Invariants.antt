use Rattle.std.proofs.Common.{All, take}
use Rattle.pool_roster.specs.Told.{StandSince}
use Rattle.pool_roster.proofs.berths.oldest.Given as goal

abbrev pub invariant-loop-berth : goal.invariant-loop-berth
invariant-loop-berth g l = All (λ b. StandSince l.oldest b.session.stand) (take l.berth-index l.berths)
