use Rattle.std.proofs.Common.{take, ◌≡◌, length}
use Rattle.pool_index.specs.Tallies.{IsTally}
use Rattle.pool_index.proofs.tally.tally_of.Given as goal

abbrev pub invariant-loop-place : goal.invariant-loop-place
invariant-loop-place g l = record {
  all : l.place-end ≡ length l.roster.sessions;
  right : IsTally (take l.place l.roster.sessions) l.tally;
}
