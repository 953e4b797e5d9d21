use Rattle.std.proofs.Common.{◌≡◌, take, length, All}
use Rattle.pool_index.specs.RegisterView.{IsGathered}
use Rattle.pool_index.proofs.idlers.gather.Given as goal

abbrev pub invariant-loop-place : goal.invariant-loop-place
invariant-loop-place g l = record {
  all : l.place-end ≡ length l.roster.sessions;
  gathered : All (IsGathered g.D.Digest.own l.pairs.items) (take l.place l.roster.sessions);
}
