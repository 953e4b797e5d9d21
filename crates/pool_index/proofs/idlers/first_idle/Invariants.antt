use Rattle.std.proofs.Common.{◌≡◌, true, ◌-◌, ◌^◌, is_some, All}
use Rattle.pool_sets.specs.Sessions.{idle_in}
use Rattle.pool_roster.proofs.Seeking.{NoneUnder}
use Rattle.pool_index.specs.RegisterView.{IsFound}
use Rattle.pool_index.proofs.idlers.first_idle.Given as goal

abbrev pub invariant-loop-number : goal.invariant-loop-number
invariant-loop-number g l = record {
  none : NoneUnder (λ o. is_some (idle_in l.class l.at o)) l.roster.sessions l.from;
  whole : l.index.whole ≡ true;
  found : All (IsFound g.D.Digest.own l.index) l.roster.sessions;
}

abbrev pub decreases-loop-number : goal.decreases-loop-number
decreases-loop-number g l = 2 ^ 64 - l.from
