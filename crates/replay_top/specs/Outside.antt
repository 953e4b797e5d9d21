-- What a call did over its wire (this project's own): what the wire counted before and after it,
-- and what was made to happen to it before; and what sessions with targets there are over its links
use Rattle.std.specs.Prelude.{Bool}
use Rattle.z_types.specs.declared.sitting.Sitting as sitting
use Rattle.gw_outside.specs.Counts.{Counts}
use Rattle.gw_outside.specs.Happened.{Happened}
use Rattle.gw_outside.specs.declared.watched.Watched as wires

-- the sessions over the wire's links; whether each count of the wire is exact, and how they rose;
-- and what was made to happen to its links before
pub record WireCalls (W S : Type 0) : Type 1 where
  pub sessions : sitting.Ghosts S W
  pub exact : Bool
  pub before : Counts
  pub behind : Counts
  pub happened : Happened

-- the calls of a call, by the wire before and after it
abbrev pub wire_calls : {N W S : Type 0} → wires.Ghosts N → sitting.Ghosts S W → N → N
    → WireCalls W S
wire_calls n sessions before after = record {
  sessions = sessions;
  exact = n.exact;
  before = n.counts before;
  behind = n.counts after;
  happened = n.happened before;
}
