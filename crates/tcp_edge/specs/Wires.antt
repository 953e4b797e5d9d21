-- What a wire of the edge counts, and what was made to happen to its links (this project's own)
use Rattle.std.specs.Prelude.{false}
use Rattle.gw_outside.specs.Counts.{Counts}
use Rattle.gw_outside.specs.Happened.{Happened}
use Rattle.test_wire.specs.declared.wires.TestWire.{TestWire}
use Rattle.test_wire.specs.Wires.{happened_of, steadily}
use Rattle.tcp_edge.specs.declared.tally.Tally.{Tally}

-- it does not read what is sent and what arrives: Searches, and replies that a set is gone, are
-- counted by the sessions over it
abbrev pub counts_in : Tally → Counts
counts_in tally = record {
  faults = tally.faults;
  breaches = 0;
  waits = tally.waits;
  dials = tally.dials;
  searches = 0;
  gones = 0;
}

-- the same was made to happen, and links may fail beside it at any time
abbrev pub unsteady : Happened → Happened
unsteady h = steadily false h

-- what was made to happen to the links with test targets
abbrev pub happened_at : TestWire → Happened
happened_at test = unsteady (happened_of test)
