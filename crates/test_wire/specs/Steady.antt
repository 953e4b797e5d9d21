-- What a steady wire to the test targets counts, and what was made to happen to its links
-- (this project's own)
use Rattle.gw_outside.specs.Counts.{Counts}
use Rattle.gw_outside.specs.Happened.{Happened}
use Rattle.test_wire.specs.declared.steady.SteadyWire.{SteadyWire}
use Rattle.test_wire.specs.Happened.{happened_in}

-- no reply is a breach
abbrev pub counts_in : SteadyWire → Counts
counts_in wire = record {
  faults = wire.faults;
  breaches = 0;
  waits = wire.waits;
  dials = wire.dials;
  searches = wire.searches;
  gones = wire.gones;
}

abbrev pub happened_in_all : SteadyWire → Happened
happened_in_all wire = happened_in wire.happenings.table
