-- What a wire to the test targets counts, and what was made to happen to its links, some of whose
-- calls are to fail (this project's own)
use Rattle.std.specs.Prelude.{ℕ, Bool, true, false, List, [], ◌∷◌}
use Rattle.gw_outside.specs.Counts.{Counts}
use Rattle.gw_outside.specs.Happened.{Happened}
use Rattle.test_wire.specs.declared.wires.TestWire.{TestWire}
use Rattle.test_wire.specs.Steady.{counts_in, happened_in_all}

-- no call is to fail
abbrev pub is_none : List ℕ → Bool
is_none [] = true
is_none (call ∷ calls) = false

-- the same was made to happen, on a wire that is steady so
abbrev pub steadily : Bool → Happened → Happened
steadily steady h = record h { steady = steady }

abbrev pub counts_of : TestWire → Counts
counts_of wire = counts_in wire.links

-- a wire is steady where no call of it is to fail
abbrev pub happened_of : TestWire → Happened
happened_of wire = steadily (is_none wire.calls.failing) (happened_in_all wire.links)
