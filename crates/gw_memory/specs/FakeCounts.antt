-- What sessions in memory count, and that nothing happens to their links (this project's own)
use Rattle.std.specs.Prelude.{false}
use Rattle.gw_outside.specs.Counts.{Counts}
use Rattle.gw_outside.specs.Happened.{Happened, nothing_happens}
use Rattle.gw_memory.specs.declared.sessions.FakeBackend.{FakeBackend}

-- no look finds nothing, and no reply is a breach
abbrev pub counts_of : {T : Type 0} → FakeBackend T → Counts
counts_of backend = record {
  faults = backend.faults;
  breaches = 0;
  waits = 0;
  dials = backend.dials;
  searches = backend.searches;
  gones = backend.gones;
}

-- nothing is made to happen; calls fail where they are listed
abbrev pub never_steady : Happened
never_steady = record { steady = false; lent = 0; of_target = λ target. nothing_happens }
