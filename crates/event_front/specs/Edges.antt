-- What sources and sinks tell that do not wait (this project's own): what those do that wait, and how
-- often they were looked at in vain
use Rattle.std.specs.Prelude.{◌⊎◌, ℕ}
use Rattle.z_types.specs.Counts.{Rose}
use Rattle.event_outside.specs.declared.sinks.EdgeSink as to
use Rattle.event_outside.specs.declared.sources.EdgeSource as from
use Rattle.conn_served.specs.Serving.{SinkView, SourceView, Streams}

abbrev pub source_view : {I : Type 0} → from.Ghosts I → I → SourceView
source_view i input = record { given = i.given input; left = i.left input; faults = i.faults input }

abbrev pub sink_view : {K : Type 0} → to.Ghosts K → K → SinkView
sink_view k output = record { received = k.received output; faults = k.faults output }

abbrev pub streams : {I K : Type 0} → from.Ghosts I → to.Ghosts K → I → K → Streams
streams i k input output = record { input = source_view i input; output = sink_view k output }

-- how many looks of each found nothing yet
pub record Looks : Type 0 where
  pub input : ℕ
  pub output : ℕ

abbrev pub looks : {I K : Type 0} → from.Ghosts I → to.Ghosts K → I → K → Looks
looks i k input output = record { input = i.waits input; output = k.waits output }

-- the source had nothing yet, or the sink no room
abbrev pub AreInVain : (old new : Looks) → Type 0
AreInVain old new = Rose old.input new.input ⊎ Rose old.output new.output
