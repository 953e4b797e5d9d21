-- What a call did outside (this project's own): the files that it read, and the sink that it wrote
-- to, before and after it
use Rattle.std.specs.Prelude.{ℕ, List, Option}
use Rattle.gw_outside.specs.declared.files.Files as files
use Rattle.gw_outside.specs.declared.sinks.Sink as sinks

-- what the files have under a name, how their faults rose, and the name of the file whose read
-- failed last
pub record FileReads : Type 0 where
  pub contents : List ℕ → Option (List ℕ)
  pub faults : ℕ
  pub faults_after : ℕ
  pub failed_after : Option (List ℕ)

-- what the sink received, and how its faults rose
pub record SinkWrites : Type 0 where
  pub received : Option (List ℕ)
  pub received_after : Option (List ℕ)
  pub faults : ℕ
  pub faults_after : ℕ

-- the reads of a call, by the files before and after it
abbrev pub file_reads : {F : Type 0} → files.Ghosts F → F → F → FileReads
file_reads f before after = record {
  contents = f.contents before;
  faults = f.faults before;
  faults_after = f.faults after;
  failed_after = f.last_failed after;
}

-- the writes of a call, by the sink before and after it
abbrev pub sink_writes : {K : Type 0} → sinks.Ghosts K → K → K → SinkWrites
sink_writes k before after = record {
  received = k.received before;
  received_after = k.received after;
  faults = k.faults before;
  faults_after = k.faults after;
}
