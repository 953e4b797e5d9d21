-- The lines that refusals print, and what a sink received of a text (this project's own)
use Rattle.std.specs.Prelude.{◌≡◌, ◌⊎◌, ℕ, List, [], ◌∷◌, ◌++◌, codes}
use Rattle.std.specs.Fmt.{decimal}
use Rattle.z_types.specs.Counts.{Rose}
use Rattle.gw_outside.specs.Sinks.{appended, ReceivedPrefix}
use Rattle.route_text.specs.declared.fault.RouteFault.{RouteFault}
use Rattle.route_text.specs.Fault.{fault_number, fault_text}
use Rattle.gateway_config.specs.Outside.{SinkWrites}

-- words, and the end of a line
abbrev pub line_of : List ℕ → List ℕ
line_of words = words ++ 10 ∷ []

-- how the program is used
abbrev pub usage_line : List ℕ
usage_line =
    line_of
    (codes "usage: check CONFIG | replay CONFIG SCRIPT | load N | serve CONFIG PORT WORKERS"
    ++ codes " | events CONFIG PORT MOST")

-- a configuration is refused: the number of the refusal, and what it is about
abbrev pub config_line : RouteFault → List ℕ
config_line fault =
    line_of (codes "config " ++ decimal (fault_number fault) ++ 32 ∷ fault_text fault)

-- a file could not be read
abbrev pub fault_line : List ℕ → List ℕ
fault_line name = line_of (codes "read fault " ++ name)

-- nothing was received
abbrev pub ReceivedNothing : SinkWrites → Type 0
ReceivedNothing writes = writes.received_after ≡ writes.received

-- this text was received, whole, and nothing else
abbrev pub Received : SinkWrites → List ℕ → Type 0
Received writes text = writes.received_after ≡ appended writes.received text

-- a write failed: a front of this text was received, and nothing else
abbrev pub FailedWithin : SinkWrites → List ℕ → Type 0
FailedWithin writes text =
    ReceivedPrefix writes.received writes.received_after text
    × Rose writes.faults writes.faults_after

-- the line was printed, or a front of it where the sink failed
abbrev pub Says : SinkWrites → List ℕ → Type 0
Says writes line = Received writes line ⊎ FailedWithin writes line
