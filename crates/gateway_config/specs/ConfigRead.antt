-- What reading a configuration gives (this project's own)
use Rattle.std.specs.Prelude.{◌≡◌, ℕ, List, IfSome}
use Rattle.z_types.specs.Counts.{Rose}
use Rattle.route_text.specs.declared.fault.RouteFault.{RouteFault}
use Rattle.gateway_config.specs.Configs.{IsTaken, IsNotTaken}
use Rattle.gateway_config.specs.Lines.{Says, Received, ReceivedNothing, FailedWithin, config_line, fault_line}
use Rattle.gateway_config.specs.Outside.{FileReads, SinkWrites}
use Rattle.gateway_config.specs.declared.config.ConfigRead.{ConfigRead}
use Rattle.gateway_config.specs.declared.config.ConfigRead.TheVariants.{Taken, Refused, Failed, Memory}
use Rattle.gateway_config.specs.declared.status.Status.{Status}
use Rattle.gateway_config.specs.declared.status.Status.TheVariants as status

-- the read of the file of a name failed
abbrev pub HasFailed : List ℕ → FileReads → Type 0
HasFailed name reads =
    Rose reads.faults reads.faults_after × IfSome reads.failed_after (λ failed. failed ≡ name)

-- the file of a name is a configuration, or is refused, or could not be read; want of memory has no
-- cause
abbrev pub IsConfigRead : List ℕ → FileReads → ConfigRead → Type 0
IsConfigRead name reads (Taken route) = IsTaken name reads route
IsConfigRead name reads (Refused fault) = IsNotTaken name reads fault
IsConfigRead name reads Failed = HasFailed name reads
IsConfigRead name reads Memory = Unit {0}

-- a configuration is refused, which is printed, or no memory could be had
abbrev pub IsConfigRefusal : RouteFault → SinkWrites → Status → Type 0
IsConfigRefusal fault writes status.Config = Says writes (config_line fault)
IsConfigRefusal fault writes status.Memory = ReceivedNothing writes
IsConfigRefusal fault writes other = ⊥

-- the read of the file of a name failed, and the line says so
abbrev pub IsUnread : List ℕ → FileReads → SinkWrites → Type 0
IsUnread name reads writes = HasFailed name reads × Says writes (fault_line name)

-- a file of this name could not be read, which is printed, or no memory could be had
abbrev pub IsUnreadTold : List ℕ → SinkWrites → Status → Type 0
IsUnreadTold name writes status.ReadFault = Says writes (fault_line name)
IsUnreadTold name writes status.Memory = ReceivedNothing writes
IsUnreadTold name writes other = ⊥

-- a text was printed, or a front of it where the sink failed
abbrev pub IsTold : List ℕ → SinkWrites → Status → Type 0
IsTold text writes status.Ok = Received writes text
IsTold text writes status.WriteFault = FailedWithin writes text
IsTold text writes other = ⊥
