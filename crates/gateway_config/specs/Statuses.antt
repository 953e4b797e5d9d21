-- The exit statuses (this project's own)
use Rattle.std.specs.Prelude.{ℕ}
use Rattle.gateway_config.specs.declared.status.Status.{Status}
use Rattle.gateway_config.specs.declared.status.Status.TheVariants.{Ok, Words, Config, Script, ReadFault, WriteFault, Memory, AcceptFault, RealTarget, PollFault}

-- the number of a status
abbrev pub exit_status : Status → ℕ
exit_status Ok = 0
exit_status Words = 2
exit_status Config = 3
exit_status Script = 4
exit_status ReadFault = 5
exit_status WriteFault = 6
exit_status Memory = 7
exit_status AcceptFault = 8
exit_status RealTarget = 9
exit_status PollFault = 10
