use Rattle.std.proofs.Common.{◌≡◌, ◌+◌, ◌≤◌, length}
use Rattle.std.specs.Option.{option_copied}
use Rattle.script.specs.Events.{AreEvents}
use Rattle.script.specs.Script.{events_of, lines_behind, script_of}
use Rattle.script.proofs.read.read_script.Given as goal

-- the events of all lines are those of the lines that are left, behind those that were read
abbrev pub invariant-loop-rest : goal.invariant-loop-rest
invariant-loop-rest l = record {
  said : events_of l.targets l.number l.events.list (lines_behind (option_copied l.rest)) ≡ script_of l.targets l.text;
  events : AreEvents (length l.targets) l.events.list;
  count : l.number + length (lines_behind (option_copied l.rest)) ≤ length l.text + 2;
}

abbrev pub decreases-loop-rest : goal.decreases-loop-rest
decreases-loop-rest l = length (lines_behind (option_copied l.rest))
