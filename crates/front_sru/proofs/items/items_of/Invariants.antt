use Rattle.std.proofs.Common.{◌≡◌}
use Rattle.sru_rules.specs.Settling as settling
use Rattle.front_sru.proofs.items.items_of.Given as goal

-- what stands for the records that were taken
abbrev pub invariant-loop-record : goal.invariant-loop-record
invariant-loop-record l = l.items ≡ settling.items_of l.version l.yielded
