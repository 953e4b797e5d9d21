use Rattle.std.proofs.Common.{◌≤◌, length, drop}
use Rattle.sru_request.specs.Firsts.{IsTableOf}
use Rattle.sru_request.proofs.others.firsts_of.Given as goal

-- the table of the pairs behind those that are left
abbrev pub invariant-loop-left : goal.invariant-loop-left
invariant-loop-left l = record {
  within : l.left ≤ length l.given;
  table : IsTableOf l.firsts (drop l.left l.given);
}

abbrev pub decreases-loop-left : goal.decreases-loop-left
decreases-loop-left l = l.left
