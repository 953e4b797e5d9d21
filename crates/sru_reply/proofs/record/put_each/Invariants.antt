use Rattle.std.proofs.Common.{◌≡◌, ◌+◌, ◌++◌, drop}
use Rattle.sru_reply.specs.Reply.{records_from}
use Rattle.sru_reply.proofs.record.put_each.Given as goal

abbrev pub invariant-loop-item : goal.invariant-loop-item
invariant-loop-item l = record {
  position : l.position ≡ l.answer.start + l.item-index;
  put : l.out ++ records_from l.answer (l.answer.start + l.item-index) (drop l.item-index l.items) ≡ l.fn.out ++ records_from l.answer l.answer.start l.items;
}
