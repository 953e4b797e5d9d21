use Rattle.std.proofs.Common.{◌-◌, arith}
use Rattle.sru_request.proofs.FirstLemmas.{table_more}
use Rattle.sru_request.proofs.others.firsts_of.Goals as goal

pub loop-left-preserved : goal.loop-left-preserved
loop-left-preserved c = record {
  within = omega arith;
  table = table_more c.args.given.now (c.loop-left.left - 1) c.loop-left.left c.index-given-left.result _ _ c.loop-left.firsts c.insert.new.self (omega arith) (omega arith) c.index-given-left.is c.as_slice.ensures c.is_present.ensures c.loop-left.invariant.table c.in_ok-insert.ensures.updates;
}
