use Rattle.front_conn.proofs.TotalLemmas.{totals-more}
use Rattle.front_conn.proofs.totals.no_totals.Goals as goal

pub loop-class-preserved : goal.loop-class-preserved
loop-class-preserved c =
    rw c.in_ok-push.ensures.ok (totals-more c.loop-class.totals c.loop-class.class c.new.result c.loop-class.invariant c.new.ensures)
