use Rattle.gateway_top.proofs.PlainLoads.{sums-if}
use Rattle.gateway_top.proofs.load.load_report.Goals as goal

pub returns-clause-sums : goal.returns-clause-sums
returns-clause-sums g c =
    sums-if g.W.World
    (record {
      orderly = c.loads_are_orderly.ensures;
      answered = c.loads_are_answered.ensures;
      plainly = c.loads_are_answered_plainly.ensures;
      need = c.loads_need_so.ensures;
    })
    _ c.args.clients _ c.requires c.play_load.ensures
