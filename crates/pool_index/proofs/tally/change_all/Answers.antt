use Rattle.std.proofs.Common.{◌∙◌, ap, arith, set, get_or}
use Rattle.std.proofs.lemmas.List.Edits.{map_over_more}
use Rattle.pool_index.specs.Tallies.{changed}
use Rattle.pool_index.proofs.Tallies.{all_mapped}
use Rattle.pool_index.proofs.tally.change_all.Goals as goal

pub loop-row-preserved : goal.loop-row-preserved
loop-row-preserved g c = record {
  all = c.loop-row.invariant.all;
  done = λ d. ap (λ t. set c.loop-row.tallies.items c.loop-row.row t) (c.change.ensures d)
      ∙ map_over_more (changed c.args.comes (get_or c.args.roster.now.sessions c.args.place d)) c.args.tallies.now.items c.loop-row.tallies.items c.loop-row.row c.index_mut.result.now (omega arith) (c.loop-row.invariant.done d) c.index_mut.ensures.value;
}

pub returns : goal.returns
returns g c = λ d.
    c.loop-row.invariant.done d
    ∙ all_mapped (changed c.args.comes (get_or c.args.roster.now.sessions c.args.place d)) c.args.tallies.now.items c.loop-row.row (omega (arith, c.loop-row.invariant.all))
