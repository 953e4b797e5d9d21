use Rattle.std.proofs.Common.{◌∙◌, ap, arith, set}
use Rattle.std.proofs.lemmas.List.Edits.{map_over_more}
use Rattle.pool_roster.specs.Told.{settled}
use Rattle.pool_roster.proofs.berths.settle_each.Goals as goal

pub loop-place-preserved : goal.loop-place-preserved
loop-place-preserved g c = record {
  all = c.loop-place.invariant.all;
  done = ap (λ b. set c.loop-place.berths.items c.loop-place.place b) c.settle.ensures
      ∙ map_over_more (settled c.args.expiries c.args.ttl c.args.stamp) c.args.berths.now.items c.loop-place.berths.items c.loop-place.place c.index_mut.result.now (omega arith) c.loop-place.invariant.done c.index_mut.ensures.value;
}
