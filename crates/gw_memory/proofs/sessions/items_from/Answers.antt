use Rattle.std.proofs.Common.{◌≡◌, ◌∙◌, ◌+◌, ℕ, length, ap, arith}
use Rattle.gw_memory.proofs.RecordsLemmas.{length_more, records_pushed}
use Rattle.gw_memory.proofs.sessions.items_from.Goals as goal

pub loop-place-preserved : goal.loop-place-preserved
loop-place-preserved g c =
    let record_at = λ (position : ℕ). g.T.World.record_ c.args.address.now c.args.key.now position c.args.syntax.now c.args.element.now in
    let items = c.loop-place.items in
    let at : c.args.first + length items ≡ c.in-Some.position = omega (arith, c.in-Some.ensures, c.loop-place.invariant.so_far) in
    record {
      so_far = length_more items _ c.in-Good.item c.loop-place.place c.in_ok-push-in-Good.ensures.ok c.loop-place.invariant.so_far;
      some = omega arith;
      few = omega arith;
      records = records_pushed record_at c.args.first items _ c.in-Good.item c.in_ok-push-in-Good.ensures.ok c.loop-place.invariant.records (ap record_at at ∙ c.in-Good.ensures);
    }
