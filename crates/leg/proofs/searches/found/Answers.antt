use Rattle.std.proofs.Common.{◌≡◌}
use Rattle.leg.specs.Tasks.{want_of}
use Rattle.leg.proofs.Lacks.{found_kept, found_items}
use Rattle.leg.proofs.Own.{own_recorded}
use Rattle.leg.proofs.searches.found.Goals as goal

pub with_set-requires-clause-own : goal.with_set-requires-clause-own
with_set-requires-clause-own g c =
    rw c.in-Ok-record_.ensures.ok (own_recorded (want_of c.args.task.now) c.in-Ok.key c.args.slot c.args.hits c.args.now c.args.held.parts.table
    (let same = c.in-Ok.ensures in let wanted = c.in-Some.ensures in cc))

pub with_set-requires-clause-held : goal.with_set-requires-clause-held
with_set-requires-clause-held g c =
    let known = c.requires.known in
    let own : known.key ≡ c.in-Ok.key = (let same = c.in-Ok.ensures in let wanted = c.in-Some.ensures in let wants = known.wants in cc) in
    rw c.in-Ok-record_.ensures.ok (record {
      waits = known.rests.waits;
      kept = found_kept g.W.World g.S.Sitting c.args.task.now c.args.held c.args.slot c.args.hits c.args.now c.in-Ok.key known own;
    })

pub with_set-requires-clause-items : goal.with_set-requires-clause-items
with_set-requires-clause-items g c =
    found_items g.W.World g.S.Sitting c.args.task.now c.args.held c.args.items _ c.requires.items
