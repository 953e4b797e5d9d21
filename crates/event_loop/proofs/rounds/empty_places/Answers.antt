use Rattle.std.proofs.Common.{List, [], ◌∷◌, Option, None, length, length-append, ap, subst, sym, arith}
use Rattle.event_front.specs.Tasks.{TaskView}
use Rattle.event_loop.specs.steps.Places.{AreNone}
use Rattle.event_loop.proofs.FrontLemmas.{none-push}
use Rattle.event_loop.proofs.rounds.empty_places.Goals as goal

pub empty-preserved : goal.empty-preserved
empty-preserved g c = record {
  empty = subst (λ (places : List (Option (TaskView g.row.S.Denot g.row.A-In.Denot g.row.A-Out.Denot))). AreNone places)
      (sym c.in_ok-push.ensures.items) (none-push c.empty.places.items c.empty.invariant.empty);
  within =
      let more = ap length c.in_ok-push.ensures.items in
      let one = length-append c.empty.places.items (None ∷ []) in
      omega (arith, more, one, c.empty-test.true, c.len.ensures);
}
