use Rattle.std.proofs.Common.{◌≡◌, ◌∙◌, ℕ, false, true, List, All, sym, refl, subst}
use Rattle.std.proofs.lemmas.Result.{IfOk-weaker}
use Rattle.leg.specs.LegView.{LegView}
use Rattle.leg.specs.Turns.{IsLegOf}
use Rattle.package.specs.steps.Packages.{AreDone}
use Rattle.package.specs.steps.Turns.{all_done}
use Rattle.package.proofs.FlightLemmas.{leaves_done}
use Rattle.package.proofs.flight.AllLegsFuture.poll.Goals as goal

pub returns-then-not-all_done-clause-poll : goal.returns-then-not-all_done-clause-poll
returns-then-not-all_done-clause-poll g c =
    let waits : all_done c.turn_all-round.new.legs ≡ false =
    subst (λ (xs : List (LegView g.row.B-Session.Denot)). all_done xs ≡ false) c.as_slice.ensures
    (sym c.all_done.ensures.done ∙ c.if-not-all_done.true) in record {
      now = c.now-now.result;
      turned = c.turn_all-round.new.legs;
      round = c.turn_all-round.result;
      turns = c.turn_all-round.ensures.turned;
      same = c.turn_all-round.ensures.asked;
      of = c.turn_all-round.ensures.of;
      leaves = rw c.yield_now.ensures.pending (refl, c.if-round.false, waits);
    }

pub take_answers-requires : goal.take_answers-requires
take_answers-requires g c =
    record { done = subst AreDone c.as_slice.ensures (c.all_done.ensures.fits c.if-not-all_done.false) }

pub returns-clause-value : goal.returns-clause-value
returns-clause-value g c =
    let turned = c.turn_all-round.new.legs in
    IfOk-weaker c.take_answers.result _ _ (λ said right. record {
      legs = turned;
      same = c.turn_all-round.ensures.asked;
      of = subst (λ (most : ℕ). All (IsLegOf g.W.World g.B.Session.Sitting c.args.self.now.route.now most) turned) c.turn_all-round.ensures.most
          c.turn_all-round.ensures.of;
      done = subst AreDone c.as_slice.ensures (c.all_done.ensures.fits c.if-not-all_done.false);
      right = right;
    }) c.take_answers.ensures.said

pub returns-clause-poll : goal.returns-clause-poll
returns-clause-poll g c =
    let turned = c.turn_all-round.new.legs in
    let all : all_done turned ≡ true =
    subst (λ (xs : List (LegView g.row.B-Session.Denot)). all_done xs ≡ true) c.as_slice.ensures
    (sym c.all_done.ensures.done ∙ c.if-not-all_done.false) in record {
      now = c.now-now.result;
      turned = turned;
      round = c.turn_all-round.result;
      turns = c.turn_all-round.ensures.turned;
      same = c.turn_all-round.ensures.asked;
      of = c.turn_all-round.ensures.of;
      leaves = leaves_done c.turn_all-round.result.lacks turned c.take_answers.new.legs c.take_answers.result c.if-round.false all
          (subst AreDone c.as_slice.ensures (c.all_done.ensures.fits c.if-not-all_done.false)) c.take_answers.ensures.said c.take_answers.ensures.none
          c.take_answers.ensures.kept;
    }
