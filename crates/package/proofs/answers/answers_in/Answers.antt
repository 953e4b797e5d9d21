use Rattle.std.proofs.Common.{◌≡◌, ◌∙◌, ◌+◌, ◌++◌, [], List, length, map, ap, sym, subst, arith}
use Rattle.std.proofs.lemmas.List.{append-nil}
use Rattle.leg.specs.LegView.{LegView}
use Rattle.package.specs.steps.Packages.{AreDone}
use Rattle.package.specs.steps.Flights.{Said, ended, standing}
use Rattle.package.proofs.FlightLemmas.{done_first, done_others, none_left, said_more}
use Rattle.package.proofs.answers.answers_in.Goals as goal

pub loop-leg-init : goal.loop-leg-init
loop-leg-init g c =
    let none : length c.args.answers.items ≡ 0 = ap (λ (xs : List Said). length xs) c.requires.none in
    let all : length c.from_vec-legs.result.items ≡ length c.args.legs.items =
    ap (λ (xs : List (LegView g.row.S.Denot)). length xs) c.from_vec-legs.ensures.items in record {
      so_far = ap (λ (said : List Said). map ended said ++ map standing c.from_vec-legs.result.items) c.requires.none;
      done = subst AreDone (sym c.from_vec-legs.ensures.items) c.requires.done;
      room = omega (arith, c.requires.room, none, all);
    }

pub answer-requires : goal.answer-requires
answer-requires g c = done_first c.loop-leg.legs.items c.in-Some.leg c.pop_front.new.self.items c.in-Some.ensures.items c.loop-leg.invariant.done

pub loop-leg-preserved : goal.loop-leg-preserved
loop-leg-preserved g c =
    let said = c.loop-leg.answers.items in
    let all = map (standing {S = g.row.S.Denot}) c.from_vec-legs.result.items in
    let rest = c.pop_front.new.self.items in
    let head : length c.loop-leg.legs.items ≡ length rest + 1 =
    ap (λ (xs : List (LegView g.row.S.Denot)). length xs) c.in-Some.ensures.items ∙ omega arith in record {
      so_far = rw c.put.ensures.items (said_more said c.answer.result c.in-Some.leg rest all c.answer.ensures.answer c.answer.ensures.account
          (subst (λ (xs : List (LegView g.row.S.Denot)). map ended said ++ map standing xs ≡ all) c.in-Some.ensures.items c.loop-leg.invariant.so_far));
      done = done_others c.loop-leg.legs.items c.in-Some.leg rest c.in-Some.ensures.items c.loop-leg.invariant.done;
      room = omega (arith, c.put.ensures.len, c.put.ensures.capacity, c.loop-leg.invariant.room, head);
    }

pub returns : goal.returns
returns g c =
    let front = map (ended {S = g.row.S.Denot}) c.loop-leg.answers.items in
    let none : c.loop-leg.legs.items ≡ [] =
    none_left _ _ c.loop-leg.legs.items c.loop-leg.legs.len c.pop_front.result c.in_default.not-Some (omega arith) c.pop_front.ensures.cases in record {
      said = sym (append-nil front) ∙ ap (λ (xs : List (LegView g.row.S.Denot)). front ++ map standing xs) (sym none) ∙ c.loop-leg.invariant.so_far
          ∙ ap (map standing) c.from_vec-legs.ensures.items;
    }
