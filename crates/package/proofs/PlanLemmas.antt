-- A package that goes on
use Rattle.std.proofs.Common.{◌≡◌, ◌∙◌, ◌&&◌, ℕ, Bool, true, false, cond, List, [], ◌∷◌, map, All, ap, sym, refl, subst}
use Rattle.std.proofs.lemmas.List.Elements.{All-nil}
use Rattle.z_types.specs.declared.sitting.Sitting as sitting
use Rattle.z_types.specs.declared.world.World as world
use Rattle.route_config.specs.declared.route.Route.{Route}
use Rattle.leg.specs.LegView.{LegView}
use Rattle.leg.specs.Turns.{IsLegOf}
use Rattle.leg.specs.declared.answers.Turned.{Turned}
use Rattle.leg.specs.declared.answers.Turned.TheVariants as turned
use Rattle.gateway_rules.specs.Works.{CanBegin, IsAskable}
use Rattle.package_rules.specs.Asked.{Asked, first_asked}
use Rattle.package_rules.specs.Planned.{AreThere, then_asked_by}
use Rattle.package.specs.declared.turning.Round.{Round}
use Rattle.package.specs.steps.Packages.{AreDone, AsksSo, IsOver, IsPackageOf, IsPlanned, PackageView, answers_of, asked_of, begun}
use Rattle.package.specs.steps.Turns.{IsPlannedNow, IsUnplanned, Plans, all_done, done_or_went, round_answer}
use Rattle.package.proofs.BegunLemmas.{asked-begun, later_begun}

module _ {S : Type 0} (route : Route) where
  -- where it is not known yet what is asked then, nothing is
  pub none_later : (view : PackageView S) → AsksSo route view → view.planned ≡ false → view.later ≡ []
  none_later view asks unplanned = subst (λ (b : Bool). IsPlanned b route view) unplanned asks.then

  pub stays_unplanned : (view : PackageView S) → AsksSo route view → view.planned ≡ false → IsUnplanned view
  stays_unplanned view asks unplanned = record { planned = unplanned; later = none_later view asks unplanned }

  -- where it is known, the first legs are done
  pub is_planned : (view : PackageView S) → AsksSo route view → view.planned ≡ true
      → AreDone view.first × (map asked_of view.later ≡ then_asked_by route view.work (answers_of view.first))
  is_planned view asks planned = subst (λ (b : Bool). IsPlanned b route view) planned asks.then

  -- it is known now
  pub plans_now : (view : PackageView S) (over : Bool) → IsPlannedNow route view → over ≡ all_done view.later
      → Plans route view (done_or_went over)
  plans_now view true now is = (now, ap done_or_went is)
  plans_now view false now is = (now, ap done_or_went is)

-- ---- answers

done_by : (lacks over waits : Bool) → cond lacks turned.Memory (cond over turned.Done (cond waits turned.NotYet turned.Went)) ≡ turned.Done
    → over ≡ true
done_by true over waits e = absurd cc
done_by false true waits e = refl
done_by false false true e = absurd cc
done_by false false false e = absurd cc

-- a package that answers that it is done is
pub done_answer : (over : Bool) (round : Round) → round_answer over round ≡ turned.Done → over ≡ true
done_answer over round e = done_by round.lacks over (round.some && round.waits) e

went_by : (over : Bool) → turned.Done ≡ done_or_went over → over ≡ true
went_by true e = refl
went_by false e = absurd cc

-- legs that are begun are done where there is none
begun_done : {S : Type 0} (asked : List Asked) → all_done (map (begun {S = S}) asked) ≡ true → AreDone (map (begun {S = S}) asked)
begun_done [] done = All-nil _
begun_done (ask ∷ asked) done = absurd cc

module _ {W S : Type 0} (w : world.Ghosts W) (t : sitting.Ghosts S W) (route : Route) (most : ℕ) where
  -- the legs for what is asked then had their turns
  pub later_turned : (view : PackageView S) (later : List (LegView S)) → IsPackageOf w t route most view → view.planned ≡ true
      → All (IsLegOf w t route most) later → map asked_of later ≡ map asked_of view.later
      → IsPackageOf w t route most (record { work = view.work; first = view.first; later = later; planned = view.planned })
  later_turned view later of planned legs asked =
      let known = is_planned route view of.asks planned in record {
        asks = record {
          there = of.asks.there;
          can_begin = of.asks.can_begin;
          askable = of.asks.askable;
          at_first = of.asks.at_first;
          then = subst (λ (b : Bool).
              IsPlanned b route (record { work = view.work; first = view.first; later = later; planned = view.planned })) (sym planned)
              (known.0, asked ∙ known.1);
        };
        first = of.first;
        later = legs;
      }

  -- those for what is asked first
  pub first_turned : (view : PackageView S) (first : List (LegView S)) → IsPackageOf w t route most view → view.planned ≡ false
      → All (IsLegOf w t route most) first → map asked_of first ≡ map asked_of view.first
      → IsPackageOf w t route most (record { work = view.work; first = first; later = view.later; planned = view.planned })
  first_turned view first of unplanned legs asked = record {
    asks = record {
      there = of.asks.there;
      can_begin = of.asks.can_begin;
      askable = of.asks.askable;
      at_first = asked ∙ of.asks.at_first;
      then = subst (λ (b : Bool).
          IsPlanned b route (record { work = view.work; first = first; later = view.later; planned = view.planned })) (sym unplanned)
          (none_later route view of.asks unplanned);
    };
    first = legs;
    later = of.later;
  }

  unplanned_of : (old new : PackageView S) → IsPackageOf w t route most old → new.work ≡ old.work → new.first ≡ old.first
      → IsUnplanned new → IsPackageOf w t route most new
  unplanned_of old new of work first un = record {
    asks = record {
      there = subst (AreThere route) (sym work) of.asks.there;
      can_begin = subst CanBegin (sym work) of.asks.can_begin;
      askable = subst IsAskable (sym work) of.asks.askable;
      at_first = ap (map asked_of) first ∙ of.asks.at_first ∙ ap (first_asked route) (sym work);
      then = subst (λ (b : Bool). IsPlanned b route new) (sym un.planned) un.later;
    };
    first = subst (All (IsLegOf w t route most)) (sym first) of.first;
    later = subst (All (IsLegOf w t route most)) (sym un.later) (All-nil (IsLegOf w t route most));
  }

  planned_of : (old new : PackageView S) → IsPackageOf w t route most old → AreDone old.first → new.work ≡ old.work
      → new.first ≡ old.first → IsPlannedNow route new → IsPackageOf w t route most new
  planned_of old new of done work first now =
      let there : AreThere route new.work = subst (AreThere route) (sym work) of.asks.there in record {
        asks = record {
          there = there;
          can_begin = subst CanBegin (sym work) of.asks.can_begin;
          askable = subst IsAskable (sym work) of.asks.askable;
          at_first = ap (map asked_of) first ∙ of.asks.at_first ∙ ap (first_asked route) (sym work);
          then = subst (λ (b : Bool). IsPlanned b route new) (sym now.planned) (
            subst AreDone (sym first) done,
            ap (map asked_of) now.later ∙ asked-begun S (then_asked_by route new.work (answers_of new.first)),
          );
        };
        first = subst (All (IsLegOf w t route most)) (sym first) of.first;
        later = subst (All (IsLegOf w t route most)) (sym now.later)
            (later_begun w t route most new.work (answers_of new.first) there);
      }

  -- it is one of the route once it is known what is asked then, or memory was wanting for that
  pub plans_of : (old new : PackageView S) (answer : Turned) → IsPackageOf w t route most old → AreDone old.first
      → new.work ≡ old.work → new.first ≡ old.first → Plans route new answer → IsPackageOf w t route most new
  plans_of old new turned.Memory of done work first plans = unplanned_of old new of work first plans
  plans_of old new turned.Went of done work first plans = planned_of old new of done work first plans.0
  plans_of old new turned.NotYet of done work first plans = planned_of old new of done work first plans.0
  plans_of old new turned.Done of done work first plans = planned_of old new of done work first plans.0

-- and is over where it answers so
pub plans_over : {S : Type 0} (route : Route) (before : List (LegView S)) (new : PackageView S) (answer : Turned) → AreDone before
    → new.first ≡ before
    → Plans route new answer → answer ≡ turned.Done → IsOver new
plans_over {S = S} route before new answer done first plans is =
    let now = subst (Plans route new) is plans in
    let over : all_done new.later ≡ true = went_by (all_done new.later) now.1 in record {
      planned = now.0.planned;
      first = subst AreDone (sym first) done;
      later = subst AreDone (sym now.0.later) (begun_done (then_asked_by route new.work (answers_of new.first))
          (ap all_done (sym now.0.later) ∙ over));
    }
