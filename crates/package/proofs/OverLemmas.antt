-- The legs of a package that is over answered what they were asked
use Rattle.std.proofs.Common.{◌≡◌, ℕ, List, [], ◌∷◌, map, All, Option, Some, sym, refl, subst, option_map}
use Rattle.std.specs.List.{cons_option}
use Rattle.std.proofs.lemmas.List.Elements.{All-head, All-tail}
use Rattle.z_types.specs.declared.sitting.Sitting as sitting
use Rattle.z_types.specs.declared.world.World as world
use Rattle.route_config.specs.declared.route.Route.{Route}
use Rattle.leg.specs.Kept.{StandsAt}
use Rattle.leg.specs.LegView.{LegView}
use Rattle.leg.specs.Phases.{answered}
use Rattle.leg.specs.Right.{AnswerFits, IsRight}
use Rattle.leg.specs.Terms.{Terms, terms_of}
use Rattle.leg.specs.Turns.{IsLegOf}
use Rattle.leg.specs.declared.accounts.Account.{Account}
use Rattle.leg.specs.declared.answers.LegAnswer.{LegAnswer}
use Rattle.leg.specs.declared.phases.Phase.{Phase}
use Rattle.leg.specs.declared.phases.Phase.TheVariants.{Begin, Dialling, Dialled, Ready, Searching, Presenting, Fetching, Scanning, Returning, Losing, Redialling, Spoiled, Done, Ended}
use Rattle.leg.specs.declared.tasks.Task.{Task}
use Rattle.package_rules.specs.Asked.{Asked}
use Rattle.package_rules.specs.Truth.{AreAnswersTo}
use Rattle.package.specs.steps.Laws.{IsAnswered}
use Rattle.package.specs.steps.Packages.{AreDone, HasFitting, answers_of, asked_of}
use Rattle.package.proofs.PlanLemmas.{is_planned}

module _ {W S : Type 0} (w : world.Ghosts W) (t : sitting.Ghosts S W) (terms : Terms) (most : ℕ) (task : Task) (account : Account) where
  -- the answer of a leg that is done fits and is right
  record HasRight (phase : Phase S) : Type 0 where
    pub said : LegAnswer
    pub is : answered phase ≡ Some said
    pub fits : AnswerFits task said
    pub right : IsRight w terms task said

  has_right : (phase : Phase S) → StandsAt w t terms most task phase account → HasFitting task (answered phase) → HasRight phase
  has_right Begin stands fits = absurd fits
  has_right (Dialling seat member) stands fits = absurd fits
  has_right (Dialled held looks) stands fits = absurd fits
  has_right (Ready held items) stands fits = absurd fits
  has_right (Searching held items slot looks) stands fits = absurd fits
  has_right (Presenting held items slot hits) stands fits = absurd fits
  has_right (Fetching held items slot hits looks) stands fits = absurd fits
  has_right (Scanning held looks) stands fits = absurd fits
  has_right (Returning held answer) stands fits = absurd fits
  has_right (Losing seat answer) stands fits = absurd fits
  has_right (Redialling seat) stands fits = absurd fits
  has_right (Spoiled seat) stands fits = absurd fits
  has_right (Done answer) stands fits = record { said = answer; is = refl; fits = fits; right = stands.0 }
  has_right Ended stands fits = absurd fits

module _ {W S : Type 0} (w : world.Ghosts W) (t : sitting.Ghosts S W) (route : Route) (most : ℕ) where
  are_answers : (legs : List (LegView S)) → All (IsLegOf w t route most) legs → AreDone legs
      → AreAnswersTo w route (map asked_of legs) (answers_of legs)
  are_answers [] of done = tt
  are_answers (leg ∷ legs) of done =
      let is : IsLegOf w t route most leg = All-head (IsLegOf w t route most) leg legs of in
      let has : HasRight w t (terms_of route leg.login leg.leg) most leg.task leg.account leg.phase =
      has_right w t (terms_of route leg.login leg.leg) most leg.task leg.account leg.phase is.stands
      (All-head (λ (l : LegView S). HasFitting l.task (answered l.phase)) leg legs done) in
      let others = are_answers legs (All-tail (IsLegOf w t route most) leg legs of)
      (All-tail (λ (l : LegView S). HasFitting l.task (answered l.phase)) leg legs done) in
      subst (λ (o : Option LegAnswer). AreAnswersTo w route (asked_of leg ∷ map asked_of legs)
      (cons_option (option_map (λ (a : LegAnswer). record { leg = leg.leg; answer = a }) o) (answers_of legs))) (sym has.is)
      (record { leg = refl; fits = has.fits; right = has.right }, others)

pub is_answered : {W S : Type 0} (w : world.Ghosts W) (t : sitting.Ghosts S W) → IsAnswered w t
is_answered w t route most view of over =
    let known = is_planned route view of.asks over.planned in record {
      at_first = subst (λ (asked : List Asked). AreAnswersTo w route asked (answers_of view.first)) of.asks.at_first
          (are_answers w t route most view.first of.first over.first);
      then = subst (λ (asked : List Asked). AreAnswersTo w route asked (answers_of view.later)) known.1
          (are_answers w t route most view.later of.later over.later);
    }
