-- Legs that are done, as a package of a route has them: what each answered, and that none is marked where nothing went wrong
use Rattle.std.proofs.Common.{◌≡◌, ◌∙◌, ◌&&◌, ℕ, Bool, true, List, [], ◌∷◌, ◌++◌, All, Option, None, Some, refl, ap, subst, arith, option_map}
use Rattle.std.specs.List.{AllByRecursion, cons_option}
use Rattle.std.proofs.lemmas.List.Elements.{recursion_from_All}
use Rattle.z_types.specs.declared.marks.Mark.{Mark}
use Rattle.z_types.specs.declared.marks.Mark.TheVariants as mark
use Rattle.z_types.specs.declared.sitting.Sitting as sitting
use Rattle.z_types.specs.declared.world.World as world
use Rattle.route_config.specs.Sound.{ArePoolNumbers}
use Rattle.route_config.specs.declared.route.Route.{Route}
use Rattle.package_quiet.specs.leg.LegView.{LegView}
use Rattle.package_quiet.specs.leg.Kept.{StandsAt}
use Rattle.package_quiet.specs.leg.Phases.{answered, is_done}
use Rattle.package_quiet.specs.leg.Right.{AnswerFits, IsCaused, IsRight}
use Rattle.package_quiet.specs.leg.Terms.{terms_of}
use Rattle.package_quiet.specs.leg.Turns.{IsLegOf}
use Rattle.package_quiet.specs.leg.declared.accounts.Account.{Account}
use Rattle.package_quiet.specs.leg.declared.answers.LegAnswer.{LegAnswer}
use Rattle.package_quiet.specs.leg.declared.answers.LegAnswer.TheVariants as answer
use Rattle.package_quiet.specs.leg.declared.phases.Phase.{Phase}
use Rattle.package_quiet.specs.leg.declared.phases.Phase.TheVariants.{Begin, Dialling, Dialled, Ready, Searching, Presenting, Fetching, Scanning, Returning, Losing, Redialling, Spoiled, Done, Ended}
use Rattle.package_quiet.specs.leg.declared.tasks.Task.{Task}
use Rattle.package_quiet.specs.package_rules.declared.answered.Answered.{Answered}
use Rattle.package_quiet.specs.package_rules.Said.{cause_of, cause_or, mark_of}
use Rattle.package_quiet.specs.package.steps.Packages.{AreDone, HasFitting, answers_of}
use Rattle.package_quiet.specs.package.steps.Turns.{all_done}
use Rattle.package_quiet.specs.steps.Quiet.{HasNoCause}
use Rattle.package_shares.specs.steps.Together.{AreUndisturbed}
use Rattle.package_shares.proofs.CostLemmas.{CountsItsClass}
use Rattle.package_shares.proofs.RoundLemmas.{AreUnfull}

module _ {S : Type 0} where
  done-is : (phase : Phase S) (said : LegAnswer) → answered phase ≡ Some said → phase ≡ Done said
  done-is Begin said is = absurd cc
  done-is (Dialling seat member) said is = absurd cc
  done-is (Dialled held looks) said is = absurd cc
  done-is (Ready held items) said is = absurd cc
  done-is (Searching held items slot looks) said is = absurd cc
  done-is (Presenting held items slot hits) said is = absurd cc
  done-is (Fetching held items slot hits looks) said is = absurd cc
  done-is (Scanning held looks) said is = absurd cc
  done-is (Returning held own) said is = absurd cc
  done-is (Losing seat own) said is = absurd cc
  done-is (Redialling seat) said is = absurd cc
  done-is (Spoiled seat) said is = absurd cc
  done-is (Done own) said is = ap Done (let same : own ≡ said = cc in same)
  done-is Ended said is = absurd cc

module _ {W S : Type 0} (w : world.Ghosts W) (t : sitting.Ghosts S W) (route : Route) (most : ℕ) where
  -- a leg that is done
  pub record IsEndedLeg (leg : LegView S) : Type 0 where
    pub said : LegAnswer
    pub is : answered leg.phase ≡ Some said
    pub fits : AnswerFits leg.task said
    pub right : IsRight w (terms_of route leg.login leg.leg) leg.task said
    pub caused : IsCaused route.pool most leg.account said
    pub own : CountsItsClass route leg

  ended-by : (leg : LegView S) (said : Option LegAnswer) → answered leg.phase ≡ said → HasFitting leg.task said → IsLegOf w t route most leg
      → IsEndedLeg leg
  ended-by leg None is fits of = absurd fits
  ended-by leg (Some said) is fits of =
      let stands = subst (λ (x : Phase S). StandsAt w t (terms_of route leg.login leg.leg) most leg.task x leg.account) (done-is leg.phase said is) of.stands in
      record { said = said; is = is; fits = fits; right = stands.0; caused = stands.1; own = stands.2 }

  all-ended : (legs : List (LegView S)) → AllByRecursion (λ (leg : LegView S). HasFitting leg.task (answered leg.phase)) legs
      → AllByRecursion (IsLegOf w t route most) legs → AllByRecursion IsEndedLeg legs
  all-ended [] done of = tt
  all-ended (leg ∷ legs) done of = (ended-by leg (answered leg.phase) refl done.0 of.0, all-ended legs done.1 of.1)

  pub legs-ended : (legs : List (LegView S)) → AreDone legs → All (IsLegOf w t route most) legs → AllByRecursion IsEndedLeg legs
  legs-ended legs done of =
      all-ended legs (recursion_from_All (λ (leg : LegView S). HasFitting leg.task (answered leg.phase)) legs done)
      (recursion_from_All (IsLegOf w t route most) legs of)

  pub ended-own : (legs : List (LegView S)) → AllByRecursion IsEndedLeg legs → AllByRecursion (CountsItsClass route) legs
  ended-own [] are = tt
  ended-own (leg ∷ legs) are = (are.0.own, ended-own legs are.1)

  pub ended-done : (legs : List (LegView S)) → AllByRecursion IsEndedLeg legs → all_done legs ≡ true
  ended-done [] are = refl
  ended-done (leg ∷ legs) are =
      ap (λ (b : Bool). b && all_done legs) (ap is_done (done-is leg.phase are.0.said are.0.is)) ∙ ended-done legs are.1

  -- ---- no mark

  none-marked : (task : Task) (account : Account) (said : LegAnswer) → ArePoolNumbers route.pool → HasNoCause account → account.fulls ≡ 0
      → AnswerFits task said → IsCaused route.pool most account said → mark_of said ≡ None
  none-marked task account (answer.Hits hits) numbers none full fits caused = refl
  none-marked task account (answer.Refused diag) numbers none full fits caused = refl
  none-marked task account (answer.Items items) numbers none full fits caused = refl
  none-marked task account (answer.Broken items diag) numbers none full fits caused = refl
  none-marked task account (answer.Scanned entries) numbers none full fits caused = refl
  none-marked task account (answer.Marked mark.Plain) numbers none full fits caused = absurd fits
  none-marked task account (answer.Marked mark.Link) numbers none full fits caused =
      let spent = none.spent in absurd (omega (arith, caused, spent))
  none-marked task account (answer.Marked (mark.Silent looks)) numbers none full fits caused =
      let some = numbers.patience.0 in let looked = none.looks in absurd (omega (arith, caused.1, some, looked))
  none-marked task account (answer.Marked mark.Gone) numbers none full fits caused =
      let gones = none.gones in absurd (omega (arith, caused, gones))
  none-marked task account (answer.Marked (mark.Full sessions)) numbers none full fits caused = absurd (omega (arith, caused.1, full))

  -- so the cause is that of the others
  pub cause-past : (legs : List (LegView S)) (others : List Answered) → ArePoolNumbers route.pool → AllByRecursion IsEndedLeg legs
      → AreUndisturbed legs → AreUnfull legs → cause_of route (answers_of legs ++ others) ≡ cause_of route others
  cause-past [] others numbers are none full = refl
  cause-past (leg ∷ legs) others numbers are none full =
      ap (λ (o : Option LegAnswer). cause_of route (cons_option (option_map (λ (a : LegAnswer). record { leg = leg.leg; answer = a }) o) (answers_of legs) ++ others)) are.0.is
      ∙ ap (λ (m : Option Mark). cause_or route leg.leg m (cause_of route (answers_of legs ++ others)))
      (none-marked leg.task leg.account are.0.said numbers none.0 full.0 are.0.fits are.0.caused)
      ∙ cause-past legs others numbers are.1 none.1 full.1
