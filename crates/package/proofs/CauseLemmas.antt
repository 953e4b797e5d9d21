-- The cause of what legs said
use Rattle.std.proofs.Common.{◌≡◌, ◌∙◌, ℕ, List, [], ◌∷◌, ◌++◌, Option, None, Some, ap, refl, option_map, option_and_then}
use Rattle.std.specs.List.{cons_option}
use Rattle.std.proofs.lemmas.List.Elements.{filter_map-append}
use Rattle.z_types.specs.declared.marks.Mark.{Mark}
use Rattle.route_config.specs.declared.route.Route.{Route}
use Rattle.leg.specs.LegView.{LegView}
use Rattle.leg.specs.Phases.{answered}
use Rattle.leg.specs.declared.answers.LegAnswer.{LegAnswer}
use Rattle.package_rules.specs.Said.{cause_of, cause_or, mark_of}
use Rattle.package.specs.steps.Ends.{cause_by, first_mark, mark_or}
use Rattle.package.specs.steps.Packages.{answers_of}

mark_by : (route : Route) (leg : ℕ) (mark : Option Mark) (later : Option (Mark × ℕ))
    → cause_or route leg mark (cause_by route later) ≡ cause_by route (mark_or mark leg later)
mark_by route leg None later = refl
mark_by route leg (Some mark) later = refl

module _ {S : Type 0} where
  said_by : (route : Route) (leg : LegView S) (others : List (LegView S)) (said : Option LegAnswer)
      → cause_of route (answers_of others) ≡ cause_by route (first_mark others)
      → cause_of route (cons_option (option_map (λ (a : LegAnswer). record { leg = leg.leg; answer = a }) said) (answers_of others))
      ≡ cause_by route (mark_or (option_and_then mark_of said) leg.leg (first_mark others))
  said_by route leg others None same = same
  said_by route leg others (Some said) same =
      ap (cause_or route leg.leg (mark_of said)) same ∙ mark_by route leg.leg (mark_of said) (first_mark others)

  -- the first mark decides
  pub cause_is : (route : Route) (legs : List (LegView S)) → cause_of route (answers_of legs) ≡ cause_by route (first_mark legs)
  cause_is route [] = refl
  cause_is route (leg ∷ legs) = said_by route leg legs (answered leg.phase) (cause_is route legs)

  -- answers of legs behind others
  pub answers-append : (front legs : List (LegView S)) → answers_of (front ++ legs) ≡ answers_of front ++ answers_of legs
  answers-append front legs = filter_map-append _ front legs
