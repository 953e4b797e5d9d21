-- What legs said, one leg more
use Rattle.std.proofs.Common.{◌≡◌, ◌∙◌, ◌<◌, ◌+◌, ℕ, List, [], ◌∷◌, ◌++◌, length, map, take, drop, get_or, Option, None, Some, Result, Ok, refl, ap, option_map}
use Rattle.std.specs.List.{cons_option}
use Rattle.std.specs.Option.{option_map_or, option_or}
use Rattle.std.proofs.lemmas.List.Elements.{All-head, All-tail}
use Rattle.z_types.specs.declared.diagnostic.Diag.{Diag}
use Rattle.z_types.specs.declared.marks.Mark.{Mark}
use Rattle.route_config.specs.declared.route.Route.{Route}
use Rattle.gateway_rules.specs.Targets.{hidden}
use Rattle.leg.specs.LegView.{LegView}
use Rattle.leg.specs.Phases.{answered}
use Rattle.leg.specs.declared.answers.LegAnswer.{LegAnswer}
use Rattle.package_rules.specs.declared.answered.Answered.{Answered}
use Rattle.package_rules.specs.Said.{hides, hits_said}
use Rattle.package_rules.proofs.Taken.{parted, take_next}
use Rattle.package.specs.steps.Ends.{first_mark, hits_in, mark_in, mark_or}
use Rattle.package.specs.steps.Packages.{AreDone, HasFitting, answers_of}

-- neither of two marks that come to none is one
behind_by : (mark : Option Mark) (place : ℕ) (front : Option (Mark × ℕ))
    → mark_or mark place front ≡ None → (mark ≡ None) × (front ≡ None)
behind_by None place front none = (refl, none)
behind_by (Some mark) place front none = absurd cc

abbrev hits_by : Route → Answered → Result ℕ Diag
hits_by route said = hidden (hides route said.leg) (hits_said said.answer)

-- a mark, in front of others
behind_mark : (mark : Option Mark) (place : ℕ) (front later : Option (Mark × ℕ))
    → mark_or mark place (option_or front later) ≡ option_or (mark_or mark place front) later
behind_mark None place front later = refl
behind_mark (Some mark) place front later = refl

module _ {S : Type 0} where
  -- ---- the first mark

  -- legs that are not marked leave it to those behind them
  pub mark_behind : (front legs : List (LegView S)) → first_mark front ≡ None → first_mark (front ++ legs) ≡ first_mark legs
  mark_behind [] legs none = refl
  mark_behind (leg ∷ front) legs none =
      let both = behind_by (mark_in leg) leg.leg (first_mark front) none in
      ap (λ (mark : Option Mark). mark_or mark leg.leg (first_mark (front ++ legs))) both.0 ∙ mark_behind front legs both.1

  -- the first that is marked decides
  pub mark_here : (legs : List (LegView S)) (i : ℕ) (d leg : LegView S) (mark : Mark) → i < length legs → get_or legs i d ≡ leg
      → first_mark (take i legs) ≡ None → mark_in leg ≡ Some mark → first_mark legs ≡ Some (mark, leg.leg)
  mark_here legs i d leg mark inside is none marked =
      ap first_mark (parted legs i d leg inside is) ∙ mark_behind (take i legs) (leg ∷ drop (i + 1) legs) none
      ∙ ap (λ (m : Option Mark). mark_or m leg.leg (first_mark (drop (i + 1) legs))) marked

  -- one leg more that is not marked
  pub mark_later : (legs : List (LegView S)) (i : ℕ) (d leg : LegView S) → i < length legs → get_or legs i d ≡ leg
      → first_mark (take i legs) ≡ None → mark_in leg ≡ None → first_mark (take (i + 1) legs) ≡ None
  mark_later legs i d leg inside is none unmarked =
      ap first_mark (take_next legs i d leg inside is) ∙ mark_behind (take i legs) (leg ∷ []) none
      ∙ ap (λ (m : Option Mark). mark_or m leg.leg None) unmarked

  -- ---- hits

  abbrev answered_as : LegView S → Option LegAnswer → Option Answered
  answered_as leg said = option_map (λ (a : LegAnswer). record { leg = leg.leg; answer = a }) said

  hit_is : (route : Route) (leg : LegView S) (others : List Answered) (said : Option LegAnswer) → HasFitting leg.task said
      → hidden (hides route leg.leg) (option_map_or hits_said said (Ok 0)) ∷ map (hits_by route) others
      ≡ map (hits_by route) (cons_option (answered_as leg said) others)
  hit_is route leg others None fits = absurd fits
  hit_is route leg others (Some said) fits = refl

  -- the hits of legs that are done are those of their answers
  pub hits_are : (route : Route) (legs : List (LegView S)) → AreDone legs
      → map (hits_in route) legs ≡ map (hits_by route) (answers_of legs)
  hits_are route [] done = refl
  hits_are route (leg ∷ legs) done =
      ap (λ (rest : List (Result ℕ Diag)). hits_in route leg ∷ rest)
      (hits_are route legs (All-tail (λ (l : LegView S). HasFitting l.task (answered l.phase)) leg legs done))
      ∙ hit_is route leg (answers_of legs) (answered leg.phase)
      (All-head (λ (l : LegView S). HasFitting l.task (answered l.phase)) leg legs done)

  -- ---- marks behind marks

  -- the first mark of legs behind others
  pub marks-append : (front legs : List (LegView S)) → first_mark (front ++ legs) ≡ option_or (first_mark front) (first_mark legs)
  marks-append [] legs = refl
  marks-append (leg ∷ front) legs =
      ap (mark_or (mark_in leg) leg.leg) (marks-append front legs)
      ∙ behind_mark (mark_in leg) leg.leg (first_mark front) (first_mark legs)
