-- Legs that are done
use Rattle.std.proofs.Common.{◌≡◌, ◌∙◌, ◌<◌, ◌+◌, ◌&&◌, ℕ, Bool, true, false, List, [], ◌∷◌, ◌++◌, length, take, drop, get_or, Option, None, Some, IfSome, IsTrue, Bor, is_some, ap, sym, refl, subst}
use Rattle.std.specs.Option.{option_copied}
use Rattle.std.proofs.lemmas.List.Elements.{All-append, All-cons, All-nil}
use Rattle.std.proofs.lemmas.Bool.{and_parts}
use Rattle.leg.specs.LegView.{LegView}
use Rattle.leg.specs.Phases.{IsDone, answered, is_done}
use Rattle.leg.specs.declared.answers.LegAnswer.{LegAnswer}
use Rattle.leg.specs.declared.phases.Phase.{Phase}
use Rattle.leg.specs.declared.phases.Phase.TheVariants.{Begin, Dialling, Dialled, Ready, Searching, Presenting, Fetching, Scanning, Returning, Losing, Redialling, Spoiled, Done, Ended}
use Rattle.leg.specs.Right.{AnswerFits}
use Rattle.package_rules.proofs.Taken.{parted, take_next}
use Rattle.package.specs.steps.Packages.{AreDone, HasFitting}
use Rattle.package.specs.steps.Turns.{all_done}

-- what is lent is there where its owner is
pub some_lent : {X : Type 0} (lent : Option (Bor X)) → is_some (option_copied lent) ≡ is_some lent
some_lent None = refl
some_lent (Some x) = refl

module _ {S : Type 0} where
  -- a leg is done where it has an answer
  pub done_is : (phase : Phase S) → is_done phase ≡ is_some (answered phase)
  done_is Begin = refl
  done_is (Dialling seat member) = refl
  done_is (Dialled held looks) = refl
  done_is (Ready held items) = refl
  done_is (Searching held items slot looks) = refl
  done_is (Presenting held items slot hits) = refl
  done_is (Fetching held items slot hits looks) = refl
  done_is (Scanning held looks) = refl
  done_is (Returning held answer) = refl
  done_is (Losing seat answer) = refl
  done_is (Redialling seat) = refl
  done_is (Spoiled seat) = refl
  done_is (Done answer) = refl
  done_is Ended = refl

  pub is_not_done : (phase : Phase S) → (IsDone phase → IsTrue false) → is_done phase ≡ false
  is_not_done Begin h = refl
  is_not_done (Dialling seat member) h = refl
  is_not_done (Dialled held looks) h = refl
  is_not_done (Ready held items) h = refl
  is_not_done (Searching held items slot looks) h = refl
  is_not_done (Presenting held items slot hits) h = refl
  is_not_done (Fetching held items slot hits looks) h = refl
  is_not_done (Scanning held looks) h = refl
  is_not_done (Returning held answer) h = refl
  is_not_done (Losing seat answer) h = refl
  is_not_done (Redialling seat) h = refl
  is_not_done (Spoiled seat) h = refl
  is_not_done (Done answer) h = let e : false ≡ true = h tt in absurd cc
  is_not_done Ended h = refl

  -- legs behind those that are done
  done_behind : (front legs : List (LegView S)) → all_done front ≡ true → all_done (front ++ legs) ≡ all_done legs
  done_behind [] legs done = refl
  done_behind (leg ∷ front) legs done =
      let both = and_parts (is_done leg.phase) (all_done front) done in
      ap (λ (b : Bool). b && all_done (front ++ legs)) both.0 ∙ done_behind front legs both.1

  -- one leg more
  pub done_more : (legs : List (LegView S)) (i : ℕ) (d leg : LegView S) → i < length legs → get_or legs i d ≡ leg
      → all_done (take i legs) ≡ true → is_done leg.phase ≡ true → all_done (take (i + 1) legs) ≡ true
  done_more legs i d leg inside is so_far done =
      ap all_done (take_next legs i d leg inside is) ∙ done_behind (take i legs) (leg ∷ []) so_far
      ∙ ap (λ (b : Bool). b && true) done

  -- or one that is not
  pub done_not : (legs : List (LegView S)) (i : ℕ) (d leg : LegView S) → i < length legs → get_or legs i d ≡ leg
      → all_done (take i legs) ≡ true → is_done leg.phase ≡ false → all_done legs ≡ false
  done_not legs i d leg inside is so_far waits =
      ap all_done (parted legs i d leg inside is) ∙ done_behind (take i legs) (leg ∷ drop (i + 1) legs) so_far
      ∙ ap (λ (b : Bool). b && all_done (drop (i + 1) legs)) waits

  fits_by : (leg : LegView S) (said : Option LegAnswer) → is_some said ≡ true → IfSome said (AnswerFits leg.task) → HasFitting leg.task said
  fits_by leg None some fits = absurd cc
  fits_by leg (Some said) some fits = fits

  pub fits_more : (legs : List (LegView S)) (i : ℕ) (d leg : LegView S) → i < length legs → get_or legs i d ≡ leg
      → AreDone (take i legs) → is_some (answered leg.phase) ≡ true → IfSome (answered leg.phase) (AnswerFits leg.task)
      → AreDone (take (i + 1) legs)
  fits_more legs i d leg inside is so_far some fits =
      subst AreDone (sym (take_next legs i d leg inside is))
      (All-append (λ (l : LegView S). HasFitting l.task (answered l.phase)) (take i legs) (leg ∷ []) so_far
      (All-cons (λ (l : LegView S). HasFitting l.task (answered l.phase)) leg [] (fits_by leg (answered leg.phase) some fits)
      (All-nil (λ (l : LegView S). HasFitting l.task (answered l.phase)))))
