-- The answers of legs that are done, one leg more
use Rattle.std.proofs.Common.{Bool, true, false, Result, Ok, Err, IfOk, OnOk, OnErr, inr, ◌≡◌, ◌∙◌, ℕ, zero, suc, List, [], ◌∷◌, ◌++◌, append_assoc, length, map, Option, None, Some, MatchOption, ap, sym, refl, subst, arith}
use Rattle.std.proofs.lemmas.List.{map-append, nil_from_length}
use Rattle.leg.specs.LegView.{LegView}
use Rattle.leg.specs.Phases.{IsDone, answered}
use Rattle.leg.specs.declared.tasks.Task.{Task}
use Rattle.leg.specs.declared.accounts.Account.{Account}
use Rattle.leg.specs.declared.phases.Phase.{Phase}
use Rattle.leg.specs.declared.phases.Phase.TheVariants.{Begin, Dialling, Dialled, Ready, Searching, Presenting, Fetching, Scanning, Returning, Losing, Redialling, Spoiled, Done, Ended}
use Rattle.package.specs.steps.Packages.{AreDone, HasFitting}
use Rattle.package.specs.steps.Turns.{all_done}
use Rattle.futures.specs.declared.task.Poll.TheVariants as poll
use Rattle.z_types.specs.declared.memory.Memory.{Memory}
use Rattle.package.specs.steps.Flights.{AreSaid, Leaves, Said, ended, standing}

module _ {S : Type 0} where
  -- the first of the legs that are left has answered
  pub said_more : (said : List Said) (answer : Said) (leg : LegView S) (legs : List (LegView S)) (all : List (Phase S × Account))
      → leg.phase ≡ Done answer.0 → answer.1 ≡ leg.account
      → map ended said ++ map standing (leg ∷ legs) ≡ all
      → map ended (said ++ answer ∷ []) ++ map standing legs ≡ all
  said_more said answer leg legs all phase account so_far =
      let stands : ended answer ≡ standing leg = cc in
      ap (λ (front : List (Phase S × Account)). front ++ map standing legs) (map-append ended said (answer ∷ []))
      ∙ append_assoc (map ended said) (ended answer ∷ []) (map standing legs)
      ∙ ap (λ (it : Phase S × Account). map ended said ++ it ∷ map standing legs) stands ∙ so_far

  done_by : (task : Task) (phase : Phase S) → HasFitting task (answered phase) → IsDone phase
  done_by task Begin fits = absurd fits
  done_by task (Dialling seat member) fits = absurd fits
  done_by task (Dialled held looks) fits = absurd fits
  done_by task (Ready held items) fits = absurd fits
  done_by task (Searching held items slot looks) fits = absurd fits
  done_by task (Presenting held items slot hits) fits = absurd fits
  done_by task (Fetching held items slot hits looks) fits = absurd fits
  done_by task (Scanning held looks) fits = absurd fits
  done_by task (Returning held answer) fits = absurd fits
  done_by task (Losing seat answer) fits = absurd fits
  done_by task (Redialling seat) fits = absurd fits
  done_by task (Spoiled seat) fits = absurd fits
  done_by task (Done answer) fits = tt
  done_by task Ended fits = absurd fits

  -- the first of legs that are done
  pub done_first : (all : List (LegView S)) (leg : LegView S) (legs : List (LegView S)) → all ≡ leg ∷ legs → AreDone all → IsDone leg.phase
  done_first all leg legs are done =
      let first : AreDone (leg ∷ legs) = subst AreDone are done in
      done_by leg.task leg.phase (first zero leg (omega arith))

  -- and the others
  pub done_others : (all : List (LegView S)) (leg : LegView S) (legs : List (LegView S)) → all ≡ leg ∷ legs → AreDone all → AreDone legs
  done_others all leg legs are done =
      let first : AreDone (leg ∷ legs) = subst AreDone are done in
      λ place d less. first (suc place) d (omega (arith, less))

  -- no leg is left
  pub none_left : (X Y : Type 0) (all : List (LegView S)) (n : ℕ) (first : Option (LegView S))
      → ((leg : LegView S) → first ≡ Some leg → ⊥) → n ≡ length all → MatchOption first ((n ≡ 0) × X) (λ leg. Y) → all ≡ []
  none_left X Y all n None none same counts = nil_from_length all (sym same ∙ counts.0)
  none_left X Y all n (Some leg) none same counts = absurd (none leg refl)

  -- what a poll leaves once all legs are done
  pub leaves_done : (lacks : Bool) (turned left : List (LegView S)) (out : Result (List Said) Memory) → lacks ≡ false
      → all_done turned ≡ true → AreDone turned → IfOk out (AreSaid turned) → OnOk out (left ≡ []) → OnErr out (left ≡ turned)
      → Leaves lacks turned left (poll.Ready out)
  leaves_done lacks turned left (Ok said) enough all done right none kept = (none, enough, done, right)
  leaves_done lacks turned left (Err memory) enough all done right none kept = (kept, inr all)
