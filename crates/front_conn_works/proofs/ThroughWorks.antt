-- All that a connection goes through begins what its steps begin.
use Rattle.std.proofs.Common.{◌≡◌, ◌≢◌, ℕ, Bool, List, [], ◌∷◌, ◌++◌, Option, Some, None, refl, sym, ap, ◌∙◌, subst, append_assoc, append-nil, inl, inr}
use Rattle.z_types.specs.Chains.{GoesThrough, last_of}
use Rattle.z_types.specs.declared.marks.End.{End}
use Rattle.z_types.specs.declared.sitting.Sitting as sitting
use Rattle.z_types.specs.declared.work.Work.{Work}
use Rattle.z_types.specs.declared.world.World as world
use Rattle.route_config.specs.declared.route.Route.{Route}
use Rattle.front_conn.specs.gateway_rules.Answers as kind
use Rattle.front_conn.specs.gateway_rules.Answers.{kind_of}
use Rattle.front_conn.specs.gateway_rules.Fair.{IsFair}
use Rattle.front_conn.specs.package.steps.Packages.{PackageView}
use Rattle.front_conn.specs.steps.Feeding.{StandsWhenEnded, StandsWhenFed, StandsWhenWritten, fed_piece, with_end, with_piece, without_out}
use Rattle.front_conn.specs.steps.States.{ConnectionState, IsStateOf}
use Rattle.front_conn_works.specs.steps.Begun.{HasBegun, begun_by}
use Rattle.front_conn_works.specs.steps.Laws.{GoesBegin}
use Rattle.front_conn_works.specs.steps.Through.{GoesOn, Point, TakesStep, begun_through}
use Rattle.front_conn_works.proofs.BegunLemmas.{begins-none, nothing-more, stays-begun}
use Rattle.front_conn_works.proofs.StepWorks.{had-begins}

-- what is so between steps
pub record BetweenSteps {W S : Type 0} (w : world.Ghosts W) (t : sitting.Ghosts S W) : Type 0 where
  pub fed : StandsWhenFed w t
  pub ended : StandsWhenEnded w t
  pub written : StandsWhenWritten w t

module _ {W S : Type 0} (w : world.Ghosts W) (t : sitting.Ghosts S W) (exact : Bool) (route : Route) where
  -- where a connection stands in its session, and what it has begun
  record IsAt (point : Point S) (works : List Work) : Type 0 where
    pub state : IsStateOf w route point.fed point.written point.state
    pub begun : HasBegun w route point.fed point.state works

  -- ---- no letter

  -- octets that begin with no letter did so before more came
  other-before : (fed piece : List ℕ) → kind_of (fed ++ piece) ≢ kind.letter → kind_of fed ≢ kind.letter
  other-before [] piece other = λ e. absurd cc
  other-before (octet ∷ octets) piece other = other

  other-on : (old new : Point S) → GoesOn w t exact route old new → kind_of new.fed ≢ kind.letter → kind_of old.fed ≢ kind.letter
  other-on old new (inl step) other = subst (λ (fed : List ℕ). kind_of fed ≢ kind.letter) step.fed other
  other-on old new (inr (inl is)) other =
      other-before old.fed is.piece (subst (λ (point : Point S). kind_of point.fed ≢ kind.letter) is.then other)
  other-on old new (inr (inr (inl is))) other = subst (λ (point : Point S). kind_of point.fed ≢ kind.letter) is other
  other-on old new (inr (inr (inr is))) other = subst (λ (point : Point S). kind_of point.fed ≢ kind.letter) is other

  other-through : (point : Point S) (points : List (Point S)) → GoesThrough (GoesOn w t exact route) point points
      → kind_of (last_of point points).fed ≢ kind.letter → kind_of point.fed ≢ kind.letter
  other-through point [] goes other = other
  other-through point (next ∷ points) goes other = other-on point next goes.0 (other-through next points goes.1 other)

  -- ---- one of what it goes through

  step-at : (old new : Point S) (works : List Work) → IsFair w route → kind_of old.fed ≢ kind.letter → TakesStep w t exact route old new
      → IsAt old works → IsAt new (works ++ begun_by old.state.in_work new.state.in_work)
  step-at old new works fair other step at =
      let all = works ++ begun_by old.state.in_work new.state.in_work in
      let state : IsStateOf w route old.fed old.written new.state = step.keeps fair old.fed old.written at.state in
      let begun : HasBegun w route old.fed new.state all =
      had-begins w t exact route step.now old.fed old.written old.state new.state step.before step.behind works other step.answer step.remembers
      fair at.state step.stepped step.keeps at.begun in
      record {
        state = subst (λ (written : List ℕ). IsStateOf w route new.fed written new.state) (sym step.written)
            (subst (λ (fed : List ℕ). IsStateOf w route fed old.written new.state) (sym step.fed) state);
        begun = subst (λ (fed : List ℕ). HasBegun w route fed new.state all) (sym step.fed) begun;
      }

  -- what begins nothing
  still-at : (old new then : Point S) (works : List Work) → new ≡ then → then.state.in_work ≡ old.state.in_work → IsAt then works
      → IsAt new (works ++ begun_by old.state.in_work new.state.in_work)
  still-at old new then works is same at =
      let none : begun_by old.state.in_work then.state.in_work ≡ [] =
      ap (λ (i : Option (PackageView S)). begun_by old.state.in_work i) same ∙ begins-none old.state.in_work in
      subst (λ (point : Point S). IsAt point (works ++ begun_by old.state.in_work point.state.in_work)) (sym is) (record {
        state = at.state;
        begun = nothing-more w route then.fed then.state works (begun_by old.state.in_work then.state.in_work) none at.begun;
      })

  fed-in_work : (state : ConnectionState S) (piece : List ℕ) (end : Option End) → (fed_piece end state piece).in_work ≡ state.in_work
  fed-in_work state piece None = refl
  fed-in_work state piece (Some end) = refl

  on-at : (old new : Point S) (works : List Work) → BetweenSteps w t → IsFair w route → kind_of old.fed ≢ kind.letter
      → GoesOn w t exact route old new → IsAt old works → IsAt new (works ++ begun_by old.state.in_work new.state.in_work)
  on-at old new works laws fair other (inl step) at = step-at old new works fair other step at
  on-at old new works laws fair other (inr (inl is)) at =
      let then : Point S = record old { state = with_piece old.state is.piece; fed = old.fed ++ is.piece } in
      still-at old new then works is.then (fed-in_work old.state is.piece old.state.end) (record {
        state = laws.fed route old.fed old.written is.piece old.state is.goes_on at.state;
        begun = (stays-begun w route old.fed old.state works at.begun).fed_on is.piece is.goes_on;
      })
  on-at old new works laws fair other (inr (inr (inl is))) at =
      let then : Point S = record old { state = with_end old.state } in
      still-at old new then works is refl (record {
        state = laws.ended route old.fed old.written old.state at.state;
        begun = (stays-begun w route old.fed old.state works at.begun).ended;
      })
  on-at old new works laws fair other (inr (inr (inr is))) at =
      let then : Point S = record old { state = without_out old.state; written = old.written ++ old.state.out } in
      still-at old new then works is refl (record {
        state = laws.written route old.fed old.written old.state at.state;
        begun = (stays-begun w route old.fed old.state works at.begun).written;
      })

  -- ---- all of it

  through-at : (point : Point S) (points : List (Point S)) (works : List Work) → BetweenSteps w t → IsFair w route
      → kind_of (last_of point points).fed ≢ kind.letter → GoesThrough (GoesOn w t exact route) point points → IsAt point works
      → IsAt (last_of point points) (works ++ begun_through point points)
  through-at point [] works laws fair other goes at = subst (λ (ws : List Work). IsAt point ws) (sym (append-nil works)) at
  through-at point (next ∷ points) works laws fair other goes at =
      let one = begun_by point.state.in_work next.state.in_work in
      let before = other-on point next goes.0 (other-through next points goes.1 other) in
      subst (λ (ws : List Work). IsAt (last_of next points) ws) (append_assoc works one (begun_through next points))
      (through-at next points (works ++ one) laws fair other goes.1 (on-at point next works laws fair before goes.0 at))

pub goes-begin : {W S : Type 0} (w : world.Ghosts W) (t : sitting.Ghosts S W) → BetweenSteps w t → GoesBegin w t
goes-begin w t laws exact route start points works fair other state goes h =
    (through-at w t exact route start points works laws fair other goes (record { state = state; begun = h })).begun
