-- when a connection has no request in work
use Rattle.std.proofs.Common.{◌≡◌, ◌∙◌, ◌⊎◌, ℕ, Bool, true, false, inl, inr, List, Option, None, Some, IsSome, Result, Ok, Err, refl, sym, ap, subst}
use Rattle.z_types.specs.declared.marks.End.{End}
use Rattle.z_types.specs.declared.memory.Memory.{Memory as NoMemory}
use Rattle.z_types.specs.declared.sitting.Sitting as sitting
use Rattle.z_types.specs.declared.world.World as world
use Rattle.route_config.specs.declared.route.Route.{Route}
use Rattle.replay.specs.front_z.declared.units.Begun.{Begun}
use Rattle.replay.specs.front_z.declared.units.Begun.TheVariants as begun
use Rattle.replay.specs.front_sru.declared.begun.Begun as sru_begun
use Rattle.replay.specs.front_sru.declared.begun.Begun.TheVariants as get
use Rattle.replay.specs.front_sru.declared.state.SruStage.{SruStage}
use Rattle.replay.specs.front_sru.declared.state.SruStage.TheVariants as stage
use Rattle.replay.specs.leg.declared.answers.Turned.{Turned}
use Rattle.replay.specs.leg.declared.answers.Turned.TheVariants as turned
use Rattle.replay.specs.package.steps.Packages.{PackageView}
use Rattle.replay.specs.front_conn.declared.stepped.Stepped.{Stepped}
use Rattle.replay.specs.front_conn.declared.stepped.Stepped.TheVariants.{Idle, NotYet, Went, Memory}
use Rattle.replay.specs.front_conn.steps.Answering.{AnsweringState, EndsAt, IsEndAfter, IsGetEndedIf, IsKeptBehind, IsKeptBehindGet, IsKeptBehindHead, Outside, WorksOn}
use Rattle.replay.specs.front_conn.steps.Feeding.{fed_piece, with_piece}
use Rattle.replay.specs.front_conn.steps.States.{ConnectionState}
use Rattle.replay.specs.front_conn.steps.Steps.{EndsByRest, GoesAhead, IsStepped, IsStepFrom, TakesHead, TakesUnit, answering_of}
use Rattle.replay.specs.front_conn_costs.steps.Conns.{RestsIfEnded}
use Rattle.replay.specs.Clients.{is_idle}

-- what has no end has not ended
unended : {X P : Type 0} (end : Option X) → end ≡ None → IsSome end → P
unended None e some = let wrong : false ≡ true = some in absurd cc
unended (Some x) e some = absurd cc

-- ---- a step

module _ {S : Type 0} (route : Route) where
  -- behind a work none is in work, or the connection goes on
  got-left : (view : PackageView S) (old new : AnsweringState S) (ended : Option End) (answer : sru_begun.Begun)
      → IsKeptBehindGet route view old new ended answer → (new.in_work ≡ None) ⊎ (ended ≡ None)
  got-left view old new ended (get.Write mark end) h = inl h.2
  got-left view old new ended (get.Work job) h = inr h.0
  got-left view old new ended get.Memory h = absurd h

  get-left : (view : PackageView S) (old new : AnsweringState S) (done : Result (Option End) NoMemory) (end : Option End) (answer : Stepped)
      → IsGetEndedIf route view old new done → IsEndAfter done end answer → (new.in_work ≡ None) ⊎ (end ≡ None)
  get-left view old new (Ok ended) end answer h after =
      elim (got-left view old new ended h.answer h.kept) [ inl none ↦ inl none | inr none ↦ inr (after.0 ∙ none) ]
  get-left view old new (Err memory) end answer h after = inl h.1

  over-left : (at_ : SruStage) (view : PackageView S) (old new : AnsweringState S) (done : Result (Option End) NoMemory) (end : Option End)
      (answer : Stepped) → EndsAt route at_ view old new done → IsEndAfter done end answer → (new.in_work ≡ None) ⊎ (end ≡ None)
  over-left stage.Idle view old new (Ok ended) end answer h after = inl h.1
  over-left stage.Idle view old new (Err memory) end answer h after = inl h.1
  over-left (stage.Searching retrieval) view old new done end answer h after = get-left view old new done end answer h after
  over-left (stage.Fetching retrieval hits) view old new done end answer h after = get-left view old new done end answer h after

  module _ (old new : ConnectionState S) where
    begun-rests : (answer : Begun) → IsKeptBehind route (answering_of old) (answering_of new) new.end answer → RestsIfEnded new
    begun-rests (begun.Write mark end) h = λ ended. h.2
    begun-rests (begun.Work job) h = λ ended. unended new.end h.0 ended
    begun-rests begun.Memory h = absurd h

    head-rests : (answer : sru_begun.Begun) → IsKeptBehindHead route (answering_of old) (answering_of new) new.end answer → RestsIfEnded new
    head-rests (get.Write mark end) h = λ ended. h.2
    head-rests (get.Work job) h = λ ended. unended new.end h.0 ended
    head-rests get.Memory h = absurd h

    went-rests : old.in_work ≡ None → TakesUnit route old new ⊎ TakesHead route old new ⊎ EndsByRest old new → RestsIfEnded new
    went-rests none (inl h) = begun-rests h.begun.answer h.begun.kept
    went-rests none (inr (inl h)) = head-rests h.taken.answer h.taken.kept
    went-rests none (inr (inr h)) = λ ended. h.in_work ∙ none

    ahead-rests : (answer : Stepped) → old.in_work ≡ None → GoesAhead route old new answer → RestsIfEnded new
    ahead-rests Idle none h = λ ended. ap (λ (c : ConnectionState S). c.in_work) h.1 ∙ none
    ahead-rests NotYet none h = absurd h
    ahead-rests Went none h = went-rests none h.2
    ahead-rests Memory none h = λ ended. h.unbegun.in_work

    left-rests : (new.in_work ≡ None) ⊎ (new.end ≡ None) → RestsIfEnded new
    left-rests (inl none) = λ ended. none
    left-rests (inr none) = λ ended. unended new.end none ended

    works-rests : (answer : Turned) (next : PackageView S) (said : Stepped) → (said ≡ Memory → ⊥)
        → WorksOn route answer next (answering_of old) (answering_of new) said new.end → RestsIfEnded new
    works-rests turned.Went next said has h = λ ended. unended new.end h.2 ended
    works-rests turned.NotYet next said has h = λ ended. unended new.end h.2 ended
    works-rests turned.Memory next said has h = absurd (has h.0)
    works-rests turned.Done next said has h =
        left-rests (over-left old.stage next (answering_of old) (answering_of new) h.done new.end said h.ends.went h.after)

    -- where a turn was had, the step was not idle
    idle-over : (done : Result (Option End) NoMemory) → IsEndAfter done new.end Idle → ⊥
    idle-over (Ok ended) h = let wrong : Idle ≡ Went = h.1 in absurd cc
    idle-over (Err memory) h = let wrong : Idle ≡ Memory = h.1 in absurd cc

    idle-works : (answer : Turned) (next : PackageView S) → WorksOn route answer next (answering_of old) (answering_of new) Idle new.end → ⊥
    idle-works turned.Went next h = let wrong : Idle ≡ Went = h.0 in absurd cc
    idle-works turned.NotYet next h = let wrong : Idle ≡ NotYet = h.0 in absurd cc
    idle-works turned.Memory next h = let wrong : Idle ≡ Memory = h.0 in absurd cc
    idle-works turned.Done next h = idle-over h.done h.after

module _ {W S : Type 0} (w : world.Ghosts W) (t : sitting.Ghosts S W) (exact : Bool) (route : Route) (now : ℕ)
    (old new : ConnectionState S) (before behind : Outside S) where
  from-rests : (end : Option End) (in_work : Option (PackageView S)) (answer : Stepped) → old.in_work ≡ in_work → (answer ≡ Memory → ⊥)
      → RestsIfEnded old → IsStepFrom w t exact route now end in_work old new answer before behind → RestsIfEnded new
  from-rests (Some end) in_work answer e has rests h = subst (λ (c : ConnectionState S). RestsIfEnded c) (sym h.1) rests
  from-rests None None answer e has rests h = ahead-rests route old new answer e h.0
  from-rests None (Some view) answer e has rests h = works-rests route old new h.turns.turned h.turns.next answer has h.turns.works

  -- a connection that has ended has no request in work, behind each step
  pub step-rests : (answer : Stepped) → (answer ≡ Memory → ⊥) → RestsIfEnded old
      → IsStepped w t exact route now old new answer before behind → RestsIfEnded new
  step-rests answer has rests h = from-rests old.end old.in_work answer refl has rests h

  idle-from : (end : Option End) (in_work : Option (PackageView S)) → old.end ≡ end → old.in_work ≡ in_work → RestsIfEnded old
      → IsStepFrom w t exact route now end in_work old new Idle before behind → new.in_work ≡ None
  idle-from (Some end) in_work e f rests h =
      ap (λ (c : ConnectionState S). c.in_work) h.1 ∙ rests (subst (λ (o : Option End). IsSome o) (sym e) refl)
  idle-from None None e f rests h = ap (λ (c : ConnectionState S). c.in_work) h.0.1 ∙ f
  idle-from None (Some view) e f rests h = absurd (idle-works route old new h.turns.turned h.turns.next h.turns.works)

  -- and one that a step finds idle has none
  pub step-idle : (answer : Stepped) → true ≡ is_idle answer → RestsIfEnded old
      → IsStepped w t exact route now old new answer before behind → new.in_work ≡ None
  step-idle Idle e rests h = idle-from old.end old.in_work refl refl rests h
  step-idle NotYet e rests h = absurd cc
  step-idle Went e rests h = absurd cc
  step-idle Memory e rests h = absurd cc

-- ---- what comes

module _ {S : Type 0} where
  piece-work : (end : Option End) (state : ConnectionState S) (piece : List ℕ) → (fed_piece end state piece).in_work ≡ state.in_work
  piece-work None state piece = refl
  piece-work (Some end) state piece = refl

  piece-rests : (end : Option End) (state : ConnectionState S) (piece : List ℕ) → RestsIfEnded state → RestsIfEnded (fed_piece end state piece)
  piece-rests None state piece rests = rests
  piece-rests (Some end) state piece rests = rests

  pub fed-work : (state : ConnectionState S) (piece : List ℕ) → (with_piece state piece).in_work ≡ state.in_work
  fed-work state piece = piece-work state.end state piece

  pub fed-rests : (state : ConnectionState S) (piece : List ℕ) → RestsIfEnded state → RestsIfEnded (with_piece state piece)
  fed-rests state piece rests = piece-rests state.end state piece rests
