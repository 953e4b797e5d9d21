-- A connection whose request in work had its turn, by its parts.
use Rattle.std.proofs.Common.{◌≡◌, ◌∙◌, ℕ, Bool, true, false, Option, Some, None, ap, refl, subst, sym}
use Rattle.std.specs.Prelude.{IfSome, IsSome, is_some}
use Rattle.std.specs.List.{AllByRecursion}
use Rattle.z_types.specs.declared.marks.End.{End}
use Rattle.z_types.specs.declared.sitting.Sitting as sitting
use Rattle.z_types.specs.declared.world.World as world
use Rattle.z_frame.specs.Framing.{Framing}
use Rattle.route_config.specs.declared.route.Route.{Route}
use Rattle.package.specs.steps.Packages.{PackageView}
use Rattle.front_conn.specs.declared.stepped.Stepped.{Stepped}
use Rattle.front_conn.specs.declared.stepped.Stepped.TheVariants.{Idle}
use Rattle.front_conn.specs.steps.Answering.{AnsweringState, Outside, TurnsWork}
use Rattle.front_conn.specs.steps.States.{ConnectionState, HasLegsOf, IsConnOf}
use Rattle.front_conn.specs.steps.Steps.{GoesAhead, HasTurned, IsStepped, KeepsState, IsStepFrom, UnlessMemory}
use Rattle.front_conn.proofs.StepLemmas.{state_of}
use Rattle.front_conn.proofs.TurnLemmas.{TurnLaws, turned-keeps, turned-sets}

-- what is so of the thing that is there
pub at-some : {A P : Type 0} (thing : Option A) → IsSome thing → ((x : A) → thing ≡ Some x → P) → P
at-some None some f = let wrong : false ≡ true = some in absurd cc
at-some (Some x) some f = f x refl

if-some : {A : Type 0} (P Q : A → Type 0) (thing : Option A) → IfSome thing P → ((x : A) → P x → Q x) → IfSome thing Q
if-some P Q None h f = tt
if-some P Q (Some x) h f = f x h

module _ {W S : Type 0} (w : world.Ghosts W) (t : sitting.Ghosts S W) (exact : Bool) (route : Route) (now : ℕ) (f : Framing)
    (a b : AnsweringState S) (end new_end : Option End) (has_ended : Bool) (old : ConnectionState S) (answer : Stepped)
    (before behind : Outside S) (is : state_of f a end has_ended ≡ old) (goes : old.end ≡ None)
    (turns : IfSome a.in_work (λ v. TurnsWork w t exact route now v a b answer new_end before behind)) where
  abbrev here : ConnectionState S
  here = state_of f a end has_ended

  abbrev then : ConnectionState S
  then = state_of f b new_end has_ended

  goes-here : end ≡ None
  goes-here = ap (λ (s : ConnectionState S). s.end) is ∙ goes

  some-here : IsSome old.in_work → IsSome a.in_work
  some-here some = subst (λ (s : ConnectionState S). IsSome s.in_work) (sym is) some

  pub has-turned : IfSome old.in_work (λ v. HasTurned w t exact route now v old then answer before behind)
  has-turned =
      subst (λ (s : ConnectionState S). IfSome s.in_work (λ v. HasTurned w t exact route now v s then answer before behind)) is
      (if-some (λ v. TurnsWork w t exact route now v a b answer new_end before behind)
      (λ v. HasTurned w t exact route now v here then answer before behind) a.in_work turns
      (λ view h. record { turns = h; input = record { at = refl; left = refl; has_ended = refl } }))

  -- the turn of the package that is there
  turn-of : (view : PackageView S) → a.in_work ≡ Some view → TurnsWork w t exact route now view a b answer new_end before behind
  turn-of view works =
      subst (λ (i : Option (PackageView S)). IfSome i (λ v. TurnsWork w t exact route now v a b answer new_end before behind)) works turns

  pub turn-keeps : IsSome old.in_work → TurnLaws w t route → UnlessMemory answer (KeepsState w route old then)
  turn-keeps some laws =
      at-some a.in_work (some-here some) (λ view works.
      let h = turn-of view works in
      subst (λ (s : ConnectionState S). UnlessMemory answer (KeepsState w route s then)) is
      (turned-keeps w t route behind.door.counts.most here then view h.next h.of h.law.work h.turned answer laws
      goes-here works h.one_work h.works (record { at = refl; left = refl; has_ended = refl })))

  pub turn-of-route : IsSome old.in_work → AllByRecursion (HasLegsOf route) old.session.sets
      → IsConnOf w t route behind.door.counts.most then
  turn-of-route some sets = λ goes_on.
      at-some a.in_work (some-here some) (λ view works.
      let h = turn-of view works in record {
        sets = turned-sets w t route behind.door.counts.most here then view h.next h.of h.law.work h.turned answer
            (subst (λ (s : ConnectionState S). AllByRecursion (HasLegsOf route) s.session.sets) (sym is) sets) goes_on h.works;
        in_work = h.ready goes_on;
        one_work = h.one_work goes_on;
      })

-- ---- any step

module _ {W S : Type 0} (w : world.Ghosts W) (t : sitting.Ghosts S W) (exact : Bool) (route : Route) (now : ℕ)
    (old new : ConnectionState S) (answer : Stepped) (before behind : Outside S) where
  -- of a connection that has ended
  pub stepped-ended : IsSome old.end → answer ≡ Idle → new ≡ old → behind ≡ before → IsStepped w t exact route now old new answer before behind
  stepped-ended some says same still =
      at-some old.end some (λ end is.
      subst (λ (e : Option End). IsStepFrom w t exact route now e old.in_work old new answer before behind) (sym is) (says, same, still))

  -- of one with a request in work
  pub stepped-turned : old.end ≡ None → IsSome old.in_work → IfSome old.in_work (λ v. HasTurned w t exact route now v old new answer before behind)
      → IsStepped w t exact route now old new answer before behind
  stepped-turned goes some turned =
      at-some old.in_work some (λ view works.
      subst (λ (e : Option End). IsStepFrom w t exact route now e old.in_work old new answer before behind) (sym goes)
      (subst (λ (i : Option (PackageView S)). IsStepFrom w t exact route now None i old new answer before behind) (sym works)
      (subst (λ (i : Option (PackageView S)). IfSome i (λ v. HasTurned w t exact route now v old new answer before behind)) works turned)))

  -- of another
  pub stepped-ahead : old.end ≡ None → old.in_work ≡ None → GoesAhead route old new answer → behind ≡ before
      → IsStepped w t exact route now old new answer before behind
  stepped-ahead goes rests ahead still =
      subst (λ (e : Option End). IsStepFrom w t exact route now e old.in_work old new answer before behind) (sym goes)
      (subst (λ (i : Option (PackageView S)). IsStepFrom w t exact route now None i old new answer before behind) (sym rests) (ahead, still))

-- what is there, and what is not
pub is-some : {A : Type 0} (thing : Option A) → is_some thing ≡ true → IsSome thing
is-some None h = h
is-some (Some x) h = refl

pub is-none : {A : Type 0} (thing : Option A) → is_some thing ≡ false → thing ≡ None
is-none None h = refl
is-none (Some x) h = let wrong : true ≡ false = h in absurd cc
