-- A connection that is driven, by its parts
use Rattle.std.proofs.Common.{◌≡◌, ◌∙◌, ℕ, Bool, true, false, inl, inr, List, [], ◌∷◌, map, Option, None, Some, Result, Ok, Err, ap, refl, subst, sym}
use Rattle.std.specs.Prelude.{IfSome, IsSome}
use Rattle.std.specs.Option.{option_map}
use Rattle.z_types.specs.Chains.{HasStepped, StepsFrom}
use Rattle.z_types.specs.declared.marks.End.{End}
use Rattle.z_types.specs.declared.memory.Memory.{Memory as NoMemory}
use Rattle.z_types.specs.declared.sitting.Sitting as sitting
use Rattle.z_types.specs.declared.world.World as world
use Rattle.z_frame.specs.Framing.{Framing}
use Rattle.route_config.specs.declared.route.Route.{Route}
use Rattle.front_http.specs.front_sru.declared.begun.Begun as sru_begun
use Rattle.front_http.specs.front_sru.declared.begun.Begun.TheVariants as get
use Rattle.front_http.specs.front_sru.declared.state.SruStage.{SruStage}
use Rattle.front_http.specs.front_sru.declared.state.SruStage.TheVariants as stage
use Rattle.package.specs.leg.declared.answers.Turned.{Turned}
use Rattle.package.specs.leg.declared.answers.Turned.TheVariants as turned
use Rattle.package.specs.leg.Turns.{DoorView}
use Rattle.package.specs.steps.Ends.{lost_seats}
use Rattle.package.specs.steps.Packages.{PackageView}
use Rattle.front_conn.specs.declared.stepped.Stepped.{Stepped}
use Rattle.front_conn.specs.declared.stepped.Stepped.TheVariants.{Idle, Memory, NotYet, Went}
use Rattle.front_conn.specs.steps.Answering.{AnsweringState, EndsAt, IsEndAfter, IsKeptBehindGet, Outside, WorksOn, legs_in}
use Rattle.front_conn.specs.steps.Drives.{ConnAt, DrivesWork, GoesOnTo, HasDriven, IsAwaited, IsInWork, StepsTo, around, given_up_at, package_in}
use Rattle.front_conn.specs.steps.Feeding.{without_work}
use Rattle.front_conn.specs.steps.States.{ConnectionState, IsConnOf, IsOfRoute}
use Rattle.front_conn.specs.steps.Steps.{HasTurned, KeepsState, IsStepFrom, UnlessMemory, answering_of}
use Rattle.z_types.proofs.ChainLemmas.{steps-on}
use Rattle.front_conn.proofs.DriveLemmas.{at-of, conn_with, stepped-keeps, stepped-so, same-route, still-waits}
use Rattle.front_conn.proofs.StepLemmas.{state_of}
use Rattle.front_conn.proofs.TurnLemmas.{TurnLaws}
use Rattle.front_conn.proofs.TurnedLemmas.{at-some, has-turned, turn-keeps, turn-of-route}

-- ---- how a step leaves a connection whose request was in work

module _ {S : Type 0} where
  -- it goes on, or the request is answered: with a request in work it has not ended
  abbrev StandsBehind : Stepped → ConnectionState S → Type 0
  StandsBehind Idle next = ⊥
  StandsBehind NotYet next = IsInWork next
  StandsBehind Went next = IsSome next.in_work → next.end ≡ None
  StandsBehind Memory next = Unit {0}

  none-works : (works : Option (PackageView S)) → works ≡ None → IsSome works → ⊥
  none-works None rests some = let wrong : false ≡ true = some in absurd cc
  none-works (Some view) rests some = absurd cc

  behind-get : (route : Route) (next : PackageView S) (old new : AnsweringState S) (ended : Option End) (answer : sru_begun.Begun)
      → IsKeptBehindGet route next old new ended answer → IsSome new.in_work → ended ≡ None
  behind-get route next old new ended (get.Write mark end) kept some = absurd (none-works new.in_work kept.2 some)
  behind-get route next old new ended (get.Work job) kept some = kept.0
  behind-get route next old new ended get.Memory kept some = absurd kept

  behind-work : (route : Route) (at : SruStage) (next : PackageView S) (old new : AnsweringState S) (ended : Option End)
      → EndsAt route at next old new (Ok ended) → IsSome new.in_work → ended ≡ None
  behind-work route stage.Idle next old new ended went some = went.0
  behind-work route (stage.Searching retrieval) next old new ended went some = behind-get route next old new ended went.answer went.kept some
  behind-work route (stage.Fetching retrieval hits) next old new ended went some = behind-get route next old new ended went.answer went.kept some

  behind-over : (route : Route) (at : SruStage) (next : PackageView S) (old : AnsweringState S) (new : ConnectionState S)
      (done : Result (Option End) NoMemory) (answer : Stepped) → EndsAt route at next old (answering_of new) done
      → IsEndAfter done new.end answer → StandsBehind answer new
  behind-over route at next old new (Ok ended) answer went after =
      subst (λ (s : Stepped). StandsBehind s new) (sym after.1)
      (λ some. after.0 ∙ behind-work route at next old (answering_of new) ended went some)
  behind-over route at next old new (Err want) answer went after = subst (λ (s : Stepped). StandsBehind s new) (sym after.1) tt

  behind-turn : (route : Route) (answered : Turned) (next : PackageView S) (old : AnsweringState S) (new : ConnectionState S)
      (answer : Stepped) → WorksOn route answered next old (answering_of new) answer new.end → StandsBehind answer new
  behind-turn route turned.Went next old new answer works =
      subst (λ (s : Stepped). StandsBehind s new) (sym works.0) (λ some. works.2)
  behind-turn route turned.NotYet next old new answer works =
      subst (λ (s : Stepped). StandsBehind s new) (sym works.0)
      (record { goes_on = works.2; works = subst (λ (a : AnsweringState S). IsSome a.in_work) (sym works.1) refl })
  behind-turn route turned.Memory next old new answer works = subst (λ (s : Stepped). StandsBehind s new) (sym works.0) tt
  behind-turn route turned.Done next old new answer works =
      behind-over route old.stage next old new works.done answer works.ends.went works.after

  -- where it lacked no memory, the request is in work behind it
  pub behind-awaited : (next : ConnectionState S) (answer : Stepped) → StandsBehind answer next → (answer ≡ Memory → ⊥) → IsAwaited answer
  behind-awaited next Idle stands enough = absurd stands
  behind-awaited next Went stands enough = inl refl
  behind-awaited next NotYet stands enough = inr refl
  behind-awaited next Memory stands enough = absurd (enough refl)

  -- or it is answered
  rests-by : (works : Option (PackageView S)) → (IsSome works → ⊥) → works ≡ None
  rests-by None rests = refl
  rests-by (Some view) rests = absurd (rests refl)

  pub behind-answered : (next : ConnectionState S) (answer : Stepped) → StandsBehind answer next → (answer ≡ Memory → ⊥)
      → (IsInWork next → ⊥) → (answer ≡ Went) × (next.in_work ≡ None)
  behind-answered next Idle stands enough rests = absurd stands
  behind-answered next Went stands enough rests =
      (refl, rests-by next.in_work (λ some. rests (record { goes_on = stands some; works = some })))
  behind-answered next NotYet stands enough rests = absurd (rests stands)
  behind-answered next Memory stands enough rests = absurd (enough refl)

-- what holds of a step that did not run out of memory
pub if-enough : (answer : Stepped) (fact : Type 0) → UnlessMemory answer fact → (answer ≡ Memory → ⊥) → fact
if-enough Idle fact keeps enough = keeps
if-enough Went fact keeps enough = keeps
if-enough NotYet fact keeps enough = keeps
if-enough Memory fact keeps enough = absurd (enough refl)

-- what is kept over both
keeps-both : {W S : Type 0} (w : world.Ghosts W) (route : Route) (first amid last : ConnectionState S) (answer : Stepped)
    → KeepsState w route first amid → UnlessMemory answer (KeepsState w route amid last) → UnlessMemory answer (KeepsState w route first last)
keeps-both w route first amid last Idle one other = λ fair fed written h. other fair fed written (one fair fed written h)
keeps-both w route first amid last Went one other = λ fair fed written h. other fair fed written (one fair fed written h)
keeps-both w route first amid last NotYet one other = λ fair fed written h. other fair fed written (one fair fed written h)
keeps-both w route first amid last Memory one other = tt

-- ---- steps one behind another

module _ {W S : Type 0} (w : world.Ghosts W) (t : sitting.Ghosts S W) (exact : Bool) (route : Route) where
  -- a request is in work behind each
  stepped-works : (first last : ConnAt S) (earlier : List (ConnAt S)) → HasStepped (GoesOnTo w t exact route) first earlier last → IsInWork first.conn
      → IsInWork last.conn
  stepped-works first last [] same works = subst (λ (p : ConnAt S). IsInWork p.conn) (sym same) works
  stepped-works first last (mid ∷ earlier) stepped works = stepped.1.in_work

  step-behind : (here next : ConnAt S) (answer : Stepped) → IsInWork here.conn → StepsTo w t exact route here next answer
      → StandsBehind answer next.conn
  step-behind here next answer works step =
      at-some here.conn.in_work works.works (λ view is.
      let old = here.conn in
      let new = next.conn in
      let h : HasTurned w t exact route step.now view old new answer here.outside next.outside =
      subst (λ (i : Option (PackageView S)). IsStepFrom w t exact route step.now None i old new answer here.outside next.outside) is
      (subst (λ (e : Option End). IsStepFrom w t exact route step.now e old.in_work old new answer here.outside next.outside) works.goes_on
      step.stepped) in
      behind-turn route h.turns.turned h.turns.next (answering_of old) new answer h.turns.works)

  -- how the last one leaves it
  pub driven-behind : (first last : ConnAt S) (answer : Stepped) → IsInWork first.conn → HasDriven w t exact route first last answer
      → StandsBehind answer last.conn
  driven-behind first last answer works driven =
      step-behind driven.amid last answer (stepped-works first driven.amid driven.goes.0 driven.goes.1 works) driven.ends

  -- a package more was driven
  pub driven-more : (first here last : ConnAt S) (answer : Stepped) → StepsFrom (GoesOnTo w t exact route) first here
      → HasDriven w t exact route here last answer → HasDriven w t exact route first last answer
  driven-more first here last answer goes driven = record {
    amid = driven.amid;
    goes = steps-on (GoesOnTo w t exact route) first here driven.amid goes driven.goes;
    ends = driven.ends;
  }

  -- and another one is in work
  pub driven-on : (first here next : ConnAt S) (answer : Stepped) → StepsFrom (GoesOnTo w t exact route) first here → IsInWork here.conn
      → HasDriven w t exact route here next answer → (answer ≡ Memory → ⊥) → IsInWork next.conn → StepsFrom (GoesOnTo w t exact route) first next
  driven-on first here next answer goes works driven enough on =
      let more = driven-more first here next answer goes driven in (
        more.amid ∷ more.goes.0,
        (
          more.goes.1,
          record {
            answer = answer;
            awaited = behind-awaited next.conn answer (driven-behind here next answer works driven) enough;
            step = more.ends;
            in_work = on;
          },
        ),
      )

  -- or all is answered
  pub driven-all : (first here last : ConnAt S) (answer : Stepped) → StepsFrom (GoesOnTo w t exact route) first here → IsInWork here.conn
      → HasDriven w t exact route here last answer → (answer ≡ Memory → ⊥) → (IsInWork last.conn → ⊥)
      → HasDriven w t exact route first last Went × (last.conn.in_work ≡ None)
  driven-all first here last answer goes works driven enough rests =
      let behind = behind-answered last.conn answer (driven-behind here last answer works driven) enough rests in (
        subst (λ (s : Stepped). HasDriven w t exact route first last s) behind.0 (driven-more first here last answer goes driven),
        behind.1,
      )

-- ---- a connection whose package is driven

-- it is of the route, by its parts
module _ {W S : Type 0} (w : world.Ghosts W) (t : sitting.Ghosts S W) (route : Route) (most : ℕ) (f : Framing) (a : AnsweringState S)
    (end : Option End) (has_ended : Bool) (old : ConnectionState S) (is : state_of f a end has_ended ≡ old) (works : IsInWork old) where
  pub no-end : end ≡ None
  no-end = ap (λ (s : ConnectionState S). s.end) is ∙ works.goes_on

  pub some-work : IsSome a.in_work
  some-work = subst (λ (s : ConnectionState S). IsSome s.in_work) (sym is) works.works

  pub parts-of : IsConnOf w t route most old → IsOfRoute w t route most a.session a.stage a.in_work
  parts-of of =
      subst (λ (s : ConnectionState S). IsOfRoute w t route most s.session s.stage s.in_work) (sym is) (of works.goes_on)

  -- with the package that is there
  conn-here : (view : PackageView S) → a.in_work ≡ Some view → state_of f (record a { in_work = Some view }) None has_ended ≡ old
  conn-here view there =
      let same : state_of f (record a { in_work = Some view }) None has_ended ≡ state_of f a end has_ended =
      λ i. state_of f (record a { in_work = sym there i }) (sym no-end i) has_ended in
      same ∙ is

  of-here : (view : PackageView S) → a.in_work ≡ Some view → IsConnOf w t route most old
      → IsOfRoute w t route most a.session a.stage (Some view)
  of-here view there of =
      subst (λ (i : Option (PackageView S)). IsOfRoute w t route most a.session a.stage i) there (parts-of of)

module _ {W S : Type 0} (w : world.Ghosts W) (t : sitting.Ghosts S W) (exact : Bool) (route : Route) (f : Framing)
    (a b : AnsweringState S) (end new_end : Option End) (has_ended : Bool) (old : ConnectionState S) (answer : Stepped)
    (before behind : Outside S) (is : state_of f a end has_ended ≡ old) (works : IsInWork old)
    (of : IsConnOf w t route before.door.counts.most old)
    (drives : IfSome a.in_work (λ v. DrivesWork w t exact route v a b answer new_end before behind)) where
  abbrev then : ConnectionState S
  then = state_of f b new_end has_ended

  -- what answers, with this package
  abbrev holding : PackageView S → AnsweringState S
  holding carried = record a { in_work = Some carried }

  drive-here : (view : PackageView S) → a.in_work ≡ Some view → DrivesWork w t exact route view a b answer new_end before behind
  drive-here view there =
      subst (λ (i : Option (PackageView S)). IfSome i (λ v. DrivesWork w t exact route v a b answer new_end before behind)) there drives

  route-here : (view : PackageView S) → a.in_work ≡ Some view → IsOfRoute w t route before.door.counts.most a.session a.stage (Some view)
  route-here view there = of-here w t route before.door.counts.most f a end has_ended old is works view there of

  same-here : (view : PackageView S) → a.in_work ≡ Some view → state_of f (holding view) None has_ended ≡ old
  same-here view there = conn-here w t route before.door.counts.most f a end has_ended old is works view there

  pub has-driven : HasDriven w t exact route (record { conn = old; outside = before }) (record { conn = then; outside = behind }) answer
  has-driven =
      at-some a.in_work (some-work w t route before.door.counts.most f a end has_ended old is works) (λ view there.
      let o = route-here view there in
      let h = drive-here view there in
      let start = package_in view before in
      let amid = conn_with f a has_ended h.amid in
      let of_route = same-route w t exact route start h.amid h.goes.0 o.in_work h.goes.1 in
      let waits = still-waits w t exact route a start h.amid h.goes.0 h.goes.1 o.one_work in
      subst (λ (s : ConnectionState S).
      HasDriven w t exact route (record { conn = s; outside = before }) (record { conn = then; outside = behind }) answer)
      (same-here view there) (record {
        amid = amid;
        goes = (
          map (conn_with f a has_ended) h.goes.0,
          stepped-so w t exact route f a has_ended o.sets start h.amid h.goes.0 o.in_work o.one_work h.goes.1,
        );
        ends = record {
          now = h.now;
          of = at-of w t exact route f a has_ended o.sets h.amid of_route waits;
          stepped = has-turned w t exact route h.now f (holding h.amid.view) b None new_end has_ended amid.conn answer (around h.amid) behind
              refl refl h.turns;
        };
      }))

  pub drive-of-route : IsConnOf w t route behind.door.counts.most then
  drive-of-route =
      at-some a.in_work (some-work w t route before.door.counts.most f a end has_ended old is works) (λ view there.
      let o = route-here view there in
      let h = drive-here view there in
      turn-of-route w t exact route h.now f (holding h.amid.view) b None new_end has_ended (conn_with f a has_ended h.amid).conn answer
      (around h.amid) behind refl refl h.turns refl o.sets)

  pub drive-keeps : TurnLaws w t route → UnlessMemory answer (KeepsState w route old then)
  drive-keeps laws =
      at-some a.in_work (some-work w t route before.door.counts.most f a end has_ended old is works) (λ view there.
      let o = route-here view there in
      let h = drive-here view there in
      let start = package_in view before in
      let amid = conn_with f a has_ended h.amid in
      subst (λ (s : ConnectionState S). UnlessMemory answer (KeepsState w route s then)) (same-here view there)
      (keeps-both w route (conn_with f a has_ended start).conn amid.conn then answer
      (stepped-keeps w t exact route f a has_ended o.sets start h.amid h.goes.0 h.goes.1)
      (turn-keeps w t exact route h.now f (holding h.amid.view) b None new_end has_ended amid.conn answer (around h.amid) behind refl refl
      h.turns refl laws)))

-- ---- a connection that was given up

-- it is of any route that it was of
pub given-of : {W S : Type 0} (w : world.Ghosts W) (t : sitting.Ghosts S W) (route : Route) (most behind : ℕ) (state new : ConnectionState S)
    → new ≡ without_work state → IsConnOf w t route most state → IsConnOf w t route behind new
given-of {S = S} w t route most behind state new given of =
    let stays : IsConnOf w t route behind (without_work state) =
    λ goes. record { sets = (of goes).sets; in_work = tt; one_work = tt } in
    subst (λ (s : ConnectionState S). IsConnOf w t route behind s) (sym given) stays

-- where it stands then
pub given-at : {S : Type 0} (lacking : ConnAt S) (new : ConnectionState S) (door : DoorView S) → new ≡ without_work lacking.conn
    → door.pool ≡ option_map (lost_seats (legs_in lacking.conn.in_work)) lacking.outside.door.pool
    → door.counts ≡ lacking.outside.door.counts
    → record { conn = new; outside = record { door = door; backend = lacking.outside.backend } } ≡ given_up_at lacking
given-at lacking new door given pool counts =
    λ i. record {
      conn = given i;
      outside = record { door = record { pool = pool i; counts = counts i }; backend = lacking.outside.backend };
    }
