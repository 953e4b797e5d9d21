-- A request in work that is turned, and answered where its legs are done.
use Rattle.std.proofs.Common.{◌≡◌, ◌∙◌, ℕ, Bool, true, false, List, [], ◌∷◌, ◌++◌, Option, Some, None, Result, Ok, Err, OnOk, ap, refl, subst, sym}
use Rattle.std.specs.Prelude.{IfSome, IsSome}
use Rattle.std.specs.Option.{option_map}
use Rattle.z_types.specs.declared.marks.Mark.{Mark}
use Rattle.z_types.specs.declared.memory.Memory.{Memory as NoMemory}
use Rattle.z_types.specs.declared.outcome.Outcome.{Outcome}
use Rattle.z_types.specs.declared.sitting.Sitting as sitting
use Rattle.z_types.specs.declared.work.Work.{Work}
use Rattle.z_types.specs.declared.world.World as world
use Rattle.route_config.specs.declared.route.Route.{Route}
use Rattle.front_z.specs.gateway_rules.Works.{FitsWork}
use Rattle.front_z.specs.front_session.Sessions.{SessionState, Waiting}
use Rattle.front_z.specs.Units.{IsEnded}
use Rattle.package.specs.leg.declared.accounts.Account.{Account}
use Rattle.package.specs.leg.declared.answers.Turned.{Turned}
use Rattle.package.specs.leg.declared.answers.Turned.TheVariants as what
use Rattle.package.specs.leg.LegView.{LegView}
use Rattle.package.specs.steps.Ends.{cause_in, lost_seats, outcome_in}
use Rattle.pool_sets.specs.Plain as plain
use Rattle.package.specs.steps.Packages.{IsOver, IsPackageOf, PackageView, all_accounts}
use Rattle.package.specs.steps.Turns.{IsPackageTurn}
use Rattle.front_conn.specs.declared.stepped.Stepped.{Stepped}
use Rattle.front_conn.specs.declared.totals.Total.{Total}
use Rattle.front_conn.specs.steps.Answering.{AnsweringState, EndsAt, EndsWork, IsAnsweredBy, IsEndAfter, IsGetEndedIf, IsKeptBehindGet, IsReady, IsRequestEndedIf, Outside, TurnsWork, WorksOn, given_up, legs_in, served, totals_of_all}
use Rattle.front_conn.specs.steps.States.{IsOneWork, IsWaitedAt, IsWaitedFor}
use Rattle.front_http.specs.front_sru.Gets.{work_of}
use Rattle.front_http.specs.front_sru.Kept.{is_idle}
use Rattle.front_http.specs.front_sru.declared.begun.Begun as sru_begun
use Rattle.front_http.specs.front_sru.declared.begun.Begun.TheVariants as get
use Rattle.front_http.specs.front_sru.declared.state.SruStage.{SruStage}
use Rattle.front_http.specs.front_sru.declared.state.SruStage.TheVariants.{Idle, Searching, Fetching}
use Rattle.z_types.specs.declared.marks.End.{End}
use Rattle.front_conn.specs.steps.Totals.{totals_after}

-- ---- the work that waits

one-waits : (waiting : Option Waiting) (job : Work) → IsWaitedFor waiting job → IsSome waiting
one-waits None job h = absurd h
one-waits (Some waiting) job h = refl

one-fits : (waiting : Option Waiting) (job : Work) (got : Outcome) → IsWaitedFor waiting job
    → FitsWork job got → IfSome waiting (λ w. FitsWork w.work got)
one-fits None job got h fits = absurd h
one-fits (Some waiting) job got h fits = subst (λ (j : Work). FitsWork j got) (sym h) fits

-- which work it is
waited-idle : (route : Route) (waiting : Option Waiting) (job : Work) (stage : SruStage) → is_idle stage ≡ true
    → IsWaitedAt route waiting job stage → IsWaitedFor waiting job
waited-idle route waiting job Idle idle h = h
waited-idle route waiting job (Searching retrieval) idle h = absurd cc
waited-idle route waiting job (Fetching retrieval hits) idle h = absurd cc

waited-get : (route : Route) (waiting : Option Waiting) (job : Work) (stage : SruStage) → is_idle stage ≡ false
    → IsWaitedAt route waiting job stage → work_of route stage ≡ Some job
waited-get route waiting job Idle idle h = absurd cc
waited-get route waiting job (Searching retrieval) idle h = h
waited-get route waiting job (Fetching retrieval hits) idle h = h

module _ {S : Type 0} (here old : AnsweringState S) (is : here ≡ old) (view : PackageView S) (works : here.in_work ≡ Some view) where
  -- the package in work
  old-works : old.in_work ≡ Some view
  old-works = ap (λ (a : AnsweringState S). a.in_work) (sym is) ∙ works

  -- what is so of the package in work
  pub of-work : (P : PackageView S → Type 0) → IfSome old.in_work P → P view
  of-work P h = subst (λ (i : Option (PackageView S)). IfSome i P) old-works h

  pub if-work : (P : PackageView S → Type 0) → P view → IfSome old.in_work P
  if-work P h = subst (λ (i : Option (PackageView S)). IfSome i P) (sym old-works) h

  pub one-here : (route : Route) → IsOneWork route old.session.waiting old.stage old.in_work
      → IsWaitedAt route here.session.waiting view.work here.stage
  one-here route one =
      subst (λ (a : AnsweringState S). IsOneWork route a.session.waiting a.stage (Some view)) (sym is)
      (subst (λ (i : Option (PackageView S)). IsOneWork route old.session.waiting old.stage i) old-works one)

  pub idle-here : (route : Route) → is_idle here.stage ≡ true → IsOneWork route old.session.waiting old.stage old.in_work
      → IsWaitedFor here.session.waiting view.work
  idle-here route idle one = waited-idle route here.session.waiting view.work here.stage idle (one-here route one)

  pub get-here : (route : Route) → is_idle here.stage ≡ false → IsOneWork route old.session.waiting old.stage old.in_work
      → work_of route here.stage ≡ Some view.work
  get-here route idle one = waited-get route here.session.waiting view.work here.stage idle (one-here route one)

module _ {S : Type 0} (here old : AnsweringState S) (is : here ≡ old) (job : Work) where
  waited-here : IsWaitedFor old.session.waiting job → IsWaitedFor here.session.waiting job
  waited-here h = subst (λ (a : AnsweringState S). IsWaitedFor a.session.waiting job) (sym is) h

  pub waits-here : IsWaitedFor old.session.waiting job → IsSome here.session.waiting
  waits-here h = one-waits here.session.waiting job (waited-here h)

  pub fits-here : (got : Outcome) → IsWaitedFor old.session.waiting job → FitsWork job got
      → IfSome here.session.waiting (λ w. FitsWork w.work got)
  fits-here got h fits = one-fits here.session.waiting job got (waited-here h) fits

-- ---- a request that is answered

-- where no package is in work
pub none-ready : {W S : Type 0} (w : world.Ghosts W) (t : sitting.Ghosts S W) (route : Route) (new : AnsweringState S) → new.in_work ≡ None
    → IsReady w t route new
none-ready {S = S} w t route new none = record {
  of = λ most. subst (λ (i : Option (PackageView S)). IfSome i (IsPackageOf w t route most)) (sym none) tt;
  one_work = subst (λ (i : Option (PackageView S)). IsOneWork route new.session.waiting new.stage i) (sym none) tt;
}

module _ {S : Type 0} (route : Route) (here old : AnsweringState S) (is : here ≡ old) (view : PackageView S) (session : SessionState)
    (marks : List Mark) (out : List ℕ) where
  abbrev then : AnsweringState S
  then = record here { session = session; marks = marks; out = out }

  answered-by : (waiting : Option Waiting) → here.session.waiting ≡ waiting → IsWaitedFor waiting view.work
      → IfSome waiting (λ w. IsEnded (served here) (served then) w (outcome_in route view))
      → marks ≡ here.marks ++ (cause_in route view).mark ∷ [] → IsAnsweredBy route view here then
  answered-by None waits one ended listed = absurd one
  answered-by (Some waiting) waits one ended listed =
      record { waiting = waiting; waited = waits; of_work = one; ended = ended; marks = listed }

  rests-then : old.in_work ≡ None → then.in_work ≡ None
  rests-then rests = ap (λ (a : AnsweringState S). a.in_work) is ∙ rests

  pub request-ended : old.in_work ≡ None → IsWaitedFor old.session.waiting view.work
      → IfSome here.session.waiting (λ w. IsEnded (served here) (record { session = session; out = out }) w (outcome_in route view))
      → marks ≡ here.marks ++ (cause_in route view).mark ∷ [] → IsRequestEndedIf route view old then (Ok None)
  request-ended rests one ended listed = (
    refl,
    rests-then rests,
    ap (λ (a : AnsweringState S). a.stage) is,
    subst (λ (a : AnsweringState S). IsAnsweredBy route view a then) is
        (answered-by here.session.waiting refl (waited-here here old is view.work one) ended listed),
  )

  pub request-ready : {W : Type 0} (w : world.Ghosts W) (t : sitting.Ghosts S W) → old.in_work ≡ None → IsReady w t route then
  request-ready w t rests = none-ready w t route then (rests-then rests)

-- ---- what is ended

-- a work that is ended is so whichever package was in work, and whatever was summed
answered-as : {S : Type 0} (route : Route) (view : PackageView S) (here new : AnsweringState S) (works : Option (PackageView S))
    (totals : List Total) → IsAnsweredBy route view (record here { in_work = works; totals = totals }) new
    → IsAnsweredBy route view here new
answered-as route view here new works totals a =
    record { waiting = a.waiting; waited = a.waited; of_work = a.of_work; ended = a.ended; marks = a.marks }

module _ {S : Type 0} (route : Route) (view : PackageView S) (here new : AnsweringState S) (works : Option (PackageView S)) (totals : List Total)
  where
    abbrev before : AnsweringState S
    before = record here { in_work = works; totals = totals }

    request-as : (done : Result (Option End) NoMemory) → IsRequestEndedIf route view before new done → IsRequestEndedIf route view here new done
    request-as (Ok ended) h = (h.0, h.1, h.2, answered-as route view here new works totals h.3)
    request-as (Err want) h = (record { out = h.0.out; marks = h.0.marks }, h.1)

    kept-as : (ended : Option End) (answer : sru_begun.Begun) → IsKeptBehindGet route view before new ended answer
        → IsKeptBehindGet route view here new ended answer
    kept-as ended (get.Write mark end) h = h
    kept-as ended (get.Work job) h = h
    kept-as ended get.Memory h = h

    get-as : (done : Result (Option End) NoMemory) → IsGetEndedIf route view before new done → IsGetEndedIf route view here new done
    get-as (Ok ended) h = record { answer = h.answer; went = h.went; kept = kept-as ended h.answer h.kept; session = h.session }
    get-as (Err want) h = (record { out = h.0.out; marks = h.0.marks }, h.1)

    at-idle : (stage : SruStage) (done : Result (Option End) NoMemory) → is_idle stage ≡ true → IsRequestEndedIf route view before new done
        → EndsAt route stage view here new done
    at-idle Idle done idle h = request-as done h
    at-idle (Searching retrieval) done idle h = absurd cc
    at-idle (Fetching retrieval hits) done idle h = absurd cc

    at-get : (stage : SruStage) (done : Result (Option End) NoMemory) → is_idle stage ≡ false → IsGetEndedIf route view before new done
        → EndsAt route stage view here new done
    at-get Idle done idle h = absurd cc
    at-get (Searching retrieval) done idle h = get-as done h
    at-get (Fetching retrieval hits) done idle h = get-as done h

module _ {S : Type 0} (route : Route) (here old : AnsweringState S) (is : here ≡ old) (view : PackageView S)
    (works : here.in_work ≡ Some view) (new : AnsweringState S) (place : Option (PackageView S)) (totals : List Total)
    (accounts : List Account) (done : Result (Option End) NoMemory) (over : IfSome old.in_work IsOver)
    (summed : totals ≡ totals_after here.totals accounts) (counts : accounts ≡ all_accounts view) (same : new.totals ≡ totals) where
  ends-by : EndsAt route here.stage view here new done → IfSome old.in_work (λ v. EndsWork route v old new done)
  ends-by went =
      let at_here : EndsWork route view here new done = record {
        over = of-work here old is view works IsOver over;
        totals = same ∙ summed ∙ ap (totals_after here.totals) counts;
        went = went;
      } in
      if-work here old is view works (λ v. EndsWork route v old new done)
      (subst (λ (o : AnsweringState S). EndsWork route view o new done) is at_here)

  pub ends-request : is_idle here.stage ≡ true
      → IsRequestEndedIf route view (record here { in_work = place; totals = totals }) new done
      → IfSome old.in_work (λ v. EndsWork route v old new done)
  ends-request idle h = ends-by (at-idle route view here new place totals here.stage done idle h)

  pub ends-get : is_idle here.stage ≡ false → IsGetEndedIf route view (record here { in_work = place; totals = totals }) new done
      → IfSome old.in_work (λ v. EndsWork route v old new done)
  ends-get idle h = ends-by (at-get route view here new place totals here.stage done idle h)

ends-as : {S : Type 0} (route : Route) (view : PackageView S) (here new : AnsweringState S) (stage : SruStage)
    (done : Result (Option End) NoMemory) → EndsAt route stage view (record here { in_work = Some view }) new done
    → EndsAt route stage view here new done
ends-as route view here new Idle done h = request-as route view here new (Some view) here.totals done h
ends-as route view here new (Searching retrieval) done h = get-as route view here new (Some view) here.totals done h
ends-as route view here new (Fetching retrieval hits) done h = get-as route view here new (Some view) here.totals done h

-- ---- its turn

-- it waits for the package that goes on
waits-next : (route : Route) (waiting : Option Waiting) (job next : Work) (stage : SruStage) → next ≡ job
    → IsWaitedAt route waiting job stage → IsWaitedAt route waiting next stage
waits-next route waiting job next stage same h = subst (λ (j : Work). IsWaitedAt route waiting j stage) (sym same) h

pub work-next : {S : Type 0} (here old : AnsweringState S) (is : here ≡ old) (view : PackageView S) (works : here.in_work ≡ Some view)
    (route : Route) (next : PackageView S) → next.work ≡ view.work → IsOneWork route old.session.waiting old.stage old.in_work
    → IsWaitedAt route here.session.waiting next.work here.stage
work-next here old is view works route next same one =
    waits-next route here.session.waiting view.work next.work here.stage same (one-here here old is view works route one)

-- where the connection goes on, memory could be had
ready-ok : {W S : Type 0} (w : world.Ghosts W) (t : sitting.Ghosts S W) (route : Route) (new : AnsweringState S)
    (done : Result (Option End) NoMemory) (end : Option End) (answer : Stepped) → OnOk done (IsReady w t route new)
    → IsEndAfter done end answer → end ≡ None → IsReady w t route new
ready-ok w t route new (Ok ended) end answer ready after goes = ready
ready-ok w t route new (Err want) end answer ready after goes = let wrong = sym after.0 ∙ goes in absurd cc

module _ {W S : Type 0} (w : world.Ghosts W) (t : sitting.Ghosts S W) (exact : Bool) (route : Route) (now : ℕ)
    (here old : AnsweringState S) (is : here ≡ old) (view : PackageView S) (works : here.in_work ≡ Some view) (next : PackageView S)
    (turned : Turned) (answer : Stepped) (end : Option End) (before behind : Outside S)
    (law : IsPackageTurn w t exact route now view next turned before.door behind.door before.backend behind.backend)
    (of : IsPackageOf w t route behind.door.counts.most next) where
  -- the package goes on
  pub turns-on : IsOneWork route old.session.waiting old.stage old.in_work
      → WorksOn route turned next here (record here { in_work = Some next }) answer end
      → IfSome old.in_work (λ v. TurnsWork w t exact route now v old (record here { in_work = Some next }) answer end before behind)
  turns-on one on =
      let new : AnsweringState S = record here { in_work = Some next } in
      if-work here old is view works (λ v. TurnsWork w t exact route now v old new answer end before behind) (record {
        next = next;
        turned = turned;
        law = law;
        of = of;
        works = subst (λ (o : AnsweringState S). WorksOn route turned next o new answer end) is on;
        ready = λ goes. of;
        one_work = λ goes. waits-next route here.session.waiting view.work next.work here.stage law.work
            (one-here here old is view works route one);
      })

  -- or it is over
  pub turns-over : (new : AnsweringState S) (done : Result (Option End) NoMemory) → turned ≡ what.Done
      → IfSome (Some next) (λ v. EndsWork route v (record here { in_work = Some next }) new done) → OnOk done (IsReady w t route new)
      → IsEndAfter done end answer
      → IfSome old.in_work (λ v. TurnsWork w t exact route now v old new answer end before behind)
  turns-over new done is_done ends ready after =
      let at_here : EndsWork route next here new done = record {
        over = ends.over;
        totals = ends.totals;
        went = ends-as route next here new here.stage done ends.went;
      } in
      let on : WorksOn route what.Done next here new answer end = record { done = done; ends = at_here; after = after } in
      if-work here old is view works (λ v. TurnsWork w t exact route now v old new answer end before behind) (record {
        next = next;
        turned = turned;
        law = law;
        of = of;
        works = subst (λ (o : AnsweringState S). WorksOn route turned next o new answer end) is
            (subst (λ (s : Turned). WorksOn route s next here new answer end) (sym is_done) on);
        ready = λ goes. (ready-ok w t route new done end answer ready after goes).of behind.door.counts.most;
        one_work = λ goes. (ready-ok w t route new done end answer ready after goes).one_work;
      })

-- ---- a connection that is given up

module _ {S : Type 0} (here old : AnsweringState S) (is : here ≡ old) (place : Option (PackageView S)) (none : place ≡ None) where
  pub given-none : here.in_work ≡ None → record here { in_work = place } ≡ given_up old
  given-none rests =
      let same : record here { in_work = place } ≡ record here { in_work = None; totals = totals_of_all here.in_work here.totals } =
      λ i. record here { in_work = none i; totals = totals_of_all (sym rests i) here.totals } in
      same ∙ ap given_up is

  pub given-some : (view : PackageView S) (totals : List Total) (accounts : List Account) → here.in_work ≡ Some view
      → totals ≡ totals_after here.totals accounts → accounts ≡ all_accounts view
      → record here { in_work = place; totals = totals } ≡ given_up old
  given-some view totals accounts works summed counts =
      let sums : totals ≡ totals_of_all here.in_work here.totals =
      summed ∙ ap (totals_after here.totals) counts ∙ ap (λ i. totals_of_all i here.totals) (sym works) in
      let same : record here { in_work = place; totals = totals } ≡ given_up here = λ i. record here { in_work = none i; totals = sums i } in
      same ∙ ap given_up is

  -- the legs in work
  pub legs-none : here.in_work ≡ None → legs_in old.in_work ≡ []
  legs-none rests = ap (λ (a : AnsweringState S). legs_in a.in_work) (sym is) ∙ ap legs_in rests

  pub legs-some : (view : PackageView S) → here.in_work ≡ Some view → legs_in old.in_work ≡ view.first ++ view.later
  legs-some view works = ap (λ (a : AnsweringState S). legs_in a.in_work) (sym is) ∙ ap legs_in works

pub no-seats : {S : Type 0} (pool : Option (plain.Pool S)) (legs : List (LegView S)) → legs ≡ [] → pool ≡ option_map (lost_seats legs) pool
no-seats None legs none = refl
no-seats (Some pool) legs none = ap (λ l. Some (lost_seats l pool)) (sym none)
