-- One step of an HTTP connection within a run: its head is taken, a work of its GET has its turn, or it has ended
use Rattle.std.proofs.Common.{◌≡◌, ◌≢◌, ◌∙◌, ◌⊎◌, inl, inr, ℕ, Bool, true, false, not, List, [], ◌∷◌, ◌++◌, length, map, Option, None, Some, Ok, refl, sym, ap, subst, append-nil, length-append, arith}
use Rattle.std.specs.Prelude.{IfSome, if◌then◌else◌, option_to_list}
use Rattle.std.specs.Char.{is_ascii_alphabetic}
use Rattle.z_types.specs.Bounds.{within64}
use Rattle.z_types.specs.declared.marks.End.{End}
use Rattle.z_types.specs.declared.marks.Mark.{Mark}
use Rattle.z_types.specs.declared.requests.Close.{Close}
use Rattle.z_types.specs.declared.requests.Request.{Request}
use Rattle.z_types.specs.declared.requests.Request.TheVariants as request
use Rattle.z_types.specs.declared.sitting.Sitting as sitting
use Rattle.z_types.specs.declared.work.Work.{Work}
use Rattle.z_types.specs.declared.world.World as world
use Rattle.route_config.specs.Sound.{IsSound}
use Rattle.route_config.specs.declared.route.Route.{Route}
use Rattle.limit_rules.specs.Limits.{are_units_spent}
use Rattle.replay.specs.gateway_rules.Answers as kind
use Rattle.replay.specs.gateway_rules.Answers.{kind_of}
use Rattle.replay.specs.gateway_rules.Asking.{Asking, asked_with, at_once, works}
use Rattle.replay.specs.gateway_rules.Course.{Meeting, Received, bad, beyond, closing, due, is_in_place, met, met_in_place, octets_of}
use Rattle.replay.specs.gateway_rules.Fair.{IsFair}
use Rattle.replay.specs.gateway_rules.Marks.{Cause, plain}
use Rattle.replay.specs.gateway_rules.Outcomes.{outcome_of}
use Rattle.replay.specs.gateway_rules.Runs.{marks_of}
use Rattle.replay.specs.gateway_rules.Session as session
use Rattle.replay.specs.gateway_rules.Session.{Run, Stop}
use Rattle.replay.specs.gateway_rules.State.{Progress}
use Rattle.sru_request.specs.Request.{IsHeadAnswer}
use Rattle.sru_request.specs.declared.head.HeadGot.TheVariants.{NeedMore}
use Rattle.replay.specs.sru_rules.Answers.{Answers}
use Rattle.replay.specs.sru_rules.Asking.{search_work}
use Rattle.replay.specs.sru_rules.Run.{next_of}
use Rattle.replay.specs.sru_rules.declared.retrieval.Retrieval.{Retrieval}
use Rattle.package_shares.specs.package_rules.Planned.{AreThere}
use Rattle.package_shares.specs.package_rules.Truth.{HasWorldsHits}
use Rattle.package_shares.specs.package.steps.Ends.{cause_in, outcome_in}
use Rattle.package_shares.specs.package.steps.Packages.{IsPackageOf, PackageView, new_package}
use Rattle.replay.specs.front_session.Admitting.{hits_named}
use Rattle.replay.specs.front_session.Sessions.{client_of, progress_of}
use Rattle.replay.specs.front_z.Units.{IsBegun, IsDueBegun, IsMetBegun, Served}
use Rattle.replay.specs.front_z.declared.units.Begun.{Begun}
use Rattle.replay.specs.front_z.declared.units.Begun.TheVariants as begun
use Rattle.replay.specs.front_sru.declared.begun.Begun as sru_begun
use Rattle.replay.specs.front_sru.declared.begun.Begun.TheVariants as get
use Rattle.replay.specs.front_sru.declared.state.SruStage.{SruStage}
use Rattle.replay.specs.front_sru.declared.state.SruStage.TheVariants as stage
use Rattle.replay.specs.front_http.Seeking.{IsHeadOf}
use Rattle.replay.specs.front_conn.declared.stepped.Stepped.{Stepped}
use Rattle.replay.specs.front_conn.declared.stepped.Stepped.TheVariants.{Idle, Memory, NotYet, Went}
use Rattle.replay.specs.front_conn.declared.totals.Total.{Total}
use Rattle.replay.specs.front_conn.steps.Answering.{AnsweringState, EndsAt, IsGetEnded, IsKeptBehind, IsKeptBehindGet, IsKeptBehindHead, Outside, get_served, served}
use Rattle.replay.specs.front_conn.steps.States.{BeginsWithUnits, ConnectionState, HasAnswered, IsConnOf, IsStateOf, MayCome, Rests, StandsOrEnded, WorksAt}
use Rattle.replay.specs.front_conn.steps.Steps.{AreUnfinished, EndsAtRest, EndsByRest, GoesAhead, IsStepped, IsStepFrom, TakesHead, TakesUnit, answering_of}
use Rattle.replay.specs.front_conn.steps.Totals.{no_total, totals_for}
use Rattle.sharing_rules.specs.Uses.{Use}
use Rattle.sharing_rules.specs.steps.Shared.{AreInOrder}
use Rattle.replay.specs.front_conn_costs.steps.Conns.{AreTotalsOf}
use Rattle.replay_shares.specs.Orderly.{dated}
use Rattle.replay_shares.specs.Works.{AskByHead, works_of_next}
use Rattle.replay_shares.specs.steps.Laws.{GetLaws}
use Rattle.replay_shares.specs.steps.Resting.{MayDo}
use Rattle.replay_shares.proofs.HeadWorks.{FetchDoes, HeadDoes, SearchDoes, fetch-does, head-does, no-need, search-does, unmarked-asks}
use Rattle.replay_shares.proofs.TurnLemmas.{shared}
use Rattle.replay_shares.proofs.WorkLemmas.{InWork, IsWorkDone, StaysInWork, begun-works, may-next, once-rests, work-turned}
use Rattle.replay_shares.proofs.WorkLemmas.{Rests as Leaves}

-- ---- an HTTP connection before its head

-- it has taken nothing
pub record IsUntouched {S : Type 0} (octets : List ℕ) (conn : ConnectionState S) : Type 0 where
  pub left : octets ≡ conn.left
  pub at : conn.at ≡ 0
  pub marks : conn.marks ≡ []
  pub accepted : conn.session.accepted ≡ false

no-units : (octets : List ℕ) (units : List Received) → kind_of octets ≡ kind.letter → BeginsWithUnits units octets → units ≡ []
no-units octets [] is begins = refl
no-units octets (unit ∷ units) is begins = let wrong : kind.unit ≡ kind.letter = sym begins ∙ is in absurd cc

abbrev accepted-in : Stop → Bool
accepted-in (session.standing here) = here.accepted
accepted-in (session.over end) = false
accepted-in session.wanting = false

module _ {W S : Type 0} (w : world.Ghosts W) (route : Route) (octets written : List ℕ) (conn : ConnectionState S) where
  pub rests-in : conn.end ≡ None → conn.in_work ≡ None → IsStateOf w route octets written conn → Rests w route octets written conn
  rests-in goes idle h =
      subst (λ (i : Option (PackageView S)). StandsOrEnded w route octets written conn None i) idle
      (subst (λ (e : Option End). StandsOrEnded w route octets written conn e conn.in_work) goes h)

  pub untouched : kind_of octets ≡ kind.letter → Rests w route octets written conn → IsUntouched octets conn
  untouched is_letter rb =
      let none = no-units octets rb.units is_letter rb.kind in
      let a = subst (λ (us : List Received). HasAnswered w route us conn.marks (written ++ conn.out) conn.session) none rb.answered in
      let causes : a.causes ≡ [] = ap (λ (r : Run). r.left) a.has_run.runs ∙ a.has_run.none_left in
      let stands = ap (λ (r : Run). r.stop) a.has_run.runs ∙ a.standing in record {
        left = rb.spelled ∙ ap (λ (us : List Received). octets_of us ++ conn.left) none;
        at = rb.offset ∙ ap (λ (us : List Received). within64 (length (octets_of us))) none ∙ omega arith;
        marks = sym a.of_marks ∙ ap marks_of causes;
        accepted = sym (ap accepted-in stands);
      }

-- ---- a unit

-- a Close comes behind an Init that was accepted
no-closing : (route : Route) (here : Progress) (read : Option Request) (close : Close) → here.accepted ≡ false
    → met route here read ≡ closing close → ⊥
no-closing route here None close off e = absurd cc
no-closing route here (Some asked) close off e = by-spent (are_units_spent route.limits here.units) asked e where
  by-place : (b : Bool) (asked : Request) → (if b then due asked else bad) ≡ closing close → ⊥
  by-place true asked e = absurd cc
  by-place false asked e = absurd cc

  by-close : (b : Bool) (own : Close) → b ≡ false → (if b then closing own else bad) ≡ closing close → ⊥
  by-close true own off e = absurd cc
  by-close false own off e = absurd cc

  by-spent : (spent : Bool) (asked : Request)
      → (if spent then beyond asked else if is_in_place here asked then met_in_place asked else bad) ≡ closing close → ⊥
  by-spent true asked e = absurd cc
  by-spent false (request.Init init) e = by-place (not here.accepted) (request.Init init) e
  by-spent false (request.Search search) e = by-place here.accepted (request.Search search) e
  by-spent false (request.Present present) e = by-place here.accepted (request.Present present) e
  by-spent false (request.Scan scan) e = by-place here.accepted (request.Scan scan) e
  by-spent false (request.Close own) e = by-close here.accepted own off e

due-none : (route : Route) (asks : Asking) (asked : Request) (old new : Served) (mark : Option Mark) (how : End)
    → IsDueBegun route asks asked old new (begun.Write mark (Some how)) → mark ≡ None
due-none route (at_once reply) asked old new mark how h = let wrong = h.0 in absurd cc
due-none route (works work) asked old new mark how h = let wrong = h.0 in absurd cc

met-none : (meeting : Meeting) (route : Route) (at : ℕ) (read : Option Request) (old new : Served) (mark : Option Mark) (how : End)
    → ((close : Close) → meeting ≡ closing close → ⊥) → IsMetBegun meeting route at read old new (begun.Write mark (Some how)) → mark ≡ None
met-none bad route at read old new mark how unclosed h = let says = h.0 in cc
met-none (beyond asked) route at read old new mark how unclosed h = let says = h.0 in cc
met-none (closing close) route at read old new mark how unclosed h = absurd (unclosed close refl)
met-none (due asked) route at read old new mark how unclosed h =
    due-none route (asked_with (hits_named old.session.sets) route (client_of old.session) asked) asked old new mark how h

-- the first unit of a connection ends it under no mark
first-none : (route : Route) (at : ℕ) (unit : List ℕ) (old new : Served) (mark : Option Mark) (how : End) → old.session.accepted ≡ false
    → IsBegun route at unit old new (begun.Write mark (Some how)) → mark ≡ None
first-none route at unit old new mark how off h =
    met-none (met route (progress_of at old.session) h.read) route at h.read old new mark how
    (λ close e. no-closing route (progress_of at old.session) h.read close off e) h.begun

-- ---- an end without a unit

ends-rest : (has_ended : Bool) (end : Option End) → EndsAtRest has_ended end → (how : End) × (end ≡ Some how)
ends-rest has_ended None h = absurd h
ends-rest has_ended (Some how) h = (how, refl)

none-comes : (has_ended : Bool) → MayCome has_ended []
none-comes true = refl
none-comes false = tt

-- ---- sums

for-made : (route : Route) (totals : List Total) → AreTotalsOf route totals → totals_for route totals ≡ totals
for-made route [] made = ap (map no_total) (sym made)
for-made route (total ∷ totals) made = refl

-- ---- works

only-one : (earlier : List Work) (one last : Work) → one ∷ [] ≡ earlier ++ last ∷ [] → last ≡ one
only-one [] one last e = cc
only-one (work ∷ []) one last e = absurd cc
only-one (work ∷ (other ∷ earlier)) one last e = absurd cc

-- ---- where it stands

module _ {W S : Type 0} (w : world.Ghosts W) (t : sitting.Ghosts S W) (exact : Bool) (route : Route) (now : ℕ) (octets : List ℕ)
    (all : List Work) (before : List Use) (start : List Total) where
  -- its head was not taken yet
  pub record IsBeforeHead (end : Option End) (in_work : Option (PackageView S)) (totals : List Total) (marks : List Mark) (outside : Outside S)
      : Type 0 where
    pub goes : end ≡ None
    pub idle : in_work ≡ None
    pub asks : AskByHead w route octets all
    pub rests : Leaves w t exact route now before start [] totals marks outside

  -- the search of its GET is in work
  pub record IsInSearch (end : Option End) (in_work : Option (PackageView S)) (waits : SruStage) (totals : List Total) (marks : List Mark)
      (outside : Outside S) : Type 0 where
    pub goes : end ≡ None
    pub view : PackageView S
    pub is : in_work ≡ Some view
    pub retrieval : Retrieval
    pub at : waits ≡ stage.Searching retrieval
    pub are : all ≡ search_work retrieval ∷ works_of_next (next_of w route retrieval plain)
    pub inside : InWork w t exact route now before start view (search_work retrieval ∷ []) totals marks outside

  -- or its fetch
  pub record IsInFetch (end : Option End) (in_work : Option (PackageView S)) (waits : SruStage) (totals : List Total) (marks : List Mark)
      (outside : Outside S) : Type 0 where
    pub goes : end ≡ None
    pub view : PackageView S
    pub is : in_work ≡ Some view
    pub retrieval : Retrieval
    pub hits : List ℕ
    pub at : waits ≡ stage.Fetching retrieval hits
    pub inside : InWork w t exact route now before start view all totals marks outside

  -- it has ended, and all was asked
  pub record IsAllAsked (end : Option End) (in_work : Option (PackageView S)) (totals : List Total) (marks : List Mark) (outside : Outside S)
      : Type 0 where
    pub how : End
    pub ended : end ≡ Some how
    pub idle : in_work ≡ None
    pub rests : Leaves w t exact route now before start all totals marks outside

  abbrev pub HasAll : ConnectionState S → Outside S → Type 0
  HasAll conn outside = IsAllAsked conn.end conn.in_work conn.totals conn.marks outside

  -- one of these
  abbrev pub GetStands : ConnectionState S → Outside S → Type 0
  GetStands conn outside =
      IsBeforeHead conn.end conn.in_work conn.totals conn.marks outside
      ⊎ IsInSearch conn.end conn.in_work conn.stage conn.totals conn.marks outside
      ⊎ IsInFetch conn.end conn.in_work conn.stage conn.totals conn.marks outside
      ⊎ HasAll conn outside

  -- behind a step; one that is idle finds that all was asked
  pub record GetGoes (answer : Stepped) (conn : ConnectionState S) (outside : Outside S) : Type 0 where
    pub stands : GetStands conn outside
    pub idle : answer ≡ Idle → HasAll conn outside

  all-asked : (answer : Stepped) (conn : ConnectionState S) (outside : Outside S) → HasAll conn outside → GetGoes answer conn outside
  all-asked answer conn outside h = record { stands = inr (inr (inr h)); idle = λ idle. h }

  busy : (answer : Stepped) (conn : ConnectionState S) (outside : Outside S) → answer ≢ Idle → GetStands conn outside → GetGoes answer conn outside
  busy answer conn outside wakes h = record { stands = h; idle = λ idle. absurd (wakes idle) }

  module _ (laws : GetLaws w t) (most : ℕ) (written : List ℕ) (is : exact ≡ true) (fair : IsFair w route) (sound : IsSound route)
      (is_letter : kind_of octets ≡ kind.letter) (may : MayDo route before (map (dated now) all)) (falls : AreInOrder now before)
      (old new : ConnectionState S) (here after : Outside S) (answer : Stepped) (had : answer ≢ Memory)
      (was : IsStateOf w route octets written old) (upto : IsStateOf w route octets written new) (of : IsConnOf w t route most new) where
    -- ---- from before its head

    nothing-waits : (left : List ℕ) → octets ≡ left → old.at ≡ 0 → AreUnfinished old left → AskByHead w route octets all → ⊥
    nothing-waits [] same at un asks = let wrong : kind.empty ≡ kind.letter = sym (ap kind_of same) ∙ is_letter in absurd cc
    nothing-waits (octet ∷ left) same at un asks =
        no-need w route octets all asks
        (subst (λ (o : List ℕ). IsHeadAnswer o (Ok NeedMore)) (sym same) (un.head (at, letter-is (sym (ap kind_of same) ∙ is_letter)))) where
          letter-by : (b : Bool) → (if b then kind.letter else kind.unit) ≡ kind.letter → b ≡ true
          letter-by true e = refl
          letter-by false e = absurd cc

          letter-is : kind_of (octet ∷ left) ≡ kind.letter → is_ascii_alphabetic octet ≡ true
          letter-is e = letter-by (is_ascii_alphabetic octet) e

    -- it has ended, and listed no mark: its GET was none, and nothing is asked
    unasked : (h : IsBeforeHead old.end old.in_work old.totals old.marks here) → after ≡ here → (how : End) → new.end ≡ Some how
        → new.in_work ≡ None → new.marks ≡ [] → (totals : List Total) → Leaves w t exact route now before start [] totals [] here
        → new.totals ≡ totals → HasAll new after
    unasked h same how ended idle marks totals rests are =
        let state = subst (λ (e : Option End). StandsOrEnded w route octets written new e new.in_work) ended upto in
        let at_last : Answers w route octets new.marks (written ++ new.out) how =
        subst (λ (o : List ℕ). Answers w route o new.marks (written ++ new.out) how) (append-nil octets) (state [] (none-comes new.has_ended)) in
        let none = unmarked-asks w route octets all h.asks laws.one (written ++ new.out) how is_letter
        (subst (λ (ms : List Mark). Answers w route octets ms (written ++ new.out) how) marks at_last) in record {
          how = how;
          ended = ended;
          idle = idle;
          rests = subst (λ (o : Outside S). Leaves w t exact route now before start all new.totals new.marks o) (sym same)
              (subst (λ (ms : List Mark). Leaves w t exact route now before start all new.totals ms here) (sym marks)
              (subst (λ (ts : List Total). Leaves w t exact route now before start all ts [] here) (sym are)
              (subst (λ (ws : List Work). Leaves w t exact route now before start ws totals [] here) (sym none) rests)));
        }

    unmarked : (h : IsBeforeHead old.end old.in_work old.totals old.marks here) → old.marks ≡ []
        → Leaves w t exact route now before start [] old.totals [] here
    unmarked h none = subst (λ (ms : List Mark). Leaves w t exact route now before start [] old.totals ms here) none h.rests

    made-unmarked : (h : IsBeforeHead old.end old.in_work old.totals old.marks here) → old.marks ≡ []
        → Leaves w t exact route now before start [] (totals_for route old.totals) [] here
    made-unmarked h none = once-rests w t exact route now before start [] old.totals [] [] here tt (unmarked h none)

    -- no unit is taken of an HTTP connection, but perhaps one that ends it
    unit-by : (u : IsUntouched octets old) (h : IsBeforeHead old.end old.in_work old.totals old.marks here) → after ≡ here
        → (k : TakesUnit route old new) (mark : Option Mark) (end : Option End)
        → IsBegun route old.at k.unit (served (answering_of old)) (served (answering_of new)) (begun.Write mark end)
        → IsKeptBehind route (answering_of old) (answering_of new) new.end (begun.Write mark end) → HasAll new after
    unit-by u h same k mark None began kept =
        let rb = rests-in w route octets written new kept.0 kept.2 upto in
        let left = (untouched w route octets written new is_letter rb).left in
        let parts = ap length k.taken ∙ length-append k.unit new.left in
        let some = k.filled in absurd (omega (arith, ap length u.left, ap length left, parts, some))
    unit-by u h same k mark (Some how) began kept =
        let none = first-none route old.at k.unit (served (answering_of old)) (served (answering_of new)) mark how u.accepted began in
        unasked h same how kept.0 kept.2
        (kept.1 ∙ ap (λ (m : Option Mark). old.marks ++ option_to_list m) none ∙ append-nil old.marks ∙ u.marks) (totals_for route old.totals)
        (made-unmarked h u.marks) kept.3

    unit-goes : (u : IsUntouched octets old) (h : IsBeforeHead old.end old.in_work old.totals old.marks here) → after ≡ here
        → (k : TakesUnit route old new) (answered : Begun)
        → IsBegun route old.at k.unit (served (answering_of old)) (served (answering_of new)) answered
        → IsKeptBehind route (answering_of old) (answering_of new) new.end answered → HasAll new after
    unit-goes u h same k begun.Memory began kept = absurd kept
    unit-goes u h same k (begun.Write mark end) began kept = unit-by u h same k mark end began kept
    unit-goes u h same k (begun.Work job) began kept =
        let state = subst (λ (i : Option (PackageView S)). StandsOrEnded w route octets written new None i) kept.2
        (subst (λ (e : Option End). StandsOrEnded w route octets written new e new.in_work) kept.0 upto) in
        let works_on = subst (λ (s : SruStage). WorksAt w route octets written new s (new_package route job)) k.begun.idle state in
        let wrong : kind.unit ≡ kind.letter = sym works_on.kind ∙ is_letter in absurd cc

    rest-goes : (u : IsUntouched octets old) (h : IsBeforeHead old.end old.in_work old.totals old.marks here) → after ≡ here → EndsByRest old new
        → HasAll new after
    rest-goes u h same k =
        let ends = ends-rest old.has_ended new.end k.ended in
        unasked h same ends.0 ends.1 (k.in_work ∙ h.idle) (k.marks ∙ u.marks) old.totals (unmarked h u.marks) k.totals

    -- what is in work behind the step is there
    work-there : (job : Work) → new.end ≡ None → new.in_work ≡ Some (new_package route job) → AreThere route job
    work-there job goes is =
        (subst (λ (i : Option (PackageView S)). IfSome i (IsPackageOf w t route most)) is (of goes).in_work).asks.there

    head-by : (u : IsUntouched octets old) (h : IsBeforeHead old.end old.in_work old.totals old.marks here) → after ≡ here → answer ≢ Idle
        → (answered : sru_begun.Begun) → HeadDoes w route all answered (get_served (answering_of new))
        → IsKeptBehindHead route (answering_of old) (answering_of new) new.end answered → GetGoes answer new after
    head-by u h same wakes get.Memory does kept = absurd kept
    head-by u h same wakes (get.Write mark end) does kept =
        all-asked answer new after (record {
          how = does.how;
          ended = kept.0 ∙ does.ended;
          idle = kept.2;
          rests = subst (λ (o : Outside S). Leaves w t exact route now before start all new.totals new.marks o) (sym same)
              (subst (λ (ms : List Mark). Leaves w t exact route now before start all new.totals ms here) (sym kept.1)
              (subst (λ (ts : List Total). Leaves w t exact route now before start all ts (old.marks ++ option_to_list mark) here) (sym kept.3)
              (subst (λ (ws : List Work). Leaves w t exact route now before start ws (totals_for route old.totals) (old.marks ++ option_to_list mark) here)
              (sym does.none)
              (once-rests w t exact route now before start [] old.totals old.marks (option_to_list mark) here does.plainly h.rests))));
        })
    head-by u h same wakes (get.Work job) does kept =
        let retrieval = does.retrieval in
        let search = search_work retrieval in
        let in_work : new.in_work ≡ Some (new_package route search) = kept.2 ∙ ap (λ (j : Work). Some (new_package {S = S} route j)) does.is_job in
        let first = may-next w t exact route now before start [] search (works_of_next (next_of w route retrieval plain))
        (subst (λ (ws : List Work). MayDo route before (map (dated now) ws)) does.are may) (work-there search kept.0 in_work) falls in
        let inside = begun-works w t exact route now before start [] search old.totals old.marks here first h.rests in
        busy answer new after wakes (inr (inl (record {
          goes = kept.0;
          view = new_package route search;
          is = in_work;
          retrieval = retrieval;
          at = does.is_stage;
          are = does.are;
          inside = subst (λ (o : Outside S). InWork w t exact route now before start (new_package route search) (search ∷ []) new.totals new.marks o)
              (sym same)
              (subst (λ (ms : List Mark). InWork w t exact route now before start (new_package route search) (search ∷ []) new.totals ms here)
              (sym kept.1)
              (subst (λ (ts : List Total). InWork w t exact route now before start (new_package route search) (search ∷ []) ts old.marks here)
              (sym kept.3) inside));
        })))

    went-goes : (u : IsUntouched octets old) (h : IsBeforeHead old.end old.in_work old.totals old.marks here) → after ≡ here → answer ≢ Idle
        → TakesUnit route old new ⊎ TakesHead route old new ⊎ EndsByRest old new → GetGoes answer new after
    went-goes u h same wakes (inl k) =
        all-asked answer new after (unit-goes u h same k k.begun.answer k.begun.begun k.begun.kept)
    went-goes u h same wakes (inr (inl k)) =
        head-by u h same wakes k.taken.answer
        (head-does w route octets all h.asks laws.one k.head (get_served (answering_of old)) (get_served (answering_of new)) k.taken.answer
        (subst (λ (o : List ℕ). IsHeadOf o k.head) (sym u.left) k.is_head) k.taken.begun) k.taken.kept
    went-goes u h same wakes (inr (inr k)) = all-asked answer new after (rest-goes u h same k)

    ahead-goes : (u : IsUntouched octets old) (h : IsBeforeHead old.end old.in_work old.totals old.marks here) → after ≡ here → (said : Stepped)
        → answer ≡ said → GoesAhead route old new said → GetGoes answer new after
    ahead-goes u h same Idle says k = absurd (nothing-waits old.left u.left u.at k.0.unfinished h.asks)
    ahead-goes u h same NotYet says k = absurd k
    ahead-goes u h same Went says k =
        went-goes u h same (λ idle. let wrong : Idle ≡ Went = sym idle ∙ says in absurd cc) k.2
    ahead-goes u h same Memory says k = absurd (had says)

    -- ---- a work of its GET

    -- a GET that waits for no unit
    get-ends : (next : PackageView S) (waits : SruStage) → old.stage ≡ waits → (waits ≡ stage.Idle → ⊥)
        → EndsAt route old.stage next (answering_of old) (answering_of new) (Ok new.end)
        → IsGetEnded route next (answering_of old) (answering_of new) new.end
    get-ends next waits at other h = by-stage waits other (subst (λ (s : SruStage). EndsAt route s next (answering_of old) (answering_of new) (Ok new.end)) at h) where
      by-stage : (waits : SruStage) → (waits ≡ stage.Idle → ⊥) → EndsAt route waits next (answering_of old) (answering_of new) (Ok new.end)
          → IsGetEnded route next (answering_of old) (answering_of new) new.end
      by-stage stage.Idle other h = absurd (other refl)
      by-stage (stage.Searching retrieval) other h = h
      by-stage (stage.Fetching retrieval hits) other h = h

    over-search : (h : IsInSearch old.end old.in_work old.stage old.totals old.marks here)
        → IsWorkDone w t exact route now before start (search_work h.retrieval ∷ []) (answering_of old) (answering_of new) answer new.end after
        → GetGoes answer new after
    over-search h d =
        let search = search_work h.retrieval in
        let job : d.next.work ≡ search = only-one d.was.earlier search d.next.work d.was.is in
        let unmarked = (shared w t exact route now before start laws.shares is fair sound d.next (search ∷ []) old.totals old.marks after d.over d.was).unmarked in
        let hits : HasWorldsHits w route d.next.work = subst (HasWorldsHits w route) (sym job) tt in
        let true_got : outcome_in route d.next ≡ outcome_of w route search plain =
        laws.outcome route after.door.counts.most d.next d.of d.over fair sound hits
        ∙ ap (λ (j : Work). outcome_of w route j (cause_in route d.next)) job ∙ ap (λ (c : Cause). outcome_of w route search c) unmarked in
        let went = subst (λ (e : Option End). EndsAt route old.stage d.next (answering_of old) (answering_of new) (Ok e)) (sym d.is_end) d.went in
        let g = get-ends d.next (stage.Searching h.retrieval) h.at (λ e. absurd cc) went in
        by-answer g.answer
        (search-does h.retrieval w route all (outcome_in route d.next) (get_served (answering_of old)) (get_served (answering_of new)) g.answer
        true_got h.at h.are g.went) g.kept where
          by-answer : (answered : sru_begun.Begun) → SearchDoes h.retrieval all answered (get_served (answering_of new))
              → IsKeptBehindGet route d.next (answering_of old) (answering_of new) new.end answered → GetGoes answer new after
          by-answer get.Memory does kept = absurd kept
          by-answer (get.Write mark end) does kept =
              all-asked answer new after (record {
                how = does.how;
                ended = kept.0 ∙ does.ended;
                idle = kept.2;
                rests = subst (λ (ms : List Mark). Leaves w t exact route now before start all new.totals ms after) (sym kept.1)
                    (subst (λ (ws : List Work). Leaves w t exact route now before start ws new.totals (old.marks ++ (cause_in route d.next).mark ∷ []) after)
                    (sym does.are) d.rests);
              })
          by-answer (get.Work job) does kept =
              let search = search_work h.retrieval in
              let rests : Leaves w t exact route now before start (search ∷ []) new.totals old.marks after = record {
                done = record { made = d.rests.done.made; plain = d.was.done.plain; cost = d.rests.done.cost };
                kept = d.rests.kept;
              } in
              let next = may-next w t exact route now before start (search ∷ []) job []
              (subst (λ (ws : List Work). MayDo route before (map (dated now) ws)) does.are may) (work-there job kept.0 kept.2) falls in
              let inside = begun-works w t exact route now before start (search ∷ []) job new.totals old.marks after next rests in
              busy answer new after d.wakes (inr (inr (inl (record {
                goes = kept.0;
                view = new_package route job;
                is = kept.2;
                retrieval = h.retrieval;
                hits = does.hits;
                at = does.is_stage;
                inside = subst (λ (ms : List Mark). InWork w t exact route now before start (new_package route job) all new.totals ms after) (sym kept.1)
                    (subst (λ (ws : List Work). InWork w t exact route now before start (new_package route job) ws new.totals old.marks after) (sym does.are)
                    (subst (λ (ts : List Total). InWork w t exact route now before start (new_package route job) (search ∷ job ∷ []) ts old.marks after)
                    (for-made route new.totals d.made) inside));
              }))))

    over-fetch : (h : IsInFetch old.end old.in_work old.stage old.totals old.marks here)
        → IsWorkDone w t exact route now before start all (answering_of old) (answering_of new) answer new.end after
        → GetGoes answer new after
    over-fetch h d =
        let went = subst (λ (e : Option End). EndsAt route old.stage d.next (answering_of old) (answering_of new) (Ok e)) (sym d.is_end) d.went in
        let g = get-ends d.next (stage.Fetching h.retrieval h.hits) h.at (λ e. absurd cc) went in
        by-answer g.answer
        (fetch-does h.retrieval route h.hits (outcome_in route d.next) (get_served (answering_of old)) (get_served (answering_of new)) g.answer h.at
        g.went) g.kept where
          by-answer : (answered : sru_begun.Begun) → FetchDoes h.retrieval answered
              → IsKeptBehindGet route d.next (answering_of old) (answering_of new) new.end answered → GetGoes answer new after
          by-answer get.Memory does kept = absurd kept
          by-answer (get.Work job) does kept = absurd does
          by-answer (get.Write mark end) does kept =
              all-asked answer new after (record {
                how = does.0;
                ended = kept.0 ∙ does.1;
                idle = kept.2;
                rests = subst (λ (ms : List Mark). Leaves w t exact route now before start all new.totals ms after) (sym kept.1) d.rests;
              })

    -- it is still in work
    stays-inside : (works_ : List Work) (k : StaysInWork w t exact route now before start works_ (answering_of old) (answering_of new) answer new.end after)
        → InWork w t exact route now before start k.next works_ new.totals new.marks after
    stays-inside works_ k =
        subst (λ (ms : List Mark). InWork w t exact route now before start k.next works_ new.totals ms after)
        (sym (ap (λ (a : AnsweringState S). a.marks) k.is))
        (subst (λ (ts : List Total). InWork w t exact route now before start k.next works_ ts old.marks after)
        (sym (ap (λ (a : AnsweringState S). a.totals) k.is)) k.in_work)

    search-goes : (h : IsInSearch old.end old.in_work old.stage old.totals old.marks here)
        → StaysInWork w t exact route now before start (search_work h.retrieval ∷ []) (answering_of old) (answering_of new) answer new.end after
        ⊎ IsWorkDone w t exact route now before start (search_work h.retrieval ∷ []) (answering_of old) (answering_of new) answer new.end after
        → GetGoes answer new after
    search-goes h (inl k) =
        busy answer new after k.wakes (inr (inl (record {
          goes = k.goes_on;
          view = k.next;
          is = ap (λ (a : AnsweringState S). a.in_work) k.is;
          retrieval = h.retrieval;
          at = ap (λ (a : AnsweringState S). a.stage) k.is ∙ h.at;
          are = h.are;
          inside = stays-inside (search_work h.retrieval ∷ []) k;
        })))
    search-goes h (inr d) = over-search h d

    fetch-goes : (h : IsInFetch old.end old.in_work old.stage old.totals old.marks here)
        → StaysInWork w t exact route now before start all (answering_of old) (answering_of new) answer new.end after
        ⊎ IsWorkDone w t exact route now before start all (answering_of old) (answering_of new) answer new.end after
        → GetGoes answer new after
    fetch-goes h (inl k) =
        busy answer new after k.wakes (inr (inr (inl (record {
          goes = k.goes_on;
          view = k.next;
          is = ap (λ (a : AnsweringState S). a.in_work) k.is;
          retrieval = h.retrieval;
          hits = h.hits;
          at = ap (λ (a : AnsweringState S). a.stage) k.is ∙ h.at;
          inside = stays-inside all k;
        }))))
    fetch-goes h (inr d) = over-fetch h d

    -- ---- any step

    stepped-from : (end : Option End) (in_work : Option (PackageView S)) → old.end ≡ end → old.in_work ≡ in_work
        → IsStepped w t exact route now old new answer here after → IsStepFrom w t exact route now end in_work old new answer here after
    stepped-from end in_work ended working s =
        subst (λ (i : Option (PackageView S)). IsStepFrom w t exact route now end i old new answer here after) working
        (subst (λ (e : Option End). IsStepFrom w t exact route now e old.in_work old new answer here after) ended s)

    pub step-goes : IsStepped w t exact route now old new answer here after → GetStands old here → GetGoes answer new after
    step-goes s (inl h) =
        let k = stepped-from None None h.goes h.idle s in
        let rb = rests-in w route octets written old h.goes h.idle was in
        ahead-goes (untouched w route octets written old is_letter rb) h k.1 answer refl k.0
    step-goes s (inr (inl h)) =
        let k = stepped-from None (Some h.view) h.goes h.is s in
        search-goes h (work-turned w t exact route now before start laws.shares is fair sound (search_work h.retrieval ∷ []) h.view (answering_of old)
        (answering_of new) answer new.end here after had h.inside k.turns)
    step-goes s (inr (inr (inl h))) =
        let k = stepped-from None (Some h.view) h.goes h.is s in
        fetch-goes h (work-turned w t exact route now before start laws.shares is fair sound all h.view (answering_of old) (answering_of new) answer
        new.end here after had h.inside k.turns)
    step-goes s (inr (inr (inr h))) =
        let k = stepped-from (Some h.how) old.in_work h.ended refl s in
        all-asked answer new after
        (subst (λ (o : Outside S). HasAll new o) (sym k.2) (subst (λ (c : ConnectionState S). HasAll c here) (sym k.1) h))
