-- A connection whose request in work had its turn stands as before, or behind the request.
use Rattle.std.proofs.Common.{◌≡◌, ℕ, Bool, true, false, length, List, [], ◌∷◌, ◌++◌, Option, Some, None, Result, Ok, Err, append_assoc, refl, sym, ap, ◌∙◌, subst}
use Rattle.std.specs.Prelude.{◌||◌, map}
use Rattle.std.specs.List.{AllByRecursion}
use Rattle.z_types.specs.declared.marks.End.{End}
use Rattle.z_types.specs.declared.marks.Mark.{Mark}
use Rattle.z_types.specs.declared.memory.Memory.{Memory as NoMemory}
use Rattle.front_z.specs.gateway_rules.Targets.{hits_of}
use Rattle.z_types.specs.declared.outcome.Outcome.{Outcome}
use Rattle.z_types.specs.declared.requests.Request.{Request}
use Rattle.z_types.specs.declared.requests.Request.TheVariants as request
use Rattle.z_types.specs.declared.sitting.Sitting as sitting
use Rattle.z_types.specs.declared.work.Work.{Work}
use Rattle.z_types.specs.declared.world.World as world
use Rattle.z_types.specs.Under.{under}
use Rattle.route_config.specs.Sound.{IsSound}
use Rattle.route_config.specs.declared.route.Route.{Route}
use Rattle.unit_forms.specs.Replies.{spell_reply}
use Rattle.front_z.specs.gateway_rules.Asking as asking
use Rattle.front_z.specs.gateway_rules.Asking.{Asking, asked, hits_meant}
use Rattle.front_z.specs.gateway_rules.Course.{accepts, is_in_place, octets_of}
use Rattle.front_z.specs.gateway_rules.Fair.{IsFair}
use Rattle.front_z.specs.gateway_rules.Marks.{Cause, IsAllowed}
use Rattle.front_z.specs.gateway_rules.Outcomes.{classes_asked, login_asked, outcome_of}
use Rattle.front_z.specs.gateway_rules.Session.{answer_to, answered, classes_of, reached}
use Rattle.front_z.specs.gateway_rules.Settling.{Settled, agreed_after, settled}
use Rattle.front_z.specs.gateway_rules.State.{ClientState, Progress}
use Rattle.front_z.specs.gateway_rules.declared.agreement.Agreement.{Agreement}
use Rattle.front_z.specs.front_session.Admitting.{HasGivenHits, waits}
use Rattle.z_sets.specs.Sets.{set_named, stored}
use Rattle.front_z.specs.front_session.Sessions.{SessionState, Waiting, client_of, progress_of}
use Rattle.front_z.specs.Units.{IsEnded, Served}
use Rattle.package.specs.leg.declared.answers.Turned.{Turned}
use Rattle.package.specs.leg.declared.answers.Turned.TheVariants as turned
use Rattle.package.specs.steps.Ends.{cause_in, outcome_in}
use Rattle.package.specs.steps.Laws.{CauseIsAllowed, OutcomeIsTrue}
use Rattle.package.specs.steps.Packages.{IsOver, IsPackageOf, PackageView, new_package}
use Rattle.package.specs.package_rules.Planned.{AreThere}
use Rattle.package.specs.package_rules.Truth.{HasWorldsHits, HaveMembers}
use Rattle.front_conn.specs.declared.stepped.Stepped.{Stepped}
use Rattle.front_http.specs.sru_rules.declared.retrieval.Retrieval.{Retrieval}
use Rattle.front_http.specs.sru_rules.Answers.{Answers}
use Rattle.front_http.specs.sru_rules.Asking.{fetch_work, search_work}
use Rattle.front_http.specs.sru_rules.Laws.{FoundIsMeant}
use Rattle.front_http.specs.front_sru.Gets.{work_of}
use Rattle.front_http.specs.front_sru.declared.begun.Begun as sru_begun
use Rattle.front_http.specs.front_sru.declared.begun.Begun.TheVariants as get
use Rattle.front_http.specs.front_sru.declared.state.SruStage.{SruStage}
use Rattle.front_http.specs.front_sru.declared.state.SruStage.TheVariants.{Idle, Searching, Fetching}
use Rattle.front_http.specs.Gets.{GoesOnBehind, IsAnswered, StandsInGet, WaitsFor}
use Rattle.front_http.specs.Laws.{GetsGoOn}
use Rattle.front_conn.specs.steps.Answering.{AnsweringState, EndsAt, EndsWork, IsAnsweredBy, IsAnsweredUnder, IsEndAfter, IsGetEnded, IsKeptBehindGet, WorksOn, get_served, served}
use Rattle.front_conn.specs.steps.States.{ConnectionState, HasAnswered, HasLegsOf, HasMeantHits, HaveMeantHits, IsOneWork, IsStateOf, IsWaitedAt, Rests, Works, WorksAt, WorksOnGet}
use Rattle.front_conn.specs.steps.Steps.{IsInputKept, KeepsState, UnlessMemory, answering_of}
use Rattle.front_conn.proofs.SetLemmas.{asked-hits, sets-legs, sets-meant}
use Rattle.front_conn.proofs.StateLemmas.{answered-more, begins-snoc, met-placed, of-ended, of-standing, works-at, works-get, works-idle}
use Rattle.front_conn.proofs.WorkLemmas.{asked-login}

-- ---- a request that is answered by what came of its legs

some-one : (a b : Waiting) → Some a ≡ Some b → a ≡ b
some-one a b h = cc

-- what is settled of the request that waited is settled of this one
settled-for : (route : Route) (asks : Request) (job : Work) (before : SessionState) (old new : Served) (waiting : Waiting) (got : Outcome)
    → old.session ≡ waits route before asks (record { request = asks; work = job }) → old.session.waiting ≡ Some waiting
    → IsEnded old new waiting got
    → IsEnded (record { session = waits route before asks (record { request = asks; work = job }); out = old.out }) new
    (record { request = asks; work = job }) got
settled-for route asks job before old new waiting got session waited ended =
    let ask : Waiting = record { request = asks; work = job } in
    let same : waiting ≡ ask = some-one waiting ask (sym waited ∙ ap (λ (s : SessionState). s.waiting) session) in
    subst (λ (s : SessionState). IsEnded (record { session = s; out = old.out }) new ask got) session
    (subst (λ (k : Waiting). IsEnded old new k got) same ended)

-- a request that has work settles nothing that an Init does
still-agreed : {W : Type 0} (w : world.Ghosts W) (route : Route) (client : ClientState) (agreed : Agreement) (asks : Request) (job : Work)
    → asked w route client asks ≡ asking.works job → agreed_after route agreed asks ≡ agreed
still-agreed w route client agreed (request.Init init) job h = absurd cc
still-agreed w route client agreed (request.Search search) job h = refl
still-agreed w route client agreed (request.Present present) job h = refl
still-agreed w route client agreed (request.Scan scan) job h = refl
still-agreed w route client agreed (request.Close close) job h = refl

-- so its client is the one before it
still-client : {W : Type 0} (w : world.Ghosts W) (route : Route) (before : SessionState) (asks : Request) (job : Work)
    → asked w route (client_of before) asks ≡ asking.works job
    → client_of (waits route before asks (record { request = asks; work = job })) ≡ client_of before
still-client w route before asks job h =
    ap (λ (agreed : Agreement). record {
      agreed = agreed;
      searches = before.searches;
      records = before.records;
      sets = map stored before.sets;
    })
    (still-agreed w route (client_of before) before.agreed asks job h)

-- what an outcome of its work leaves of it is what it is answered under the cause of that outcome
settled-answered : {W : Type 0} (w : world.Ghosts W) (route : Route) (client behind : ClientState) (asks : Request) (job : Work)
    (got : Outcome) (cause : Cause) → asked w route client asks ≡ asking.works job → got ≡ outcome_of w route job cause → behind ≡ client
    → settled behind asks job got ≡ answered w route client asks cause
settled-answered w route client behind asks job got cause due truly same =
    ap (λ (o : Outcome). settled behind asks job o) truly
    ∙ ap (λ (c : ClientState). settled c asks job (outcome_of w route job cause)) same
    ∙ ap (λ (d : Asking). answer_to w route client asks cause d) (sym due)

-- a request that has work is in its place behind an Init that was accepted
works-accepted : {W : Type 0} (w : world.Ghosts W) (route : Route) (client : ClientState) (here : Progress) (asks : Request) (job : Work)
    → asked w route client asks ≡ asking.works job → is_in_place here asks ≡ true → here.accepted ≡ true
works-accepted w route client here (request.Init init) job h placed = absurd cc
works-accepted w route client here (request.Search search) job h placed = placed
works-accepted w route client here (request.Present present) job h placed = placed
works-accepted w route client here (request.Scan scan) job h placed = placed
works-accepted w route client here (request.Close close) job h placed = placed

or-true : (accepted more : Bool) → accepted ≡ true → (accepted || more) ≡ false → ⊥
or-true true more is none = absurd cc
or-true false more is none = absurd cc

-- its sets have the hits that the targets mean
behind-meant : {W : Type 0} (w : world.Ghosts W) (route : Route) (asks : Request) (job : Work) (before new : SessionState) (cause : Cause)
    → asked w route (client_of before) asks ≡ asking.works job → before.accepted ≡ true
    → new.accepted ≡ (before.accepted || accepts route (Some asks)) → new.agreed ≡ agreed_after route before.agreed asks
    → HaveMeantHits w route before → AllByRecursion (HasGivenHits before.sets job (outcome_of w route job cause)) new.sets
    → HaveMeantHits w route new
behind-meant w route asks job before new cause due accepted stays agreed sets hits =
    let told : List ℕ → List ℕ = λ name. hits_meant (under before.agreed.login w) route (set_named name (map stored before.sets)) in
    let own : login_asked job ≡ before.agreed.login = asked-login told route (client_of before) asks job due in
    let login : login_asked job ≡ new.agreed.login =
    own ∙ sym (ap (λ (a : Agreement). a.login) (agreed ∙ still-agreed w route (client_of before) before.agreed asks job due)) in
    let there = subst (λ (l : Option (List ℕ)). AllByRecursion (HasMeantHits (under l w) route) before.sets) (sym own) sets.each in
    record {
      none_before = λ h. absurd (or-true before.accepted (accepts route (Some asks)) accepted (sym stays ∙ h));
      each = subst (λ (l : Option (List ℕ)). AllByRecursion (HasMeantHits (under l w) route) new.sets) login
          (sets-meant w route before.sets job cause new.sets there hits);
    }

-- so it is answered under the cause of its legs
answered-under : {W : Type 0} (w : world.Ghosts W) (route : Route) (asks : Request) (job : Work) (before : SessionState) (out : List ℕ)
    (new : Served) (got : Outcome) (cause : Cause) → asked w route (client_of before) asks ≡ asking.works job
    → before.accepted ≡ true → HaveMeantHits w route before → got ≡ outcome_of w route job cause
    → IsEnded (record { session = waits route before asks (record { request = asks; work = job }); out = out }) new
    (record { request = asks; work = job }) got
    → IsAnsweredUnder w route asks cause (record { session = before; out = out }) new
answered-under w route asks job before out new got cause due accepted sets truly ended =
    let same = still-client w route before asks job due in
    let answers = settled-answered w route (client_of before) _ asks job got cause due truly same in
    let reply = ended.settled.reply-is ∙ ap (λ (s : Settled). s.reply) answers in
    let hits = subst (λ (o : Outcome). AllByRecursion (HasGivenHits before.sets job o) new.session.sets) truly ended.settled.hits in
    record {
      written = ended.written ∙ ap (λ r. out ++ spell_reply r) reply;
      client = ended.settled.client-is ∙ ap (λ (s : Settled). s.client) answers;
      accepted = ended.settled.accepted;
      units = ended.settled.units;
      waits_not = ended.settled.waits_no_more;
      sets = behind-meant w route asks job before new.session cause due accepted ended.settled.accepted ended.settled.agreed sets hits;
    }

-- ---- where the connection stands

module _ {W S : Type 0} (w : world.Ghosts W) (t : sitting.Ghosts S W) (route : Route) (fed written : List ℕ) (old new : ConnectionState S)
    (view next : PackageView S) (k : Works w route fed written old view) where
  -- the request in work goes on
  works-on : next.work ≡ view.work → answering_of new ≡ record (answering_of old) { in_work = Some next } → new.at ≡ old.at
      → new.left ≡ old.left → Works w route fed written new next
  works-on same is at left =
      let session : new.session ≡ old.session = ap (λ (a : AnsweringState S). a.session) is in
      let marks : new.marks ≡ old.marks = ap (λ (a : AnsweringState S). a.marks) is in
      let out : new.out ≡ old.out = ap (λ (a : AnsweringState S). a.out) is in
      let by_marks = subst (λ (m : List Mark). HasAnswered w route k.units m (written ++ old.out) k.before) (sym marks) k.answered in
      record {
        units = k.units;
        unit = k.unit;
        received = k.received;
        spelled = k.spelled ∙ ap (λ l. octets_of (k.units ++ k.unit ∷ []) ++ l) (sym left);
        kind = k.kind;
        offset = at ∙ k.offset;
        before = k.before;
        answered = subst (λ (o : List ℕ). HasAnswered w route k.units new.marks (written ++ o) k.before) (sym out) by_marks;
        request = k.request;
        is_due = k.is_due;
        asks = k.asks ∙ ap asking.works (sym same);
        waits = session ∙ k.waits ∙ ap (λ j. waits route k.before k.request (record { request = k.request; work = j })) (sym same);
      }

  -- the session and the output before the unit, and behind it
  abbrev earlier : Served
  earlier = record { session = k.before; out = old.out }

  abbrev later : Served
  later = record { session = new.session; out = new.out }

  -- or is answered
  rests-then : (cause : Cause) → IsAllowed (record { classes = classes_asked route view.work; cause = cause })
      → IsAnsweredUnder w route k.request cause earlier later → new.marks ≡ old.marks ++ cause.mark ∷ [] → new.at ≡ old.at
      → new.left ≡ old.left → Rests w route fed written new
  rests-then cause allowed a marks at left =
      let may : IsAllowed (record { classes = reached w route (client_of k.before) k.request; cause = cause }) =
      subst (λ (d : Asking). IsAllowed (record { classes = classes_of route d; cause = cause })) (sym k.asks) allowed in
      let more = answered-more w route k.units k.unit old.marks written earlier later k.request cause k.answered k.received k.is_due may a in
      record {
        units = k.units ++ k.unit ∷ [];
        spelled = k.spelled ∙ ap (λ l. octets_of (k.units ++ k.unit ∷ []) ++ l) (sym left);
        kind = begins-snoc k.units k.unit fed k.kind;
        offset = at ∙ k.offset;
        answered = subst (λ (m : List Mark). HasAnswered w route (k.units ++ k.unit ∷ []) m (written ++ new.out) new.session) (sym marks) more;
        waits_not = a.waits_not;
      }

  -- by what came of its legs
  settled-rests : (most : ℕ) → IsFair w route → IsSound route → HaveMembers route → OutcomeIsTrue w t → CauseIsAllowed w t
      → IsPackageOf w t route most next → IsOver next → next.work ≡ view.work
      → IsAnsweredBy route next (answering_of old) (answering_of new) → new.at ≡ old.at → new.left ≡ old.left
      → Rests w route fed written new
  settled-rests most fair sound members is_true is_allowed of over same b at left =
      let cause : Cause = cause_in route next in
      let hits = asked-hits w route k.before k.request view.work k.answered.sets k.asks in
      let hits_next : HasWorldsHits w route next.work = subst (HasWorldsHits w route) (sym same) hits in
      let true_next : outcome_in route next ≡ outcome_of w route view.work cause =
      is_true route most next of over fair sound hits_next ∙ ap (λ j. outcome_of w route j cause) same in
      let may = subst (λ (j : Work). IsAllowed (record { classes = classes_asked route j; cause = cause })) same
      (is_allowed route most next of over sound members) in
      let ended = settled-for route k.request view.work k.before (served (answering_of old)) (served (answering_of new)) b.waiting
      (outcome_in route next) k.waits b.waited b.ended in
      let a = answered-under w route k.request view.work k.before old.out later (outcome_in route next) cause k.asks
      (works-accepted w route (client_of k.before) (progress_of (length (octets_of k.units)) k.before) k.request view.work k.asks
      (met-placed route (progress_of (length (octets_of k.units)) k.before) k.unit.request k.request k.is_due))
      k.answered.sets true_next ended in
      rests-then cause may a b.marks at left

-- ---- a GET in work

same-of : {A : Type 0} (one other : A) → Some one ≡ Some other → one ≡ other
same-of one other h = cc

module _ {W : Type 0} (w : world.Ghosts W) (route : Route) where
  -- the hits that its fetch goes by are the world's
  hits-at : (retrieval : Retrieval) (stage : SruStage) (job : Work) → FoundIsMeant w → WaitsFor w route retrieval stage
      → work_of route stage ≡ Some job → HasWorldsHits w route job
  hits-at retrieval Idle job law waits is = absurd waits
  hits-at retrieval (Searching asked) job law waits is =
      subst (HasWorldsHits w route) (same-of (search_work asked) job is) tt
  hits-at retrieval (Fetching asked hits) job law waits is =
      subst (HasWorldsHits w route) (same-of (fetch_work route.schemas asked hits) job is)
      (subst (λ (r : Retrieval). hits_of w route r.legs r.query ≡ Ok hits) (sym waits.0) (law route retrieval hits waits.1))

module _ {W S : Type 0} (w : world.Ghosts W) (t : sitting.Ghosts S W) (route : Route) (fed written : List ℕ) (old new : ConnectionState S)
    (view next : PackageView S) (k : WorksOnGet w route fed written old view) where
  -- it goes on with its package
  get-on : next.work ≡ view.work → answering_of new ≡ record (answering_of old) { in_work = Some next } → WorksOnGet w route fed written new next
  get-on same is =
      let stage : new.stage ≡ old.stage = ap (λ (a : AnsweringState S). a.stage) is in record {
        kind = k.kind;
        stands = subst (λ (s : SruStage). StandsInGet w route fed s) (sym stage) k.stands;
        of_work = ap (work_of route) stage ∙ k.of_work ∙ ap Some (sym same);
        no_marks = ap (λ (a : AnsweringState S). a.marks) is ∙ k.no_marks;
        unwritten = ap (λ (a : AnsweringState S). written ++ a.out) is ∙ k.unwritten;
      }

  -- what was answered is all that is written, under its one mark
  get-ended : (mark : Mark) (end : Option End) → new.end ≡ end → new.marks ≡ old.marks ++ mark ∷ []
      → IsAnswered w route fed (mark ∷ []) old.out new.out end → IsStateOf w route fed written new
  get-ended mark end ended marks a =
      let all_marks : new.marks ≡ mark ∷ [] = marks ∙ ap (λ m. m ++ mark ∷ []) k.no_marks in
      let all_out : written ++ new.out ≡ a.message =
      ap (λ o. written ++ o) a.written ∙ sym (append_assoc written old.out a.message) ∙ ap (λ o. o ++ a.message) k.unwritten in
      of-ended w route fed written new a.how (ended ∙ a.ended)
      (λ more may.
      subst (λ (m : List Mark). Answers w route (fed ++ more) m (written ++ new.out) a.how) (sym all_marks)
      (subst (λ (o : List ℕ). Answers w route (fed ++ more) (mark ∷ []) o a.how) (sym all_out) (a.whole more)))

  -- its fetch is begun
  get-fetches : (job : Work) → new.end ≡ None → new.in_work ≡ Some (new_package route job) → new.marks ≡ old.marks → new.out ≡ old.out
      → StandsInGet w route fed new.stage → work_of route new.stage ≡ Some job → IsStateOf w route fed written new
  get-fetches job goes works marks out stands of_work =
      works-get w route fed written new (new_package route job) goes works (record {
        kind = k.kind;
        stands = stands;
        of_work = of_work;
        no_marks = marks ∙ k.no_marks;
        unwritten = ap (λ o. written ++ o) out ∙ k.unwritten;
      })

  -- the work of a GET that stands so
  work-at : (retrieval : Retrieval) (waiting : Option Waiting) (job : Work) (stage : SruStage) → WaitsFor w route retrieval stage
      → IsWaitedAt route waiting job stage → work_of route stage ≡ Some job
  work-at retrieval waiting job Idle waits h = absurd waits
  work-at retrieval waiting job (Searching asked) waits h = h
  work-at retrieval waiting job (Fetching asked hits) waits h = h

  one-of : (job : Work) → new.in_work ≡ Some (new_package route job) → IsOneWork route new.session.waiting new.stage new.in_work
      → IsWaitedAt route new.session.waiting job new.stage
  one-of job works one = subst (λ (i : Option (PackageView S)). IsOneWork route new.session.waiting new.stage i) works one

  -- by what became of it
  get-by : (answer : sru_begun.Begun) (ended : Option End) → new.end ≡ ended
      → (new.end ≡ None → IsOneWork route new.session.waiting new.stage new.in_work)
      → IsKeptBehindGet route next (answering_of old) (answering_of new) ended answer
      → GoesOnBehind w route fed (cause_in route next) (get_served (answering_of old)) (get_served (answering_of new)) answer
      → IsStateOf w route fed written new
  get-by get.Memory ended is one kept behind = absurd kept
  get-by (get.Write mark end) ended is one kept behind =
      get-ended (cause_in route next).mark end (is ∙ kept.0) kept.1 behind.1
  get-by (get.Work job) ended is one kept behind =
      let goes : new.end ≡ None = is ∙ kept.0 in
      get-fetches job goes kept.2 kept.1 behind.1 behind.0
      (work-at behind.0.retrieval new.session.waiting job new.stage behind.0.waits (one-of job kept.2 (one goes)))

  get-behind : (most : ℕ) → IsFair w route → IsSound route → HaveMembers route → OutcomeIsTrue w t → CauseIsAllowed w t → GetsGoOn w
      → FoundIsMeant w → IsPackageOf w t route most next → IsOver next → next.work ≡ view.work → (ended : Option End) → new.end ≡ ended
      → (new.end ≡ None → IsOneWork route new.session.waiting new.stage new.in_work)
      → IsGetEnded route next (answering_of old) (answering_of new) ended → IsStateOf w route fed written new
  get-behind most fair sound members is_true is_allowed goes_on meant of over same ended is one g =
      let cause : Cause = cause_in route next in
      let hits = hits-at w route k.stands.retrieval old.stage view.work meant k.stands.waits k.of_work in
      let hits_next : HasWorldsHits w route next.work = subst (HasWorldsHits w route) (sym same) hits in
      let true_next : outcome_in route next ≡ outcome_of w route view.work cause =
      is_true route most next of over fair sound hits_next ∙ ap (λ j. outcome_of w route j cause) same in
      let may = subst (λ (j : Work). IsAllowed (record { classes = classes_asked route j; cause = cause })) same
      (is_allowed route most next of over sound members) in
      get-by g.answer ended is one g.kept
      (goes_on route fed (get_served (answering_of old)) (get_served (answering_of new)) view.work (outcome_in route next) cause g.answer
      k.kind k.stands k.of_work true_next may g.went)

-- ---- the turn

-- what the laws of packages and GETs say
pub record TurnLaws {W S : Type 0} (w : world.Ghosts W) (t : sitting.Ghosts S W) (route : Route) : Type 0 where
  pub sound : IsSound route
  pub members : HaveMembers route
  pub is_true : OutcomeIsTrue w t
  pub is_allowed : CauseIsAllowed w t
  pub goes_on : GetsGoOn w
  pub meant : FoundIsMeant w

module _ {W S : Type 0} (w : world.Ghosts W) (t : sitting.Ghosts S W) (route : Route) (most : ℕ) (old new : ConnectionState S)
    (view next : PackageView S) (of : IsPackageOf w t route most next) (same : next.work ≡ view.work) where
  -- whatever was fed and written
  ended-by : (laws : TurnLaws w t route) (fair : IsFair w route) (fed written : List ℕ) (stage : SruStage) (ended : Option End)
      → IsOver next → old.stage ≡ stage → new.end ≡ ended → (new.end ≡ None → IsOneWork route new.session.waiting new.stage new.in_work)
      → WorksAt w route fed written old stage view → EndsAt route stage next (answering_of old) (answering_of new) (Ok ended)
      → IsInputKept old new → IsStateOf w route fed written new
  ended-by laws fair fed written Idle ended over idle is one k e input =
      of-standing w route fed written new None (is ∙ e.0) e.1
      (settled-rests w t route fed written old new view next k most fair laws.sound laws.members laws.is_true laws.is_allowed of over same e.3
      input.at input.left)
  ended-by laws fair fed written (Searching retrieval) ended over idle is one k e input =
      get-behind w t route fed written old new view next k most fair laws.sound laws.members laws.is_true laws.is_allowed laws.goes_on
      laws.meant of over same ended is one e
  ended-by laws fair fed written (Fetching retrieval hits) ended over idle is one k e input =
      get-behind w t route fed written old new view next k most fair laws.sound laws.members laws.is_true laws.is_allowed laws.goes_on
      laws.meant of over same ended is one e

  ends-keeps : (done : Result (Option End) NoMemory) (answer : Stepped) → TurnLaws w t route → old.end ≡ None → old.in_work ≡ Some view
      → (new.end ≡ None → IsOneWork route new.session.waiting new.stage new.in_work)
      → EndsWork route next (answering_of old) (answering_of new) done → IsEndAfter done new.end answer → IsInputKept old new
      → UnlessMemory answer (KeepsState w route old new)
  ends-keeps (Err want) answer laws goes works one e after input =
      subst (λ (s : Stepped). UnlessMemory s (KeepsState w route old new)) (sym after.1) tt
  ends-keeps (Ok ended) answer laws goes works one e after input =
      subst (λ (s : Stepped). UnlessMemory s (KeepsState w route old new)) (sym after.1)
      (λ fair fed written h.
      ended-by laws fair fed written old.stage ended e.over refl after.0 one (works-at w route fed written old view goes works h) e.went input)

  on-by : (fed written : List ℕ) (stage : SruStage) → old.stage ≡ stage
      → answering_of new ≡ record (answering_of old) { in_work = Some next } → new.end ≡ None → new.at ≡ old.at → new.left ≡ old.left
      → WorksAt w route fed written old stage view → IsStateOf w route fed written new
  on-by fed written Idle idle is goes at left k =
      works-idle w route fed written new next goes (ap (λ (a : AnsweringState S). a.in_work) is)
      (ap (λ (a : AnsweringState S). a.stage) is ∙ idle)
      (works-on w t route fed written old new view next k same is at left)
  on-by fed written (Searching retrieval) idle is goes at left k =
      works-get w route fed written new next goes (ap (λ (a : AnsweringState S). a.in_work) is)
      (get-on w t route fed written old new view next k same is)
  on-by fed written (Fetching retrieval hits) idle is goes at left k =
      works-get w route fed written new next goes (ap (λ (a : AnsweringState S). a.in_work) is)
      (get-on w t route fed written old new view next k same is)

  pub goes-keeps : old.end ≡ None → old.in_work ≡ Some view
      → answering_of new ≡ record (answering_of old) { in_work = Some next } → new.end ≡ None → new.at ≡ old.at → new.left ≡ old.left
      → KeepsState w route old new
  goes-keeps goes works is ended at left = λ fair fed written h.
      on-by fed written old.stage refl is ended at left (works-at w route fed written old view goes works h)

  pub turned-keeps : (turned : Turned) (answer : Stepped) → TurnLaws w t route
      → old.end ≡ None → old.in_work ≡ Some view → (new.end ≡ None → IsOneWork route new.session.waiting new.stage new.in_work)
      → WorksOn route turned next (answering_of old) (answering_of new) answer new.end
      → IsInputKept old new → UnlessMemory answer (KeepsState w route old new)
  turned-keeps turned.Done answer laws goes works one on input =
      ends-keeps on.done answer laws goes works one on.ends on.after input
  turned-keeps turned.Went answer laws goes works one on input =
      subst (λ (s : Stepped). UnlessMemory s (KeepsState w route old new)) (sym on.0)
      (goes-keeps goes works on.1 on.2 input.at input.left)
  turned-keeps turned.NotYet answer laws goes works one on input =
      subst (λ (s : Stepped). UnlessMemory s (KeepsState w route old new)) (sym on.0)
      (goes-keeps goes works on.1 on.2 input.at input.left)
  turned-keeps turned.Memory answer laws goes works one on input =
      subst (λ (s : Stepped). UnlessMemory s (KeepsState w route old new)) (sym on.0) tt

  -- ---- of its route

  ended-sets : (stage : SruStage) (ended : Option End) → AllByRecursion (HasLegsOf route) old.session.sets
      → EndsAt route stage next (answering_of old) (answering_of new) (Ok ended) → AllByRecursion (HasLegsOf route) new.session.sets
  ended-sets Idle ended sets e =
      let b = e.3 in
      let there = subst (AreThere route) (sym b.of_work) of.asks.there in
      sets-legs route old.session.sets b.waiting.work (outcome_in route next) new.session.sets sets there b.ended.settled.hits
  ended-sets (Searching retrieval) ended sets e =
      subst (λ (s : SessionState). AllByRecursion (HasLegsOf route) s.sets) (sym e.session) sets
  ended-sets (Fetching retrieval hits) ended sets e =
      subst (λ (s : SessionState). AllByRecursion (HasLegsOf route) s.sets) (sym e.session) sets

  ends-sets : (done : Result (Option End) NoMemory) (answer : Stepped) → AllByRecursion (HasLegsOf route) old.session.sets → new.end ≡ None
      → EndsWork route next (answering_of old) (answering_of new) done → IsEndAfter done new.end answer
      → AllByRecursion (HasLegsOf route) new.session.sets
  ends-sets (Ok ended) answer sets goes e after = ended-sets old.stage ended sets e.went
  ends-sets (Err want) answer sets goes e after = let wrong = sym after.0 ∙ goes in absurd cc

  on-sets : AllByRecursion (HasLegsOf route) old.session.sets → answering_of new ≡ record (answering_of old) { in_work = Some next }
      → AllByRecursion (HasLegsOf route) new.session.sets
  on-sets sets is = subst (λ (a : AnsweringState S). AllByRecursion (HasLegsOf route) a.session.sets) (sym is) sets

  pub turned-sets : (turned : Turned) (answer : Stepped) → AllByRecursion (HasLegsOf route) old.session.sets → new.end ≡ None
      → WorksOn route turned next (answering_of old) (answering_of new) answer new.end → AllByRecursion (HasLegsOf route) new.session.sets
  turned-sets turned.Done answer sets goes on = ends-sets on.done answer sets goes on.ends on.after
  turned-sets turned.Went answer sets goes on = on-sets sets on.1
  turned-sets turned.NotYet answer sets goes on = on-sets sets on.1
  turned-sets turned.Memory answer sets goes on = on-sets sets on.1
