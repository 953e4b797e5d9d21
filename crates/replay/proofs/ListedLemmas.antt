-- the marks that a connection lists: those of requests that are answered at once are Plain, and any other is of the cause of its legs
use Rattle.std.proofs.Common.{Result, Ok, Err, ◌≡◌, ◌⊎◌, ℕ, suc, zero, inl, inr, List, [], ◌∷◌, ◌++◌, Option, None, Some, IfSome, sym, ap, subst}
use Rattle.std.specs.Prelude.{option_to_list}
use Rattle.std.specs.List.{AllByRecursion}
use Rattle.z_types.specs.declared.marks.End.{End}
use Rattle.z_types.specs.declared.marks.Mark.{Mark}
use Rattle.z_types.specs.declared.marks.Mark.TheVariants as mark
use Rattle.z_types.specs.declared.requests.Request.{Request}
use Rattle.route_config.specs.declared.route.Route.{Route}
use Rattle.front_conn_costs.specs.gateway_rules.Asking.{Asking, at_once, works}
use Rattle.front_conn_costs.specs.gateway_rules.Course.{Meeting, bad, beyond, closing, due, met}
use Rattle.front_conn_costs.specs.front_session.Sessions.{progress_of}
use Rattle.front_conn_costs.specs.front_z.Units.{IsBegun, IsDueBegun, IsMetBegun, Served}
use Rattle.front_conn_costs.specs.front_z.declared.units.Begun.{Begun}
use Rattle.front_conn_costs.specs.front_z.declared.units.Begun.TheVariants as begun
use Rattle.package_quiet.specs.leg.declared.answers.Turned.{Turned}
use Rattle.package_quiet.specs.leg.declared.answers.Turned.TheVariants as turned
use Rattle.z_types.specs.declared.memory.Memory.{Memory as NoMemory}
use Rattle.package_quiet.specs.package.steps.Ends.{cause_in}
use Rattle.package_quiet.specs.package.steps.Packages.{PackageView}
use Rattle.route_config.specs.declared.route.Database.{Database}
use Rattle.sru_request.specs.declared.faults.HeadFault.{HeadFault}
use Rattle.sru_request.specs.declared.faults.HeadFault.TheVariants as head
use Rattle.sru_request.specs.declared.head.Get.{Get}
use Rattle.front_conn_costs.specs.sru_rules.Course.{database_of}
use Rattle.front_conn_costs.specs.sru_rules.Run as sru_run
use Rattle.front_conn_costs.specs.front_sru.Gets as sru
use Rattle.front_conn_costs.specs.front_sru.declared.begun.Begun as sru_begun
use Rattle.front_conn_costs.specs.front_sru.declared.begun.Begun.TheVariants as get
use Rattle.front_conn_costs.specs.front_sru.declared.state.SruStage.{SruStage}
use Rattle.front_conn_costs.specs.front_sru.declared.state.SruStage.TheVariants as stage
use Rattle.front_conn_costs.specs.front_http.Heads.{IsFaultBegun, IsHeadBegun}
use Rattle.front_conn_costs.specs.front_conn.declared.stepped.Stepped.{Stepped}
use Rattle.front_conn_costs.specs.front_conn.declared.stepped.Stepped.TheVariants.{Idle, NotYet, Went, Memory}
use Rattle.front_conn_costs.specs.front_conn.steps.Answering.{AnsweringState, EndsAt, IsGetEndedIf, IsKeptBehind, IsKeptBehindGet, IsKeptBehindHead, WorksOn}
use Rattle.front_conn_costs.specs.front_conn.steps.Feeding.{fed_piece}
use Rattle.front_conn_costs.specs.front_conn.steps.States.{ConnectionState}
use Rattle.front_conn_costs.specs.front_conn.steps.Steps.{EndsByRest, GoesAhead, TakesHead, TakesUnit, answering_of}
use Rattle.replay.specs.Clients.{ClientState, client_at}
use Rattle.replay.specs.Trace.{AreReported, IsReportedBehind}
use Rattle.replay.specs.declared.reports.ClientReport.{ClientReport}

-- ---- the marks that are listed

-- each is one of these
abbrev pub AreFit : (Mark → Type 0) → List Mark → Type 0
AreFit Fits marks = AllByRecursion Fits marks

module _ (Fits : Mark → Type 0) (plain : Fits mark.Plain) where
  pub fit-both : (marks more : List Mark) → AreFit Fits marks → AreFit Fits more → AreFit Fits (marks ++ more)
  fit-both [] more f g = g
  fit-both (m ∷ marks) more f g = (f.0, fit-both marks more f.1 g)

  pub fit-as : (marks other : List Mark) → marks ≡ other → AreFit Fits other → AreFit Fits marks
  fit-as marks other e f = subst (λ (ms : List Mark). AreFit Fits ms) (sym e) f

  plain-fits : (m : Option Mark) → m ≡ Some mark.Plain → AreFit Fits (option_to_list m)
  plain-fits m e = subst (λ (x : Option Mark). AreFit Fits (option_to_list x)) (sym e) (plain, tt)

  none-fits : (m : Option Mark) → m ≡ None → AreFit Fits (option_to_list m)
  none-fits m e = subst (λ (x : Option Mark). AreFit Fits (option_to_list x)) (sym e) tt

  -- a mark at once is Plain
  due-fits : (route : Route) (asking : Asking) (request : Request) (old new : Served) (m : Option Mark) (end : Option End)
      → IsDueBegun route asking request old new (begun.Write m end) → AreFit Fits (option_to_list m)
  due-fits route (at_once reply) request old new m end h = plain-fits m (let e = h.0 in cc)
  due-fits route (works work) request old new m end h = let wrong = h.0 in absurd cc

  met-fits : (meeting : Meeting) (route : Route) (at_ : ℕ) (read : Option Request) (old new : Served) (m : Option Mark) (end : Option End)
      → IsMetBegun meeting route at_ read old new (begun.Write m end) → AreFit Fits (option_to_list m)
  met-fits bad route at_ read old new m end h = none-fits m (let e = h.0 in cc)
  met-fits (beyond request) route at_ read old new m end h = none-fits m (let e = h.0 in cc)
  met-fits (closing close) route at_ read old new m end h = plain-fits m (let e = h.0 in cc)
  met-fits (due request) route at_ read old new m end h = due-fits route _ request old new m end h

  behind-fits : {S : Type 0} (route : Route) (at_ : ℕ) (unit : List ℕ) (before after : Served) (old new : AnsweringState S) (end : Option End) (said : Begun)
      → IsBegun route at_ unit before after said → IsKeptBehind route old new end said → AreFit Fits old.marks → AreFit Fits new.marks
  behind-fits route at_ unit before after old new end (begun.Write m own) b h f =
      fit-as new.marks (old.marks ++ option_to_list m) h.1
      (fit-both old.marks (option_to_list m) f (met-fits (met route (progress_of at_ before.session) b.read) route at_ b.read before after m own b.begun))
  behind-fits route at_ unit before after old new end (begun.Work job) b h f = fit-as new.marks old.marks h.1 f
  behind-fits route at_ unit before after old new end begun.Memory b h f = absurd h

  -- ---- a head that was begun

  get-due-fits : (d : sru_run.Due) (old new : sru.Served) (m : Option Mark) (end : Option End)
      → sru.IsDueDone d old new (get.Write m end) → AreFit Fits (option_to_list m)
  get-due-fits (sru_run.at_once given) old new m end h = plain-fits m (let e = h.0.closed in cc)
  get-due-fits (sru_run.searches retrieval) old new m end h = let wrong = h.handed in absurd cc

  found-fits : (route : Route) (asked : Get) (database : Option Database) (old new : sru.Served) (m : Option Mark) (end : Option End)
      → sru.IsFoundBegun route asked database old new (get.Write m end) → AreFit Fits (option_to_list m)
  found-fits route asked None old new m end h = none-fits m (let e = h.0.0 in cc)
  found-fits route asked (Some database) old new m end h = get-due-fits (sru_run.due route database h.reading) old new m end h.is_done

  fault-fits : (fault : HeadFault) (old new : List ℕ) (m : Option Mark) (end : Option End)
      → IsFaultBegun fault old new (get.Write m end) → AreFit Fits (option_to_list m)
  fault-fits head.BadHttp old new m end h = none-fits m (let e = h.0 in cc)
  fault-fits head.HeadTooLarge old new m end h = none-fits m (let e = h.0 in cc)
  fault-fits head.NotGet old new m end h = none-fits m (let e = h.0 in cc)
  fault-fits head.Memory old new m end h = let wrong = h.0 in absurd cc

  head-fits : (route : Route) (taken : Result Get HeadFault) (old new : sru.Served) (m : Option Mark) (end : Option End)
      → IsHeadBegun route taken old new (get.Write m end) → AreFit Fits (option_to_list m)
  head-fits route (Ok asked) old new m end h = found-fits route asked (database_of route asked) old new m end h
  head-fits route (Err fault) old new m end h = fault-fits fault old.out new.out m end h.0

  behind-head-fits : {S : Type 0} (route : Route) (taken : Result Get HeadFault) (before after : sru.Served) (old new : AnsweringState S)
      (end : Option End) (said : sru_begun.Begun) → IsHeadBegun route taken before after said → IsKeptBehindHead route old new end said
      → AreFit Fits old.marks → AreFit Fits new.marks
  behind-head-fits route taken before after old new end (get.Write m own) b h f =
      fit-as new.marks (old.marks ++ option_to_list m) h.1
      (fit-both old.marks (option_to_list m) f (head-fits route taken before after m own b))
  behind-head-fits route taken before after old new end (get.Work job) b h f = fit-as new.marks old.marks h.1 f
  behind-head-fits route taken before after old new end get.Memory b h f = absurd h

-- ---- a step

module _ {S : Type 0} (Fits : Mark → Type 0) (plain : Fits mark.Plain) (route : Route) where
  went-fits : (old new : ConnectionState S) → TakesUnit route old new ⊎ TakesHead route old new ⊎ EndsByRest old new → AreFit Fits old.marks
      → AreFit Fits new.marks
  went-fits old new (inl h) f =
      behind-fits Fits plain route old.at h.unit _ _ (answering_of old) (answering_of new) new.end h.begun.answer h.begun.begun h.begun.kept f
  went-fits old new (inr (inl h)) f =
      behind-head-fits Fits plain route h.head _ _ (answering_of old) (answering_of new) new.end h.taken.answer h.taken.begun h.taken.kept f
  went-fits old new (inr (inr h)) f = fit-as Fits plain new.marks old.marks h.marks f

  pub ahead-fits : (old new : ConnectionState S) (said : Stepped) → GoesAhead route old new said → AreFit Fits old.marks → AreFit Fits new.marks
  ahead-fits old new Idle h f = subst (λ (c : ConnectionState S). AreFit Fits c.marks) (sym h.1) f
  ahead-fits old new NotYet h f = absurd h
  ahead-fits old new Went h f = went-fits old new h.2 f
  ahead-fits old new Memory h f = fit-as Fits plain new.marks old.marks h.unbegun.unwritten.marks f

  -- one more mark is that of the cause of some legs
  cause-more : (view : PackageView S) (old new : AnsweringState S) → Fits (cause_in route view).mark
      → new.marks ≡ old.marks ++ (cause_in route view).mark ∷ [] → AreFit Fits old.marks → AreFit Fits new.marks
  cause-more view old new of e f =
      fit-as Fits plain new.marks (old.marks ++ (cause_in route view).mark ∷ []) e
      (fit-both Fits plain old.marks ((cause_in route view).mark ∷ []) f (of, tt))

  got-fits : (view : PackageView S) (old new : AnsweringState S) (ended : Option End) (said : sru_begun.Begun) → Fits (cause_in route view).mark
      → IsKeptBehindGet route view old new ended said → AreFit Fits old.marks → AreFit Fits new.marks
  got-fits view old new ended (get.Write mark end) of h f = cause-more view old new of h.1 f
  got-fits view old new ended (get.Work job) of h f = fit-as Fits plain new.marks old.marks h.1 f
  got-fits view old new ended get.Memory of h f = absurd h

  get-fits : (view : PackageView S) (old new : AnsweringState S) (done : Result (Option End) NoMemory) → Fits (cause_in route view).mark
      → IsGetEndedIf route view old new done → AreFit Fits old.marks → AreFit Fits new.marks
  get-fits view old new (Ok ended) of h f = got-fits view old new ended h.answer of h.kept f
  get-fits view old new (Err memory) of h f = fit-as Fits plain new.marks old.marks h.0.marks f

  over-fits : (at_ : SruStage) (view : PackageView S) (old new : AnsweringState S) (done : Result (Option End) NoMemory)
      → Fits (cause_in route view).mark → EndsAt route at_ view old new done → AreFit Fits old.marks → AreFit Fits new.marks
  over-fits stage.Idle view old new (Ok ended) of h f = cause-more view old new of h.3.marks f
  over-fits stage.Idle view old new (Err memory) of h f = fit-as Fits plain new.marks old.marks h.0.marks f
  over-fits (stage.Searching retrieval) view old new done of h f = get-fits view old new done of h f
  over-fits (stage.Fetching retrieval hits) view old new done of h f = get-fits view old new done of h f

  on-fits : (view : PackageView S) (old new : AnsweringState S) → new ≡ record old { in_work = Some view } → AreFit Fits old.marks → AreFit Fits new.marks
  on-fits view old new e f = fit-as Fits plain new.marks old.marks (ap (λ (a : AnsweringState S). a.marks) e) f

  pub works-fit : (said : Turned) (view : PackageView S) (old new : AnsweringState S) (answer : Stepped) (end : Option End)
      → Fits (cause_in route view).mark → WorksOn route said view old new answer end → AreFit Fits old.marks → AreFit Fits new.marks
  works-fit turned.Went view old new answer end of h f = on-fits view old new h.1 f
  works-fit turned.NotYet view old new answer end of h f = on-fits view old new h.1 f
  works-fit turned.Done view old new answer end of h f = over-fits old.stage view old new h.done of h.ends.went f
  works-fit turned.Memory view old new answer end of h f = on-fits view old new h.1 f

-- ---- the marks of reports

-- those of all clients fit
abbrev pub AllFit : (Mark → Type 0) → List ClientReport → Type 0
AllFit Fits clients = AllByRecursion (λ client. AreFit Fits client.marks) clients

more-fit : (Fits : Mark → Type 0) (reports : List ClientReport) (one : ClientReport) → AllFit Fits reports → AreFit Fits one.marks → AllFit Fits (reports ++ one ∷ [])
more-fit Fits [] one all f = (f, tt)
more-fit Fits (first ∷ reports) one all f = (all.0, more-fit Fits reports one all.1 f)

module _ {S : Type 0} (Fits : Mark → Type 0) where
  pub piece-fits : (end : Option End) (state : ConnectionState S) (piece : List ℕ) → AreFit Fits state.marks
      → AreFit Fits (fed_piece end state piece).marks
  piece-fits None state piece f = f
  piece-fits (Some end) state piece f = f

  one-fits : (number : ℕ) (here : Option (ClientState S)) (old new : List ClientReport) → IfSome here (λ client. AreFit Fits client.conn.marks)
      → AllFit Fits old → IsReportedBehind number here old new → AllFit Fits new
  one-fits number None old new f all h = subst (λ (rs : List ClientReport). AllFit Fits rs) (sym h) all
  one-fits number (Some client) old new f all h =
      subst (λ (rs : List ClientReport). AllFit Fits rs) (sym h.2)
      (more-fit Fits old h.0 all (subst (λ (ms : List Mark). AreFit Fits ms) (sym h.1.marks) f))

  pub reported-fit : (last : ℕ) (clients : List (Option (ClientState S))) (reports : List ClientReport)
      → ((place : ℕ) → IfSome (client_at clients place) (λ client. AreFit Fits client.conn.marks)) → AreReported last clients reports
      → AllFit Fits reports
  reported-fit zero clients reports f h = subst (λ (rs : List ClientReport). AllFit Fits rs) (sym h) tt
  reported-fit (suc last) clients reports f h =
      one-fits (suc last) (client_at clients last) h.0 reports (f last) (reported-fit last clients h.0 f h.1) h.2
