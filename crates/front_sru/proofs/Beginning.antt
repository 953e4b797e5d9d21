-- What is done where a GET is begun.
use Rattle.std.proofs.Common.{◌≡◌, ◌++◌, ℕ, List, Some, Ok, Err, refl, sym, ap, subst, Option, None, ◌∙◌}
use Rattle.z_types.specs.declared.marks.End.TheVariants.{Closed}
use Rattle.z_types.specs.declared.marks.Mark.{Mark}
use Rattle.z_types.specs.declared.marks.Mark.TheVariants.{Plain}
use Rattle.z_types.specs.declared.sru.SruDiag.{SruDiag}
use Rattle.z_types.specs.declared.work.Work.{Work}
use Rattle.sru_rules.specs.gateway_rules.Works.{CanBegin, IsAskable}
use Rattle.route_config.specs.declared.route.Database.{Database}
use Rattle.route_config.specs.declared.route.Route.{Route}
use Rattle.sru_reply.specs.Bare.{bare}
use Rattle.sru_reply.specs.Reply.{reply}
use Rattle.sru_reply.specs.declared.bare.Refusal.TheVariants.{NotFound}
use Rattle.sru_request.specs.declared.faults.QueryFault.TheVariants.{Diag}
use Rattle.sru_request.specs.declared.head.Get.{Get}
use Rattle.sru_rules.specs.declared.retrieval.Retrieval.{Retrieval}
use Rattle.sru_rules.specs.Asking.{search_work}
use Rattle.sru_rules.specs.Course.{database_of}
use Rattle.sru_rules.specs.Run.{Due, at_once, searches, due}
use Rattle.sru_rules.specs.Settling.{refusal}
use Rattle.sru_rules.specs.steps.Works.{IsRetrieval}
use Rattle.sru_rules.proofs.CanBegin.{search_can_begin}
use Rattle.front_sru.specs.Gets.{Awaits, work_of, Served, IsPut, IsDueDone, IsBegun, IsBegunAt, IsFoundBegun, IsSearchBegun}
use Rattle.front_sru.specs.Queries.{IsDueAs, IsReadGet}
use Rattle.front_sru.specs.declared.begun.Begun.{Begun}
use Rattle.front_sru.specs.declared.begun.Begun.TheVariants as begun
use Rattle.front_sru.specs.declared.state.SruStage.{SruStage}
use Rattle.front_sru.specs.declared.state.SruStage.TheVariants.{Searching}

-- a stage, and what was written
abbrev served : SruStage → List ℕ → Served
served stage out = record { stage = stage; out = out }

-- ---- a search

due_search : (asks : Due) (retrieval : Retrieval) (old new : SruStage) (out : List ℕ) (answer : Begun)
    → IsDueAs asks (Ok retrieval) → answer ≡ begun.Work (search_work retrieval)
    → new ≡ Searching retrieval → IsDueDone asks (served old out) (served new out) answer
due_search (at_once given) retrieval old new out answer is handed waits = absurd is
due_search (searches asked) retrieval old new out answer is handed waits =
    subst (λ (r : Retrieval). IsDueDone (searches r) (served old out) (served new out) answer) (sym is)
    (record { handed = handed; waits = waits; written = refl })

pub begun_search : (route : Route) (database : Database) (get : Get) (retrieval : Retrieval) (old new : SruStage)
    (out : List ℕ) (answer : Begun) → IsReadGet route database get (Ok retrieval)
    → IsSearchBegun retrieval old new answer → IsBegunAt route database get (served old out) (served new out) answer
begun_search route database get retrieval old new out begun.Memory read h = ap (λ stage. served stage out) h
begun_search route database get retrieval old new out (begun.Work work) read h = record {
  reading = read.reading;
  is_reading = read.is_reading;
  is_done = due_search (due route database read.reading) retrieval old new out (begun.Work work) read.answered h.0 h.1;
}
begun_search route database get retrieval old new out (begun.Write mark end) read h = record {
  reading = read.reading;
  is_reading = read.is_reading;
  is_done = due_search (due route database read.reading) retrieval old new out (begun.Write mark end) read.answered h.0
      h.1;
}

-- ---- a refusal

due_refused : (asks : Due) (diag : SruDiag) (stage : SruStage) (out after : List ℕ) (answer : Begun)
    → IsDueAs asks (Err (Diag diag)) → answer ≡ begun.Write (Some Plain) (Some Closed)
    → after ≡ out ++ reply (refusal diag) → IsDueDone asks (served stage out) (served stage after) answer
due_refused (at_once given) diag stage out after answer is closed written =
    (record { closed = closed; written = subst (λ told. after ≡ out ++ reply told) (sym is) written }, refl)
due_refused (searches retrieval) diag stage out after answer is closed written = absurd is

pub begun_refused : (route : Route) (database : Database) (get : Get) (diag : SruDiag) (stage : SruStage)
    (out after : List ℕ) (answer : Begun) → IsReadGet route database get (Err (Diag diag))
    → IsPut (reply (refusal diag)) (Some Plain) out after answer
    → IsBegunAt route database get (served stage out) (served stage after) answer
begun_refused route database get diag stage out after begun.Memory read put = ap (served stage) put
begun_refused route database get diag stage out after (begun.Work work) read put = record {
  reading = read.reading;
  is_reading = read.is_reading;
  is_done = due_refused (due route database read.reading) diag stage out after (begun.Work work) read.answered put.0 put.1;
}
begun_refused route database get diag stage out after (begun.Write mark end) read put = record {
  reading = read.reading;
  is_reading = read.is_reading;
  is_done = due_refused (due route database read.reading) diag stage out after (begun.Write mark end) read.answered put.0
      put.1;
}

-- ---- the virtual database

pub begun_found : (route : Route) (get : Get) (database : Database) (old new : Served) (answer : Begun)
    → database_of route get ≡ Some database → IsBegunAt route database get old new answer → IsBegun route get old new answer
begun_found route get database old new answer found is =
    subst (λ (named : Option Database). IsFoundBegun route get named old new answer) (sym found) is

pub begun_nowhere : (route : Route) (get : Get) (stage : SruStage) (out after : List ℕ) (answer : Begun)
    → database_of route get ≡ None → IsPut (bare NotFound) None out after answer
    → IsBegun route get (served stage out) (served stage after) answer
begun_nowhere route get stage out after answer found put =
    subst (λ (named : Option Database). IsFoundBegun route get named (served stage out) (served stage after) answer) (sym found)
    (put, refl)

not_begun : (route : Route) (get : Get) (named : Option Database) (stage : SruStage) (out : List ℕ)
    → IsFoundBegun route get named (served stage out) (served stage out) begun.Memory
not_begun route get None stage out = (refl, refl)
not_begun route get (Some database) stage out = refl

pub begun_memory : (route : Route) (get : Get) (stage : SruStage) (out : List ℕ)
    → IsBegun route get (served stage out) (served stage out) begun.Memory
begun_memory route get stage out = not_begun route get (database_of route get) stage out

pub ruleset begun_steps = (begun_found, begun_nowhere, begun_memory)

-- ---- what is awaited

work_is : (work other : Work) → begun.Work work ≡ begun.Work other → work ≡ other
work_is work other h = cc

pub awaits_search : (route : Route) (retrieval : Retrieval) (old new : SruStage) (answer : Begun) → IsRetrieval retrieval
    → IsSearchBegun retrieval old new answer → Awaits route new answer
awaits_search route retrieval old new begun.Memory kept h = tt
awaits_search route retrieval old new (begun.Write mark end) kept h = tt
awaits_search route retrieval old new (begun.Work work) kept h =
    let same : work ≡ search_work retrieval = work_is work (search_work retrieval) h.0 in
    let ready = search_can_begin retrieval kept in
    record {
      waits = ap (work_of route) h.1 ∙ ap Some (sym same);
      can_begin = subst CanBegin (sym same) ready.0;
      is_askable = subst IsAskable (sym same) ready.1;
    }

-- what is written awaits nothing
pub awaits_put : (route : Route) (stage : SruStage) (message : List ℕ) (mark : Option Mark) (old new : List ℕ)
    (answer : Begun) → IsPut message mark old new answer → Awaits route stage answer
awaits_put route stage message mark old new begun.Memory h = tt
awaits_put route stage message mark old new (begun.Write own end) h = tt
awaits_put route stage message mark old new (begun.Work work) h = let e = h.0 in absurd cc

pub ruleset awaited_steps = (awaits_search, awaits_put)
