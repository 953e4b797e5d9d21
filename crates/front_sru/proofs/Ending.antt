-- What is done where a work of a GET has ended.
use Rattle.std.proofs.Common.{◌≡◌, ◌==◌, ℕ, Bool, true, false, List, length, cond, Option, Some, None, refl, sym, ap, subst, ◌∙◌, Result, Ok, Err}
use Rattle.std.specs.Prelude.{IfSome, IfOk}
use Rattle.z_types.specs.MergedOrder.{total}
use Rattle.z_types.specs.declared.marks.Mark.{Mark}
use Rattle.z_types.specs.declared.marks.Mark.TheVariants as mark
use Rattle.z_types.specs.declared.diagnostic.Diag.{Diag}
use Rattle.z_types.specs.declared.memory.Memory.{Memory as NoMemory}
use Rattle.z_types.specs.declared.outcome.Fetched.{Fetched}
use Rattle.z_types.specs.declared.outcome.Outcome.{Outcome}
use Rattle.z_types.specs.declared.outcome.Outcome.TheVariants as outcome
use Rattle.z_types.specs.declared.schemas.Schema.{Schema}
use Rattle.z_types.specs.declared.sru.SruAnswer.{SruAnswer}
use Rattle.z_types.specs.declared.work.Work.{Work}
use Rattle.route_config.specs.Sound.{IsSound}
use Rattle.route_config.specs.declared.route.Route.{Route}
use Rattle.sru_rules.specs.gateway_rules.Settling.{why_failed, found_hits}
use Rattle.sru_rules.specs.gateway_rules.Works.{CanBegin, FitsWork, IsAskable, mark_of}
use Rattle.sru_reply.specs.Reply.{reply}
use Rattle.sru_rules.specs.declared.retrieval.Retrieval.{Retrieval}
use Rattle.sru_rules.specs.Asking.{search_work, fetch_work, fetched_count}
use Rattle.sru_rules.specs.Settling.{Next, answered, fetches, is_out_of_range, after_hits, after_search, fetch_answer, unless_failed}
use Rattle.sru_rules.specs.steps.Works.{IsRetrieval}
use Rattle.sru_rules.proofs.CanBegin.{fetch_can_begin}
use Rattle.front_sru.specs.Followed.{IsReady, next_in}
use Rattle.front_sru.specs.Gets.{Awaits, IsAwaited, work_of, Served, IsPut, IsNextDone, IsEnded, next_behind}
use Rattle.front_sru.specs.Kept.{fetching, IsCameOf}
use Rattle.front_sru.specs.declared.outcomes.Came.TheVariants.{Good}
use Rattle.front_sru.specs.declared.begun.Begun.{Begun}
use Rattle.front_sru.specs.declared.begun.Begun.TheVariants as begun
use Rattle.front_sru.specs.declared.end.Followed.{Followed}
use Rattle.front_sru.specs.declared.end.Followed.TheVariants.{Answered, Fetches}
use Rattle.front_sru.specs.declared.state.SruStage.{SruStage}
use Rattle.front_sru.specs.declared.state.SruStage.TheVariants.{Idle, Searching, Fetching}

-- ---- the fetch

-- an outcome of a search that fits and has not failed has the hits of each leg
each_found : (retrieval : Retrieval) (got : Outcome) → FitsWork (search_work retrieval) got → why_failed got ≡ None
    → length (found_hits got) ≡ length retrieval.legs
each_found retrieval (outcome.Found hits records) fits good = fits.0
each_found retrieval (outcome.Fetched records) fits good = absurd fits
each_found retrieval (outcome.Scanned entries) fits good = absurd fits
each_found retrieval (outcome.Refused diag) fits good = absurd cc
each_found retrieval (outcome.Marked mark.Plain class) fits good = absurd (fits refl)
each_found retrieval (outcome.Marked mark.Link class) fits good = absurd cc
each_found retrieval (outcome.Marked (mark.Silent looks) class) fits good = absurd cc
each_found retrieval (outcome.Marked mark.Gone class) fits good = absurd cc
each_found retrieval (outcome.Marked (mark.Full sessions) class) fits good = absurd cc

-- hits that are fetched from are those that came, and the work is theirs
same_fetch : (behind nothing : Bool) (a b : SruAnswer) (hits others : List ℕ) (x y : Work)
    → cond behind (answered a) (cond nothing (answered b) (fetches hits x)) ≡ fetches others y
    → (hits ≡ others) × (x ≡ y)
same_fetch true nothing a b hits others x y is = absurd cc
same_fetch false true a b hits others x y is = absurd cc
same_fetch false false a b hits others x y is = (cc, cc)

-- a fetch that follows these hits can begin
fetch_ready : (route : Route) (retrieval : Retrieval) (hits : List ℕ) (followed : Followed) → IsSound route
    → IsRetrieval retrieval → length hits ≡ length retrieval.legs
    → next_in followed ≡ after_hits route.schemas retrieval hits → IsReady followed
fetch_ready route retrieval hits (Answered answer) sound kept each is = tt
fetch_ready route retrieval hits (Fetches others work) sound kept each is =
    let own = fetch_work route.schemas retrieval hits in
    let same = same_fetch (is_out_of_range retrieval.asked (total hits)) (fetched_count retrieval.asked (total hits) == 0)
    _ _ hits others own work (sym is) in
    let follows : after_hits route.schemas retrieval hits ≡ fetches hits own =
    sym is ∙ ap (λ h. fetches h work) (sym same.0) ∙ ap (fetches hits) (sym same.1) in
    subst (λ (w : Work). CanBegin w × IsAskable w) same.1 (fetch_can_begin route retrieval hits sound kept each follows)

-- ---- the end of a work

-- a stage, and what was written
abbrev served : SruStage → List ℕ → Served
served stage out = record { stage = stage; out = out }

answered_done : (got : Outcome) (old new : SruStage) (out after : List ℕ) (given : SruAnswer) (answer : Begun)
    → IsPut (reply given) (Some (mark_of got)) out after answer → new ≡ Idle
    → IsNextDone (answered given) (mark_of got) (served old out) (served new after) answer
answered_done got old new out after given begun.Memory put idle = put
answered_done got old new out after given (begun.Work work) put idle =
    (record { closed = put.0; written = put.1 }, idle)
answered_done got old new out after given (begun.Write mark end) put idle =
    (record { closed = put.0; written = put.1 }, idle)

pub ended_answered : (route : Route) (got : Outcome) (old new : SruStage) (out after : List ℕ) (given : SruAnswer)
    (answer : Begun) → next_behind route old got ≡ Some (answered given)
    → IsPut (reply given) (Some (mark_of got)) out after answer → new ≡ Idle
    → IsEnded route got (served old out) (served new after) answer
ended_answered route got old new out after given answer next put idle =
    subst (λ (n : Option Next). IfSome n (λ next. IsNextDone next (mark_of got) (served old out) (served new after) answer))
    (sym next) (answered_done got old new out after given answer put idle)

pub ended_fetches : (route : Route) (got : Outcome) (old new : SruStage) (out : List ℕ) (hits : List ℕ) (work : Work)
    → next_behind route old got ≡ Some (fetches hits work) → new ≡ fetching old hits
    → IsEnded route got (served old out) (served new out) (begun.Work work)
ended_fetches route got old new out hits work next waits =
    subst (λ (n : Option Next). IfSome n (λ next. IsNextDone next (mark_of got) (served old out) (served new out)
    (begun.Work work)))
    (sym next)
    (record { handed = refl; waits = waits; written = refl })

pub ended_memory : (route : Route) (got : Outcome) (old new : SruStage) (out : List ℕ)
    → IsEnded route got (served old out) (served new out) begun.Memory
ended_memory route got Idle new out = tt
ended_memory route got (Searching retrieval) new out = refl
ended_memory route got (Fetching retrieval hits) new out = refl

-- a fetch that follows is the one that is awaited then
fetch_of : (schemas : List Schema) (retrieval : Retrieval) (failed : Option Diag) (own hits : List ℕ) (work : Work)
    → unless_failed answered retrieval.asked.version failed (after_hits schemas retrieval own) ≡ fetches hits work
    → work ≡ fetch_work schemas retrieval hits
fetch_of schemas retrieval (Some diag) own hits work is = absurd cc
fetch_of schemas retrieval None own hits work is =
    let same = same_fetch (is_out_of_range retrieval.asked (total own)) (fetched_count retrieval.asked (total own) == 0)
    _ _ own hits (fetch_work schemas retrieval own) work is in
    sym same.1 ∙ ap (fetch_work schemas retrieval) same.0

next_is : (a b : Next) → Some a ≡ Some b → a ≡ b
next_is a b h = cc

pub awaits_fetch : (route : Route) (got : Outcome) (old new : SruStage) (hits : List ℕ) (work : Work)
    → next_behind route old got ≡ Some (fetches hits work) → new ≡ fetching old hits → CanBegin work × IsAskable work
    → IsAwaited route new work
awaits_fetch route got Idle new hits work next waits ready = absurd cc
awaits_fetch route got (Fetching retrieval others) new hits work next waits ready = absurd cc
awaits_fetch route got (Searching retrieval) new hits work next waits ready = record {
  waits = ap (work_of route) waits
      ∙ ap Some (sym (fetch_of route.schemas retrieval (why_failed got) (found_hits got) hits work (next_is _ _ next)));
  can_begin = ready.0;
  is_askable = ready.1;
}

pub awaits_put : (route : Route) (stage : SruStage) (message : List ℕ) (mark : Option Mark) (old new : List ℕ)
    (answer : Begun) → IsPut message mark old new answer → Awaits route stage answer
awaits_put route stage message mark old new begun.Memory h = tt
awaits_put route stage message mark old new (begun.Write own end) h = tt
awaits_put route stage message mark old new (begun.Work work) h = let e = h.0 in absurd cc

pub ruleset ended_steps = (ended_answered, ended_fetches, ended_memory, awaits_put)

-- ---- what follows a work

pub behind_searching : (route : Route) (retrieval : Retrieval) (got : Outcome) (followed : Followed)
    → next_in followed ≡ after_search route.schemas retrieval got
    → next_behind route (Searching retrieval) got ≡ Some (next_in followed)
behind_searching route retrieval got followed is = ap Some (sym is)

pub behind_fetching : (route : Route) (retrieval : Retrieval) (hits : List ℕ) (got : Outcome) (followed : Followed)
    → next_in followed ≡ answered (fetch_answer route.schemas retrieval.asked (total hits) got)
    → next_behind route (Fetching retrieval hits) got ≡ Some (next_in followed)
behind_fetching route retrieval hits got followed is = ap Some (sym is)

pub ruleset behind_steps = (behind_searching, behind_fetching)

-- what follows a search whose hits came is ready
pub good_is_ready : (route : Route) (retrieval : Retrieval) (got : Outcome) (hits : List ℕ) (records : Fetched)
    (answer : Result Followed NoMemory) → IsSound route → IsRetrieval retrieval → FitsWork (search_work retrieval) got
    → IsCameOf got (Good hits records)
    → IfOk answer (λ followed. next_in followed ≡ after_hits route.schemas retrieval hits) → IfOk answer IsReady
good_is_ready route retrieval got hits records (Err memory) sound kept fits came is = tt
good_is_ready route retrieval got hits records (Ok followed) sound kept fits came is =
    fetch_ready route retrieval hits followed sound kept (ap length came.1 ∙ each_found retrieval got fits came.0) is
