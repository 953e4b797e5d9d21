-- Both works of a GET lead to its one answer, whichever of them is marked.
use Rattle.std.proofs.Common.{◌≡◌, ℕ, List, Result, Ok, Err, refl, sym, ap, ◌∙◌, cond, Bool, true, false, ◌==◌}
use Rattle.z_types.specs.declared.diagnostic.Diag.{Diag}
use Rattle.z_types.specs.declared.marks.Mark.TheVariants.{Plain, Link, Silent, Gone, Full}
use Rattle.z_types.specs.declared.marks.Mark.{Mark}
use Rattle.z_types.specs.declared.outcome.Fetched.{Fetched}
use Rattle.z_types.specs.MergedOrder.{total}
use Rattle.z_types.specs.declared.schemas.Schema.{Schema}
use Rattle.z_types.specs.declared.sru.SruAnswer.{SruAnswer}
use Rattle.z_types.specs.declared.work.Work.{Work}
use Rattle.z_types.specs.declared.world.World as world
use Rattle.route_config.specs.declared.route.Database.{Database}
use Rattle.route_config.specs.declared.route.Route.{Route}
use Rattle.gateway_rules.specs.Marks.{Cause}
use Rattle.gateway_rules.specs.Outcomes.{found, outcome_of, plain_outcome}
use Rattle.gateway_rules.specs.Targets.{hits_of}
use Rattle.gateway_rules.proofs.MarkLemmas.{found-plain, mark-kept}
use Rattle.sru_rules.specs.declared.retrieval.Retrieval.{Retrieval}
use Rattle.sru_rules.specs.Asking.{search_work, fetch_work, fetched_count}
use Rattle.sru_rules.specs.Laws.{SearchAnswers, FetchAnswers, FoundIsMeant, MarkIsKept}
use Rattle.sru_rules.specs.Reading.{Reading}
use Rattle.sru_rules.specs.Run.{answer_to, next_answer, get_answer, due, searches}
use Rattle.sru_rules.specs.Settling.{answered, fetches, fetch_answer, is_out_of_range, after_search}
use Rattle.sru_rules.specs.steps.Works.{HasFound}

pub search_answers : {W : Type 0} → (w : world.Ghosts W) → SearchAnswers w
search_answers w route database reading retrieval cause answer asks is =
    sym (ap (answer_to w route cause) asks ∙ ap (next_answer w route retrieval.asked cause) is)

-- a cause of its two parts
abbrev of : Mark → List ℕ → Cause
of mark class = record { mark = mark; class = class }

fetch_answers_at : {W : Type 0} → (w : world.Ghosts W) (route : Route) (database : Database) (reading : Reading)
    (retrieval : Retrieval) (hits : List ℕ) (mark : Mark) (class : List ℕ)
    → due route database reading ≡ searches retrieval → HasFound w route retrieval hits
    → fetch_answer route.schemas retrieval.asked (total hits)
    (outcome_of w route (fetch_work route.schemas retrieval hits) (of mark class))
    ≡ get_answer w route database reading (of mark class)
fetch_answers_at w route database reading retrieval hits Plain class asks has =
    sym (ap (answer_to w route (of Plain class)) asks ∙ ap (next_answer w route retrieval.asked (of Plain class)) has)
fetch_answers_at w route database reading retrieval hits Link class asks has =
    sym (ap (answer_to w route (of Link class)) asks)
fetch_answers_at w route database reading retrieval hits (Silent looks) class asks has =
    sym (ap (answer_to w route (of (Silent looks) class)) asks)
fetch_answers_at w route database reading retrieval hits Gone class asks has =
    sym (ap (answer_to w route (of Gone class)) asks)
fetch_answers_at w route database reading retrieval hits (Full sessions) class asks has =
    sym (ap (answer_to w route (of (Full sessions) class)) asks)

pub fetch_answers : {W : Type 0} → (w : world.Ghosts W) → FetchAnswers w
fetch_answers w route database reading retrieval hits cause asks has =
    fetch_answers_at w route database reading retrieval hits cause.mark cause.class asks has

-- ---- the hits

-- hits that are fetched from are those that came
after_by : (behind nothing : Bool) (a b : SruAnswer) (hits others : List ℕ) (x y : Work)
    → cond behind (answered a) (cond nothing (answered b) (fetches hits x)) ≡ fetches others y → hits ≡ others
after_by true nothing a b hits others x y is = absurd cc
after_by false true a b hits others x y is = absurd cc
after_by false false a b hits others x y is = cc

meant : (schemas : List Schema) (retrieval : Retrieval) (hits : List ℕ) (said : Result (List ℕ) Diag)
    (records : List ℕ → Fetched)
    → after_search schemas retrieval (found said records) ≡ fetches hits (fetch_work schemas retrieval hits)
    → said ≡ Ok hits
meant schemas retrieval hits (Err diag) records is = absurd cc
meant schemas retrieval hits (Ok own) records is =
    ap Ok (after_by (is_out_of_range retrieval.asked (total own)) (fetched_count retrieval.asked (total own) == 0)
    _ _ own hits (fetch_work schemas retrieval own) (fetch_work schemas retrieval hits) is)

pub found_is_meant : {W : Type 0} → (w : world.Ghosts W) → FoundIsMeant w
found_is_meant w route retrieval hits has =
    meant route.schemas retrieval hits (hits_of w route retrieval.legs retrieval.query) _ has

-- ---- the mark

pub mark_is_kept : {W : Type 0} → (w : world.Ghosts W) → MarkIsKept w
mark_is_kept w route retrieval hits cause = (
  mark-kept cause.mark cause.class (plain_outcome w route (search_work retrieval))
      (found-plain (hits_of w route retrieval.legs retrieval.query) _),
  mark-kept cause.mark cause.class (plain_outcome w route (fetch_work route.schemas retrieval hits)) refl,
)
