-- A GET goes on behind each of its works: it is answered under the mark of that one, or waits for its fetch.
use Rattle.std.proofs.Common.{◌≡◌, ◌∙◌, ◌++◌, ◌==◌, ℕ, Bool, true, false, List, [], ◌∷◌, Option, Some, None, refl, sym, ap, subst, cond}
use Rattle.std.specs.Prelude.{IfSome, IsSome}
use Rattle.z_types.specs.MergedOrder.{total}
use Rattle.z_types.specs.declared.diagnostic.Diag.{Diag}
use Rattle.z_types.specs.declared.marks.End.{End}
use Rattle.z_types.specs.declared.marks.End.TheVariants.{Closed}
use Rattle.z_types.specs.declared.marks.Mark.{Mark}
use Rattle.z_types.specs.declared.marks.Mark.TheVariants.{Plain, Link, Silent, Gone, Full}
use Rattle.z_types.specs.declared.outcome.Outcome.{Outcome}
use Rattle.z_types.specs.declared.schemas.Schema.{Schema}
use Rattle.z_types.specs.declared.sru.SruAnswer.{SruAnswer}
use Rattle.z_types.specs.declared.work.Work.{Work}
use Rattle.z_types.specs.declared.world.World as world
use Rattle.route_config.specs.declared.route.Database.{Database}
use Rattle.route_config.specs.declared.route.Route.{Route}
use Rattle.front_sru.specs.gateway_rules.Answers.{kind_of, letter}
use Rattle.front_sru.specs.gateway_rules.Marks.{Cause, IsAllowed, MayCome}
use Rattle.front_sru.specs.gateway_rules.Outcomes.{classes_asked, outcome_of}
use Rattle.front_sru.specs.gateway_rules.Settling.{found_hits, why_failed}
use Rattle.front_sru.specs.gateway_rules.Works.{mark_of}
use Rattle.sru_reply.specs.Reply.{reply}
use Rattle.front_sru.specs.sru_rules.declared.retrieval.Retrieval.{Retrieval}
use Rattle.front_sru.specs.sru_rules.Answers.{Answers}
use Rattle.front_sru.specs.sru_rules.Asking.{fetch_work, fetched_count, search_work}
use Rattle.front_sru.specs.sru_rules.Course.{HasGet}
use Rattle.front_sru.specs.sru_rules.Laws.{FetchAnswers, FetchAsksNoMore, GetIsAnswered, GetStays, MarkIsKept, SearchAnswers}
use Rattle.front_sru.specs.sru_rules.Reading.{Reading}
use Rattle.front_sru.specs.sru_rules.Run.{Due, classes_of, due, get_answer, next_of, searches, taken_at}
use Rattle.front_sru.specs.sru_rules.Settling.{Next, after_hits, after_search, answered, fetch_answer, fetches, is_out_of_range, unless_failed}
use Rattle.front_sru.specs.sru_rules.steps.Works.{HasFound}
use Rattle.front_sru.specs.Gets.{IsEnded, IsNextDone, Served, next_behind, work_of}
use Rattle.front_sru.specs.Kept.{fetching}
use Rattle.front_sru.specs.declared.begun.Begun.{Begun}
use Rattle.front_sru.specs.declared.begun.Begun.TheVariants as begun
use Rattle.front_sru.specs.declared.state.SruStage.{SruStage}
use Rattle.front_sru.specs.declared.state.SruStage.TheVariants.{Idle, Searching, Fetching}
use Rattle.front_http.specs.Gets.{GoesOnBehind, WaitsFor}
use Rattle.front_http.specs.Laws.{GetsGoOn, GetsStand}
use Rattle.front_http.proofs.Heads.{IsOutOf}

-- ---- the hits of a search

-- hits that are fetched from are those that came, and the work is theirs
same-fetch : (behind nothing : Bool) (a b : SruAnswer) (hits others : List ℕ) (x y : Work)
    → cond behind (answered a) (cond nothing (answered b) (fetches hits x)) ≡ fetches others y
    → (hits ≡ others) × (x ≡ y)
same-fetch true nothing a b hits others x y is = absurd cc
same-fetch false true a b hits others x y is = absurd cc
same-fetch false false a b hits others x y is = (cc, cc)

pub fetch-of : (schemas : List Schema) (retrieval : Retrieval) (failed : Option Diag) (own hits : List ℕ) (work : Work)
    → unless_failed answered retrieval.asked.version failed (after_hits schemas retrieval own) ≡ fetches hits work
    → work ≡ fetch_work schemas retrieval hits
fetch-of schemas retrieval (Some diag) own hits work is = absurd cc
fetch-of schemas retrieval None own hits work is =
    let same = same-fetch (is_out_of_range retrieval.asked (total own)) (fetched_count retrieval.asked (total own) == 0)
    _ _ own hits (fetch_work schemas retrieval own) work is in
    sym same.1 ∙ ap (fetch_work schemas retrieval) same.0

module _ {W : Type 0} (w : world.Ghosts W) (route : Route) where
  -- a fetch follows a search of which no leg was marked
  plainly : (retrieval : Retrieval) (mark : Mark) (class hits : List ℕ) (work : Work)
      → next_of w route retrieval (record { mark = mark; class = class }) ≡ fetches hits work
      → work ≡ fetch_work route.schemas retrieval hits → HasFound w route retrieval hits
  plainly retrieval Plain class hits work is same = is ∙ ap (fetches hits) same
  plainly retrieval Link class hits work is same = absurd cc
  plainly retrieval (Silent looks) class hits work is same = absurd cc
  plainly retrieval Gone class hits work is same = absurd cc
  plainly retrieval (Full sessions) class hits work is same = absurd cc

  has-found : (retrieval : Retrieval) (cause : Cause) (hits : List ℕ) (work : Work) → next_of w route retrieval cause ≡ fetches hits work
      → HasFound w route retrieval hits
  has-found retrieval cause hits work is =
      let got = outcome_of w route (search_work retrieval) cause in
      plainly retrieval cause.mark cause.class hits work is
      (fetch-of route.schemas retrieval (why_failed got) (found_hits got) hits work is)

  -- ---- causes

  -- a cause that may come at the fetch may come at the search
  may-come : (retrieval : Retrieval) (hits class : List ℕ) (mark : Mark) → FetchAsksNoMore
      → MayCome (classes_asked route (fetch_work route.schemas retrieval hits)) class mark
      → MayCome (classes_asked route (search_work retrieval)) class mark
  may-come retrieval hits class Plain no_more may = tt
  may-come retrieval hits class Link no_more may = no_more route retrieval hits class may
  may-come retrieval hits class (Silent looks) no_more may = no_more route retrieval hits class may
  may-come retrieval hits class Gone no_more may = no_more route retrieval hits class may
  may-come retrieval hits class (Full sessions) no_more may = no_more route retrieval hits class may

  module _ (octets : List ℕ) (is_letter : kind_of octets ≡ letter) (answers : GetIsAnswered w) (database : Database) (reading : Reading)
      (has : HasGet route octets database reading) (retrieval : Retrieval) (is_due : due route database reading ≡ searches retrieval)
      (cause : Cause) where
    -- the GET may be answered under it
    allowed-at : IsAllowed (record { classes = classes_asked route (search_work retrieval); cause = cause })
        → IsAllowed (taken_at route database reading cause)
    allowed-at may =
        subst (λ (asks : Due). IsAllowed (record { classes = classes_of route asks; cause = cause })) (sym is_due) may

    -- it is answered
    answered-so : (given : SruAnswer) (mark : Mark) (old new : Served) (answer : Begun)
        → IsAllowed (record { classes = classes_asked route (search_work retrieval); cause = cause }) → mark ≡ cause.mark
        → given ≡ get_answer w route database reading cause → IsNextDone (answered given) mark old new answer
        → GoesOnBehind w route octets cause old new answer
    answered-so given mark old new begun.Memory may marked is done = done
    answered-so given mark old new (begun.Work job) may marked is done = let wrong = done.0.closed in absurd cc
    answered-so given mark old new (begun.Write own end) may marked is done =
        let says = done.0.closed in
        let of_mark : own ≡ Some mark = cc in (
          of_mark ∙ ap Some marked,
          record {
            message = reply given;
            written = done.0.written;
            how = Closed;
            ended = cc;
            whole = λ more. subst (λ (a : SruAnswer). Answers w route (octets ++ more) (cause.mark ∷ []) (reply a) Closed) (sym is)
                (answers route octets more database reading cause is_letter has (allowed-at may));
          },
        )

    -- or goes on by what follows its search
    searched : (next : Next) (mark : Mark) (old new : Served) (answer : Begun) → SearchAnswers w
        → IsAllowed (record { classes = classes_asked route (search_work retrieval); cause = cause }) → mark ≡ cause.mark
        → old.stage ≡ Searching retrieval → next_of w route retrieval cause ≡ next → IsNextDone next mark old new answer
        → GoesOnBehind w route octets cause old new answer
    searched (answered given) mark old new answer law may marked stage is done =
        answered-so given mark old new answer may marked (law route database reading retrieval cause given is_due is) done
    searched (fetches hits work) mark old new begun.Memory law may marked stage is done = done
    searched (fetches hits work) mark old new (begun.Write own end) law may marked stage is done =
        let wrong = done.handed in absurd cc
    searched (fetches hits work) mark old new (begun.Work job) law may marked stage is done =
        let waits : new.stage ≡ Fetching retrieval hits = done.waits ∙ ap (λ s. fetching s hits) stage in (
          record {
            database = database;
            reading = reading;
            has_get = has;
            retrieval = retrieval;
            is_due = is_due;
            waits = subst (λ (s : SruStage). WaitsFor w route retrieval s) (sym waits) (refl, has-found retrieval cause hits work is);
          },
          done.written,
        )

-- ---- by where it stands

same-work : (one other : Work) → Some one ≡ Some other → other ≡ one
same-work one other is = cc

module _ {W : Type 0} (w : world.Ghosts W) (route : Route) (octets : List ℕ) (is_letter : kind_of octets ≡ letter)
    (answers : GetIsAnswered w) (by_search : SearchAnswers w) (by_fetch : FetchAnswers w) (kept : MarkIsKept w) (no_more : FetchAsksNoMore)
    (database : Database) (reading : Reading) (has : HasGet route octets database reading) (retrieval : Retrieval)
    (is_due : due route database reading ≡ searches retrieval) (cause : Cause) where
  from-search : (old new : Served) (job : Work) (got : Outcome) (answer : Begun) → old.stage ≡ Searching retrieval
      → Some (search_work retrieval) ≡ Some job → got ≡ outcome_of w route job cause
      → IsAllowed (record { classes = classes_asked route job; cause = cause })
      → IsNextDone (after_search route.schemas retrieval got) (mark_of got) old new answer
      → GoesOnBehind w route octets cause old new answer
  from-search old new job got answer stage works truly may done =
      let same = same-work (search_work retrieval) job works in
      let is : got ≡ outcome_of w route (search_work retrieval) cause = truly ∙ ap (λ j. outcome_of w route j cause) same in
      searched w route octets is_letter answers database reading has retrieval is_due cause
      (after_search route.schemas retrieval got) (mark_of got) old new answer by_search
      (subst (λ (j : Work). IsAllowed (record { classes = classes_asked route j; cause = cause })) same may)
      (ap mark_of is ∙ (kept route retrieval [] cause).0) stage (ap (after_search route.schemas retrieval) (sym is)) done

  from-fetch : (hits : List ℕ) (old new : Served) (job : Work) (got : Outcome) (answer : Begun) → HasFound w route retrieval hits
      → Some (fetch_work route.schemas retrieval hits) ≡ Some job → got ≡ outcome_of w route job cause
      → IsAllowed (record { classes = classes_asked route job; cause = cause })
      → IsNextDone (answered (fetch_answer route.schemas retrieval.asked (total hits) got)) (mark_of got) old new answer
      → GoesOnBehind w route octets cause old new answer
  from-fetch hits old new job got answer found works truly may done =
      let own = fetch_work route.schemas retrieval hits in
      let same = same-work own job works in
      let is : got ≡ outcome_of w route own cause = truly ∙ ap (λ j. outcome_of w route j cause) same in
      let may_own = subst (λ (j : Work). IsAllowed (record { classes = classes_asked route j; cause = cause })) same may in
      answered-so w route octets is_letter answers database reading has retrieval is_due cause
      (fetch_answer route.schemas retrieval.asked (total hits) got) (mark_of got) old new answer
      (may-come w route retrieval hits cause.class cause.mark no_more may_own)
      (ap mark_of is ∙ (kept route retrieval hits cause).1)
      (ap (fetch_answer route.schemas retrieval.asked (total hits)) is ∙ by_fetch route database reading retrieval hits cause is_due found)
      done

  by-stage : (stage : SruStage) (old new : Served) (job : Work) (got : Outcome) (answer : Begun) → old.stage ≡ stage
      → WaitsFor w route retrieval stage → work_of route stage ≡ Some job → got ≡ outcome_of w route job cause
      → IsAllowed (record { classes = classes_asked route job; cause = cause })
      → IfSome (next_behind route stage got) (λ next. IsNextDone next (mark_of got) old new answer)
      → GoesOnBehind w route octets cause old new answer
  by-stage Idle old new job got answer is waits works truly may done = absurd waits
  by-stage (Searching asked) old new job got answer is waits works truly may done =
      from-search old new job got answer (is ∙ ap Searching waits) (ap (λ r. Some (search_work r)) (sym waits) ∙ works) truly may
      (subst (λ (r : Retrieval). IsNextDone (after_search route.schemas r got) (mark_of got) old new answer) waits done)
  by-stage (Fetching asked hits) old new job got answer is waits works truly may done =
      from-fetch hits old new job got answer waits.1 (ap (λ r. Some (fetch_work route.schemas r hits)) (sym waits.0) ∙ works) truly may
      (subst (λ (r : Retrieval). IsNextDone (answered (fetch_answer route.schemas r.asked (total hits) got)) (mark_of got) old new answer)
      waits.0 done)

pub gets-go-on : {W : Type 0} (w : world.Ghosts W) → GetIsAnswered w → SearchAnswers w → FetchAnswers w → MarkIsKept w → FetchAsksNoMore
    → GetsGoOn w
gets-go-on w answers by_search by_fetch kept no_more route octets old new job got cause answer is_letter stands works truly may done =
    by-stage w route octets is_letter answers by_search by_fetch kept no_more stands.database stands.reading stands.has_get stands.retrieval
    stands.is_due cause old.stage old new job got answer refl stands.waits works truly may done

pub gets-stand : {W : Type 0} (w : world.Ghosts W) → GetStays → GetsStand w
gets-stand w stays route octets more stage s = record {
  database = s.database;
  reading = s.reading;
  has_get = stays route octets more s.database s.reading s.has_get;
  retrieval = s.retrieval;
  is_due = s.is_due;
  waits = s.waits;
}

-- ---- what is written of a GET, and what follows its search

next-out : (next : Next) (mark : Mark) (old new : Served) (answer : Begun) → IsNextDone next mark old new answer
    → IsOutOf answer old.out new.out
next-out next mark old new begun.Memory h = h
next-out (answered given) mark old new (begun.Write own end) h = (reply given, h.0.written)
next-out (answered given) mark old new (begun.Work job) h = let wrong = h.0.closed in absurd cc
next-out (fetches hits work) mark old new (begun.Write own end) h = let wrong = h.handed in absurd cc
next-out (fetches hits work) mark old new (begun.Work job) h = h.written

out-by : (next : Option Next) (mark : Mark) (old new : Served) (answer : Begun) → IsSome next
    → IfSome next (λ next. IsNextDone next mark old new answer) → IsOutOf answer old.out new.out
out-by None mark old new answer some h = let wrong : false ≡ true = some in absurd cc
out-by (Some next) mark old new answer some h = next-out next mark old new answer h

next-there : (route : Route) (stage : SruStage) (got : Outcome) → IsSome (work_of route stage) → IsSome (next_behind route stage got)
next-there route Idle got some = let wrong : false ≡ true = some in absurd cc
next-there route (Searching retrieval) got some = refl
next-there route (Fetching retrieval hits) got some = refl

pub get-out : (route : Route) (got : Outcome) (old new : Served) (answer : Begun) → IsSome (work_of route old.stage)
    → IsEnded route got old new answer → IsOutOf answer old.out new.out
get-out route got old new answer some h =
    out-by (next_behind route old.stage got) (mark_of got) old new answer (next-there route old.stage got some) h

-- the mark that is told is that of the outcome
mark-next : (next : Next) (mark : Mark) (old new : Served) (own : Option Mark) (end : Option End)
    → IsNextDone next mark old new (begun.Write own end) → own ≡ Some mark
mark-next (answered given) mark old new own end h = let says = h.0.closed in cc
mark-next (fetches hits work) mark old new own end h = let wrong = h.handed in absurd cc

mark-by : (next : Option Next) (mark : Mark) (old new : Served) (own : Option Mark) (end : Option End) → IsSome next
    → IfSome next (λ next. IsNextDone next mark old new (begun.Write own end)) → own ≡ Some mark
mark-by None mark old new own end some h = let wrong : false ≡ true = some in absurd cc
mark-by (Some next) mark old new own end some h = mark-next next mark old new own end h

pub get-mark : (route : Route) (got : Outcome) (old new : Served) (own : Option Mark) (end : Option End) → IsSome (work_of route old.stage)
    → IsEnded route got old new (begun.Write own end) → own ≡ Some (mark_of got)
get-mark route got old new own end some h =
    mark-by (next_behind route old.stage got) (mark_of got) old new own end (next-there route old.stage got some) h

-- and the connection was closed
closed-next : (next : Next) (mark : Mark) (old new : Served) (own : Option Mark) (end : Option End)
    → IsNextDone next mark old new (begun.Write own end) → end ≡ Some Closed
closed-next (answered given) mark old new own end h = let says = h.0.closed in cc
closed-next (fetches hits work) mark old new own end h = let wrong = h.handed in absurd cc

closed-by : (next : Option Next) (mark : Mark) (old new : Served) (own : Option Mark) (end : Option End) → IsSome next
    → IfSome next (λ next. IsNextDone next mark old new (begun.Write own end)) → end ≡ Some Closed
closed-by None mark old new own end some h = let wrong : false ≡ true = some in absurd cc
closed-by (Some next) mark old new own end some h = closed-next next mark old new own end h

pub get-closed : (route : Route) (got : Outcome) (old new : Served) (own : Option Mark) (end : Option End) → IsSome (work_of route old.stage)
    → IsEnded route got old new (begun.Write own end) → end ≡ Some Closed
get-closed route got old new own end some h =
    closed-by (next_behind route old.stage got) (mark_of got) old new own end (next-there route old.stage got some) h

-- a fetch behind the search of a retrieval
pub record IsFetchBehind (route : Route) (done job : Work) : Type 0 where
  pub retrieval : Retrieval
  pub hits : List ℕ
  pub search : done ≡ search_work retrieval
  pub fetch : job ≡ fetch_work route.schemas retrieval hits

fetch-next : (route : Route) (retrieval : Retrieval) (got : Outcome) (done job : Work) (next : Next) (mark : Mark) (old new : Served)
    → done ≡ search_work retrieval → after_search route.schemas retrieval got ≡ next → IsNextDone next mark old new (begun.Work job)
    → IsFetchBehind route done job
fetch-next route retrieval got done job (answered given) mark old new is then h = let wrong = h.0.closed in absurd cc
fetch-next route retrieval got done job (fetches hits work) mark old new is then h =
    let says = h.handed in
    let same : job ≡ work = cc in record {
      retrieval = retrieval;
      hits = hits;
      search = is;
      fetch = same ∙ fetch-of route.schemas retrieval (why_failed got) (found_hits got) hits work then;
    }

fetch-by : (route : Route) (stage : SruStage) (got : Outcome) (done job : Work) (mark : Mark) (old new : Served)
    → work_of route stage ≡ Some done → IfSome (next_behind route stage got) (λ next. IsNextDone next mark old new (begun.Work job))
    → IsFetchBehind route done job
fetch-by route Idle got done job mark old new is h = absurd cc
fetch-by route (Searching retrieval) got done job mark old new is h =
    fetch-next route retrieval got done job (after_search route.schemas retrieval got) mark old new (same-work (search_work retrieval) done is)
    refl h
fetch-by route (Fetching retrieval hits) got done job mark old new is h = let wrong = h.0.closed in absurd cc

pub get-fetch : (route : Route) (got : Outcome) (old new : Served) (done job : Work) → work_of route old.stage ≡ Some done
    → IsEnded route got old new (begun.Work job) → IsFetchBehind route done job
get-fetch route got old new done job is h = fetch-by route old.stage got done job (mark_of got) old new is h
