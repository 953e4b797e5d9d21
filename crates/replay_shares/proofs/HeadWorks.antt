-- What an HTTP connection asks follows from its head, whatever comes behind it
use Rattle.std.proofs.Common.{◌≡◌, ◌≢◌, ◌∙◌, ◌++◌, ℕ, List, [], ◌∷◌, length, map, take, Option, None, Some, Result, Ok, Err, refl, sym, ap, subst}
use Rattle.std.specs.Prelude.{IfSome, option_to_list}
use Rattle.z_types.specs.MergedOrder.{total}
use Rattle.z_types.specs.declared.marks.End.{End}
use Rattle.z_types.specs.declared.marks.End.TheVariants.{Closed, Malformed}
use Rattle.z_types.specs.declared.marks.Mark.{Mark}
use Rattle.z_types.specs.declared.marks.Mark.TheVariants.{Plain}
use Rattle.z_types.specs.declared.outcome.Outcome.{Outcome}
use Rattle.z_types.specs.declared.sru.SruAnswer.{SruAnswer}
use Rattle.z_types.specs.declared.work.Work.{Work}
use Rattle.z_types.specs.declared.world.World as world
use Rattle.route_config.specs.declared.route.Database.{Database}
use Rattle.route_config.specs.declared.route.Route.{Route}
use Rattle.replay.specs.gateway_rules.Answers.{Kind, kind_of, letter}
use Rattle.replay.specs.gateway_rules.Marks.{Cause, plain}
use Rattle.replay.specs.gateway_rules.OneAnswer.{AreMarksPlain}
use Rattle.replay.specs.gateway_rules.Outcomes.{outcome_of}
use Rattle.replay.specs.gateway_rules.Session.{IsServed}
use Rattle.replay.specs.gateway_rules.Works.{mark_of}
use Rattle.sru_reply.specs.Bare.{bare}
use Rattle.sru_reply.specs.declared.bare.Refusal.{Refusal}
use Rattle.sru_reply.specs.declared.bare.Refusal.TheVariants.{BadRequest, MethodNotAllowed, NotFound}
use Rattle.sru_request.specs.Head.{head_length}
use Rattle.sru_request.specs.Laws.{HeadStays}
use Rattle.sru_request.specs.Request.{IsAnswerIn, IsHeadAnswer, most_head_octets}
use Rattle.sru_request.specs.declared.faults.HeadFault.{HeadFault}
use Rattle.sru_request.specs.declared.faults.HeadFault.TheVariants.{BadHttp, HeadTooLarge, Memory, NotGet}
use Rattle.sru_request.specs.declared.head.Get.{Get}
use Rattle.sru_request.specs.declared.head.HeadGot.{HeadGot}
use Rattle.sru_request.specs.declared.head.HeadGot.TheVariants.{Got, NeedMore}
use Rattle.replay.specs.sru_rules.Answers.{Answers, AnswersAs, Ended}
use Rattle.replay.specs.sru_rules.Asking.{search_work}
use Rattle.replay.specs.sru_rules.Course.{Course, GetLeadsTo, HasGet, HeadLeadsTo, IsCourse, answers, database_of, ends}
use Rattle.replay.specs.sru_rules.Laws.{HasOneCourse}
use Rattle.replay.specs.sru_rules.Reading.{Reading}
use Rattle.replay.specs.sru_rules.Run.{Due, at_once, due, next_of, run, searches}
use Rattle.replay.specs.sru_rules.Settling.{Next, after_search, answered, fetch_answer, fetches}
use Rattle.replay.specs.sru_rules.declared.retrieval.Retrieval.{Retrieval}
use Rattle.replay.specs.front_sru.Gets.{IsBegunAt, IsDueDone, IsEnded, IsFoundBegun, IsNextDone, IsPut, Served, next_behind}
use Rattle.replay.specs.front_sru.Kept.{fetching}
use Rattle.replay.specs.front_sru.declared.begun.Begun.{Begun}
use Rattle.replay.specs.front_sru.declared.begun.Begun.TheVariants as begun
use Rattle.replay.specs.front_sru.declared.state.SruStage.{SruStage}
use Rattle.replay.specs.front_sru.declared.state.SruStage.TheVariants.{Fetching, Searching}
use Rattle.replay.specs.front_http.Heads.{IsFaultBegun, IsHeadBegun, IsRefusedBy}
use Rattle.replay.specs.front_http.Seeking.{IsHeadOf}
use Rattle.replay_shares.specs.Works.{AskByHead, works_of_due, works_of_http, works_of_next}

-- ---- a head that has come

leads-stay : (route : Route) (m n : ℕ) (head : Result HeadGot HeadFault) (whole : Course) → head ≢ Ok NeedMore
    → HeadLeadsTo route m head whole → HeadLeadsTo route n head whole
leads-stay route m n (Ok NeedMore) whole come h = absurd (come refl)
leads-stay route m n (Ok (Got get used)) whole come h = h
leads-stay route m n (Err BadHttp) whole come h = h
leads-stay route m n (Err NotGet) whole come h = h
leads-stay route m n (Err HeadTooLarge) whole come h = h
leads-stay route m n (Err Memory) whole come h = h

-- where more is needed, nothing else is answered
one-need : (seen : List ℕ) (len : Option ℕ) (answer : Result HeadGot HeadFault) → IsAnswerIn seen len answer
    → IsAnswerIn seen len (Ok NeedMore) → answer ≡ Ok NeedMore
one-need seen None answer is needs = is ∙ sym needs
one-need seen (Some count) answer is needs = absurd needs

get-course : (route : Route) (octets : List ℕ) (database : Database) (reading : Reading)
    → HasGet route octets database reading → IsCourse route octets (answers database reading)
get-course route octets database reading has = record {
  head = Ok (Got has.get has.used);
  is_head = has.is_head;
  leads = subst (λ (named : Option Database). GetLeadsTo route has.get named (answers database reading)) (sym has.is.found)
      (reading, has.is.is_reading, refl);
}

module _ {W : Type 0} (w : world.Ghosts W) (route : Route) (octets : List ℕ) (works : List Work) (h : AskByHead w route octets works) where
  course-of : IsCourse route octets h.whole
  course-of = record { head = h.head; is_head = h.is_head; leads = h.leads }

  -- more octets change nothing
  pub ask-stays : ((octets : List ℕ) → HeadStays octets) → (more : List ℕ) → AskByHead w route (octets ++ more) works
  ask-stays stays more = record {
    head = h.head;
    is_head = stays octets more h.head h.come h.is_head;
    come = h.come;
    whole = h.whole;
    leads = leads-stay route (length octets) (length (octets ++ more)) h.head h.whole h.come h.leads;
    are = h.are;
  }

  -- no more is needed
  pub no-need : IsHeadAnswer octets (Ok NeedMore) → ⊥
  no-need needs =
      h.come (one-need (take most_head_octets octets) (head_length (take most_head_octets octets)) h.head h.is_head needs)

  module _ (one : HasOneCourse) where
    -- any course of the octets tells what is asked
    pub ask-by : (whole : Course) → IsCourse route octets whole → works ≡ works_of_http w route whole
    ask-by whole is = h.are ∙ ap (works_of_http w route) (one route octets h.whole whole course-of is)

    pub ask-one : (others : List Work) → AskByHead w route octets others → works ≡ others
    ask-one others k =
        ask-by k.whole (record { head = k.head; is_head = k.is_head; leads = k.leads }) ∙ sym k.are

    -- of a GET
    pub get-asks : (database : Database) (reading : Reading) → HasGet route octets database reading
        → works ≡ works_of_due w route (due route database reading)
    get-asks database reading has = ask-by (answers database reading) (get-course route octets database reading has)

    no-marks : (whole : Course) (causes : List Cause) → map (λ cause. cause.mark) causes ≡ []
        → IsServed (run w route whole causes).stop → works_of_http w route whole ≡ []
    no-marks (ends last end) causes none served = refl
    no-marks (answers database reading) [] none served = absurd served
    no-marks (answers database reading) (cause ∷ causes) none served = absurd cc

    -- where it is answered under no mark nothing is asked
    pub unmarked-asks : (out : List ℕ) (end : End) → kind_of octets ≡ letter → Answers w route octets [] out end → works ≡ []
    unmarked-asks out end is a =
        let e : Ended w route octets [] out end = subst (λ (k : Kind). AnswersAs k w route octets [] out end) is a in
        ask-by e.answered.whole e.answered.is_whole ∙ no-marks e.answered.whole e.answered.causes e.answered.of_marks e.served

-- ---- a head that is begun

-- it was answered at once, and the connection has ended
pub record IsAtOnce (works : List Work) (mark : Option Mark) (end : Option End) : Type 0 where
  pub none : works ≡ []
  pub plainly : AreMarksPlain (option_to_list mark)
  pub how : End
  pub ended : end ≡ Some how

module _ {W : Type 0} (w : world.Ghosts W) (route : Route) where
  -- the search of its GET was begun
  pub record BeginsSearch (works : List Work) (job : Work) (stage : SruStage) : Type 0 where
    pub retrieval : Retrieval
    pub is_job : job ≡ search_work retrieval
    pub is_stage : stage ≡ Searching retrieval
    pub are : works ≡ search_work retrieval ∷ works_of_next (next_of w route retrieval plain)

  -- one of these; without memory nothing is said
  abbrev pub HeadDoes : List Work → Begun → (new : Served) → Type 0
  HeadDoes works (begun.Write mark end) new = IsAtOnce works mark end
  HeadDoes works (begun.Work job) new = BeginsSearch works job new.stage
  HeadDoes works begun.Memory new = Unit {0}

  at-once : (works : List Work) (mark own : Option Mark) (end : Option End) (how : End) → works ≡ [] → AreMarksPlain (option_to_list own)
      → begun.Write mark end ≡ begun.Write own (Some how) → IsAtOnce works mark end
  at-once works mark own end how none plainly says =
      let is_mark : mark ≡ own = cc in
      let is_end : end ≡ Some how = cc in record {
        none = none;
        plainly = subst (λ (m : Option Mark). AreMarksPlain (option_to_list m)) (sym is_mark) plainly;
        how = how;
        ended = is_end;
      }

  refused-does : (works : List Work) (refusal : Refusal) (how : End) (old out : List ℕ) (new : Served) (answer : Begun) → works ≡ []
      → IsRefusedBy refusal how old out answer → HeadDoes works answer new
  refused-does works refusal how old out new begun.Memory none h = tt
  refused-does works refusal how old out new (begun.Write mark end) none h = at-once works mark None end how none tt h.0
  refused-does works refusal how old out new (begun.Work job) none h = let wrong = h.0 in absurd cc

  lacks-does : (works : List Work) (new : Served) (answer : Begun) → answer ≡ begun.Memory → HeadDoes works answer new
  lacks-does works new begun.Memory says = tt
  lacks-does works new (begun.Write mark end) says = absurd cc
  lacks-does works new (begun.Work job) says = absurd cc

  put-does : (works : List Work) (message : List ℕ) (old out : List ℕ) (new : Served) (answer : Begun) → works ≡ []
      → IsPut message None old out answer → HeadDoes works answer new
  put-does works message old out new begun.Memory none h = tt
  put-does works message old out new (begun.Write mark end) none h = at-once works mark None end Closed none tt h.0
  put-does works message old out new (begun.Work job) none h = let wrong = h.0 in absurd cc

  due-does : (works : List Work) (asks : Due) (old new : Served) (answer : Begun) → works ≡ works_of_due w route asks
      → IsDueDone asks old new answer → HeadDoes works answer new
  due-does works (at_once given) old new begun.Memory are h = tt
  due-does works (at_once given) old new (begun.Write mark end) are h =
      at-once works mark (Some Plain) end Closed are (refl, tt) h.0.closed
  due-does works (at_once given) old new (begun.Work job) are h = let wrong = h.0.closed in absurd cc
  due-does works (searches retrieval) old new begun.Memory are h = tt
  due-does works (searches retrieval) old new (begun.Write mark end) are h = let wrong = h.handed in absurd cc
  due-does works (searches retrieval) old new (begun.Work job) are h =
      let says = h.handed in
      let is_job : job ≡ search_work retrieval = cc in
      record { retrieval = retrieval; is_job = is_job; is_stage = h.waits; are = are }

  module _ (octets : List ℕ) (works : List Work) (asks : AskByHead w route octets works) (one : HasOneCourse) where
    -- an end without a GET asks nothing
    ends-none : (head : Result HeadGot HeadFault) (refusal : Refusal) (how : End) → IsHeadAnswer octets head
        → HeadLeadsTo route (length octets) head (ends (Some refusal) how) → works ≡ []
    ends-none head refusal how is leads =
        ask-by w route octets works asks one (ends (Some refusal) how) (record { head = head; is_head = is; leads = leads })

    fault-does : (fault : HeadFault) (old out : List ℕ) (new : Served) (answer : Begun) → IsHeadAnswer octets (Err fault)
        → IsFaultBegun fault old out answer → HeadDoes works answer new
    fault-does BadHttp old out new answer is h =
        refused-does works BadRequest (Malformed 0) old out new answer (ends-none (Err BadHttp) BadRequest (Malformed 0) is refl) h
    fault-does HeadTooLarge old out new answer is h =
        refused-does works BadRequest (Malformed 0) old out new answer (ends-none (Err HeadTooLarge) BadRequest (Malformed 0) is refl) h
    fault-does NotGet old out new answer is h =
        refused-does works MethodNotAllowed Closed old out new answer (ends-none (Err NotGet) MethodNotAllowed Closed is refl) h
    fault-does Memory old out new answer is h = lacks-does works new answer h.0

    at-does : (get : Get) (used : ℕ) (database : Database) (old new : Served) (answer : Begun) → IsHeadAnswer octets (Ok (Got get used))
        → database_of route get ≡ Some database → IsBegunAt route database get old new answer → HeadDoes works answer new
    at-does get used database old new begun.Memory is found h = tt
    at-does get used database old new (begun.Write mark end) is found h =
        due-does works (due route database h.reading) old new (begun.Write mark end)
        (get-asks w route octets works asks one database h.reading
        (record { get = get; used = used; is_head = is; is = record { found = found; is_reading = h.is_reading } })) h.is_done
    at-does get used database old new (begun.Work job) is found h =
        due-does works (due route database h.reading) old new (begun.Work job)
        (get-asks w route octets works asks one database h.reading
        (record { get = get; used = used; is_head = is; is = record { found = found; is_reading = h.is_reading } })) h.is_done

    found-does : (get : Get) (used : ℕ) (named : Option Database) (old new : Served) (answer : Begun) → IsHeadAnswer octets (Ok (Got get used))
        → database_of route get ≡ named → IsFoundBegun route get named old new answer → HeadDoes works answer new
    found-does get used None old new answer is found h =
        let leads : GetLeadsTo route get (database_of route get) (ends (Some NotFound) Closed) =
        subst (λ (named : Option Database). GetLeadsTo route get named (ends (Some NotFound) Closed)) (sym found) refl in
        put-does works (bare NotFound) old.out new.out new answer (ends-none (Ok (Got get used)) NotFound Closed is leads) h.0
    found-does get used (Some database) old new answer is found h = at-does get used database old new answer is found h

    -- a head does what its GET asks
    pub head-does : (head : Result Get HeadFault) (old new : Served) (answer : Begun) → IsHeadOf octets head
        → IsHeadBegun route head old new answer → HeadDoes works answer new
    head-does (Err fault) old new answer is h = fault-does fault old.out new.out new answer is h.0
    head-does (Ok get) old new answer is h = found-does get is.0 (database_of route get) old new answer is.1 refl h

-- ---- a work of a GET that has ended

-- the GET was answered, and asked no more than these works
pub record EndsGet (works asked : List Work) (end : Option End) : Type 0 where
  pub are : works ≡ asked
  pub how : End
  pub ended : end ≡ Some how

-- the fetch was begun
pub record BeginsFetch (retrieval : Retrieval) (works : List Work) (job : Work) (stage : SruStage) : Type 0 where
  pub hits : List ℕ
  pub is_stage : stage ≡ Fetching retrieval hits
  pub are : works ≡ search_work retrieval ∷ job ∷ []

module _ (retrieval : Retrieval) where
  -- behind its search, one of these
  abbrev pub SearchDoes : List Work → Begun → (new : Served) → Type 0
  SearchDoes works (begun.Write mark end) new = EndsGet works (search_work retrieval ∷ []) end
  SearchDoes works (begun.Work job) new = BeginsFetch retrieval works job new.stage
  SearchDoes works begun.Memory new = Unit {0}

  next-does : (works : List Work) (next : Next) (mark : Mark) (old new : Served) (answer : Begun)
      → works ≡ search_work retrieval ∷ works_of_next next → old.stage ≡ Searching retrieval → IsNextDone next mark old new answer
      → SearchDoes works answer new
  next-does works next mark old new begun.Memory are stage h = tt
  next-does works (answered given) mark old new (begun.Write own end) are stage h =
      let says = h.0.closed in
      let is_end : end ≡ Some Closed = cc in record { are = are; how = Closed; ended = is_end }
  next-does works (answered given) mark old new (begun.Work job) are stage h = let wrong = h.0.closed in absurd cc
  next-does works (fetches hits work) mark old new (begun.Write own end) are stage h = let wrong = h.handed in absurd cc
  next-does works (fetches hits work) mark old new (begun.Work job) are stage h =
      let says = h.handed in
      let is_job : job ≡ work = cc in record {
        hits = hits;
        is_stage = h.waits ∙ ap (λ (s : SruStage). fetching s hits) stage;
        are = are ∙ ap (λ (j : Work). search_work retrieval ∷ j ∷ []) (sym is_job);
      }

  -- the search came out as the targets mean it
  pub search-does : {W : Type 0} (w : world.Ghosts W) (route : Route) (works : List Work) (got : Outcome) (old new : Served) (answer : Begun)
      → got ≡ outcome_of w route (search_work retrieval) plain → old.stage ≡ Searching retrieval
      → works ≡ search_work retrieval ∷ works_of_next (next_of w route retrieval plain) → IsEnded route got old new answer
      → SearchDoes works answer new
  search-does w route works got old new answer true_got stage are h =
      next-does works (after_search route.schemas retrieval got) (mark_of got) old new answer
      (are ∙ ap (λ (o : Outcome). search_work retrieval ∷ works_of_next (after_search route.schemas retrieval o)) (sym true_got)) stage
      (subst (λ (s : SruStage). IfSome (next_behind route s got) (λ next. IsNextDone next (mark_of got) old new answer)) stage h)

  -- behind its fetch it is answered
  abbrev pub FetchDoes : Begun → Type 0
  FetchDoes (begun.Write mark end) = (how : End) × (end ≡ Some how)
  FetchDoes (begun.Work job) = ⊥
  FetchDoes begun.Memory = Unit {0}

  last-does : (given : SruAnswer) (mark : Mark) (old new : Served) (answer : Begun) → IsNextDone (answered given) mark old new answer → FetchDoes answer
  last-does given mark old new begun.Memory h = tt
  last-does given mark old new (begun.Write own end) h =
      let says = h.0.closed in
      let is_end : end ≡ Some Closed = cc in (Closed, is_end)
  last-does given mark old new (begun.Work job) h = let wrong = h.0.closed in absurd cc

  pub fetch-does : (route : Route) (hits : List ℕ) (got : Outcome) (old new : Served) (answer : Begun) → old.stage ≡ Fetching retrieval hits
      → IsEnded route got old new answer → FetchDoes answer
  fetch-does route hits got old new answer stage h =
      last-does (fetch_answer route.schemas retrieval.asked (total hits) got) (mark_of got) old new answer
      (subst (λ (s : SruStage). IfSome (next_behind route s got) (λ next. IsNextDone next (mark_of got) old new answer)) stage h)
