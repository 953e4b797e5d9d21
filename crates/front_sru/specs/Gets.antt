-- How a GET is begun, and each of its works ended (SRU 1.2, searchRetrieve): one request in, the
-- octets of its answer out
use Rattle.std.specs.Prelude.{◌≡◌, ℕ, List, ◌++◌, Option, None, Some, IfSome, Result, Ok, Err}
use Rattle.z_types.specs.MergedOrder.{total}
use Rattle.z_types.specs.declared.marks.End.TheVariants.{Closed}
use Rattle.z_types.specs.declared.marks.Mark.{Mark}
use Rattle.z_types.specs.declared.marks.Mark.TheVariants.{Plain}
use Rattle.z_types.specs.declared.memory.Memory.{Memory as NoMemory}
use Rattle.z_types.specs.declared.outcome.Outcome.{Outcome}
use Rattle.z_types.specs.declared.sru.SruAnswer.{SruAnswer}
use Rattle.z_types.specs.declared.sru.SruDiag.{SruDiag}
use Rattle.z_types.specs.declared.work.Work.{Work}
use Rattle.route_config.specs.declared.route.Database.{Database}
use Rattle.route_config.specs.declared.route.Route.{Route}
use Rattle.sru_rules.specs.gateway_rules.Works.{CanBegin, IsAskable, mark_of}
use Rattle.sru_reply.specs.Bare.{bare}
use Rattle.sru_reply.specs.Reply.{reply}
use Rattle.sru_reply.specs.declared.bare.Refusal.TheVariants.{NotFound}
use Rattle.sru_request.specs.declared.head.Get.{Get}
use Rattle.sru_rules.specs.declared.retrieval.Retrieval.{Retrieval}
use Rattle.sru_rules.specs.Asking.{search_work, fetch_work}
use Rattle.sru_rules.specs.Course.{database_of}
use Rattle.sru_rules.specs.Reading.{Reading, IsReading}
use Rattle.sru_rules.specs.Run.{Due, at_once, searches, due}
use Rattle.sru_rules.specs.Settling.{Next, answered, fetches, refusal, fetch_answer, after_search}
use Rattle.front_sru.specs.Kept.{fetching}
use Rattle.front_sru.specs.declared.begun.Begun.{Begun}
use Rattle.front_sru.specs.declared.begun.Begun.TheVariants as begun
use Rattle.front_sru.specs.declared.state.SruStage.{SruStage}
use Rattle.front_sru.specs.declared.state.SruStage.TheVariants.{Idle, Searching, Fetching}

-- where a GET stands, and what was written to its client
pub record Served : Type 0 where
  pub stage : SruStage
  pub out : List ℕ

-- the work that a GET waits for
abbrev pub work_of : Route → SruStage → Option Work
work_of route Idle = None
work_of route (Searching retrieval) = Some (search_work retrieval)
work_of route (Fetching retrieval hits) = Some (fetch_work route.schemas retrieval hits)

-- the GET waits for a work that can begin, and whose legs may be asked for it
pub record IsAwaited (route : Route) (stage : SruStage) (work : Work) : Type 0 where
  pub waits : work_of route stage ≡ Some work
  pub can_begin : CanBegin work
  pub is_askable : IsAskable work

-- a work that was handed out is awaited
abbrev pub Awaits : Route → SruStage → Begun → Type 0
Awaits route stage (begun.Work work) = IsAwaited route stage work
Awaits route stage other = Unit {0}

-- ---- what is written

-- a message was written under a mark, if it has one, and the connection was closed; want of memory
-- has no cause, and nothing is written then
abbrev pub IsPut : (message : List ℕ) → Option Mark → (old new : List ℕ) → Begun → Type 0
IsPut message mark old new begun.Memory = new ≡ old
IsPut message mark old new answer =
    (answer ≡ begun.Write mark (Some Closed)) × (new ≡ old ++ message)

-- the same of a message that there is, or not for want of memory
abbrev pub IsMessagePut : Result (List ℕ) NoMemory → Option Mark → (old new : List ℕ)
    → Begun → Type 0
IsMessagePut (Ok message) mark old new answer = IsPut message mark old new answer
IsMessagePut (Err memory) mark old new answer = (answer ≡ begun.Memory) × (new ≡ old)

-- of an answer of SRU
abbrev pub IsAnswerPut : Result SruAnswer NoMemory → Mark → (old new : List ℕ) → Begun → Type 0
IsAnswerPut (Ok given) mark old new answer = IsPut (reply given) (Some mark) old new answer
IsAnswerPut (Err memory) mark old new answer = (answer ≡ begun.Memory) × (new ≡ old)

-- of a diagnostic in the place of records
abbrev pub IsRefusalPut : Result SruDiag NoMemory → Mark → (old new : List ℕ) → Begun → Type 0
IsRefusalPut (Ok diag) mark old new answer = IsPut (reply (refusal diag)) (Some mark) old new answer
IsRefusalPut (Err memory) mark old new answer = (answer ≡ begun.Memory) × (new ≡ old)

-- ---- what a GET comes to

-- this answer was written under a mark, and the connection was closed
pub record IsAnswered (given : SruAnswer) (mark : Mark) (old new : Served)
    (answer : Begun) : Type 0 where
  pub closed : answer ≡ begun.Write (Some mark) (Some Closed)
  pub written : new.out ≡ old.out ++ reply given

-- this work was handed out, and the GET stands so; nothing was written
pub record IsHandedOut (work : Work) (stage : SruStage) (old new : Served)
    (answer : Begun) : Type 0 where
  pub handed : answer ≡ begun.Work work
  pub waits : new.stage ≡ stage
  pub written : new.out ≡ old.out

-- what a GET is due was done: it was answered under the mark Plain, or waits for its search
abbrev pub IsDueDone : Due → Served → Served → Begun → Type 0
IsDueDone (at_once given) old new answer =
    IsAnswered given Plain old new answer × (new.stage ≡ old.stage)
IsDueDone (searches retrieval) old new answer =
    IsHandedOut (search_work retrieval) (Searching retrieval) old new answer

-- what a GET of a virtual database is read as, and what was done
pub record IsReadDone (route : Route) (database : Database) (get : Get) (old new : Served)
    (answer : Begun) : Type 0 where
  pub reading : Reading
  pub is_reading : IsReading route.schemas get reading
  pub is_done : IsDueDone (due route database reading) old new answer

-- it was begun; want of memory has no cause, and nothing is written then
abbrev pub IsBegunAt : Route → Database → Get → Served → Served → Begun → Type 0
IsBegunAt route database get old new begun.Memory = new ≡ old
IsBegunAt route database get old new answer = IsReadDone route database get old new answer

-- a GET of a virtual database was begun; what names none was answered so, under no mark
abbrev pub IsFoundBegun : Route → Get → Option Database → Served → Served → Begun → Type 0
IsFoundBegun route get None old new answer =
    IsPut (bare NotFound) None old.out new.out answer × (new.stage ≡ old.stage)
IsFoundBegun route get (Some database) old new answer = IsBegunAt route database get old new answer

-- a GET was begun
abbrev pub IsBegun : Route → Get → Served → Served → Begun → Type 0
IsBegun route get old new answer = IsFoundBegun route get (database_of route get) old new answer

-- the search of a retrieval was begun
abbrev pub IsSearchBegun : Retrieval → (old new : SruStage) → Begun → Type 0
IsSearchBegun retrieval old new begun.Memory = new ≡ old
IsSearchBegun retrieval old new answer =
    (answer ≡ begun.Work (search_work retrieval)) × (new ≡ Searching retrieval)

-- what follows the work that a GET waits for, by what came of it
abbrev pub next_behind : Route → SruStage → Outcome → Option Next
next_behind route Idle got = None
next_behind route (Searching retrieval) got = Some (after_search route.schemas retrieval got)
next_behind route (Fetching retrieval hits) got =
    Some (answered (fetch_answer route.schemas retrieval.asked (total hits) got))

-- what follows was done: the GET was answered under this mark, or waits for its fetch
abbrev pub IsGoneOn : Next → Mark → Served → Served → Begun → Type 0
IsGoneOn (answered given) mark old new answer =
    IsAnswered given mark old new answer × (new.stage ≡ Idle)
IsGoneOn (fetches hits work) mark old new answer =
    IsHandedOut work (fetching old.stage hits) old new answer

-- want of memory has no cause, and nothing is written then
abbrev pub IsNextDone : Next → Mark → Served → Served → Begun → Type 0
IsNextDone next mark old new begun.Memory = new.out ≡ old.out
IsNextDone next mark old new answer = IsGoneOn next mark old new answer

-- the work that a GET waited for was ended; the GET is answered under the mark of the last of its
-- works alone
abbrev pub IsEnded : Route → Outcome → Served → Served → Begun → Type 0
IsEnded route got old new answer =
    IfSome (next_behind route old.stage got) (λ next. IsNextDone next (mark_of got) old new answer)
