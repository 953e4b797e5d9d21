-- What must be true of the answers to clients of either kind (this project's own)
use Rattle.std.specs.Prelude.{◌≡◌, ◌≢◌, ℕ, List, [], ◌∷◌, ◌++◌, length, Option, Result, Ok, Contains}
use Rattle.z_types.specs.MergedOrder.{total}
use Rattle.z_types.specs.declared.marks.End.{End}
use Rattle.z_types.specs.declared.marks.End.TheVariants.{Closed, Cut}
use Rattle.z_types.specs.declared.marks.Mark.{Mark}
use Rattle.z_types.specs.declared.schemas.Schema.{Schema}
use Rattle.z_types.specs.declared.sru.SruAnswer.{SruAnswer}
use Rattle.z_types.specs.declared.world.World as world
use Rattle.route_config.specs.declared.route.Database.{Database}
use Rattle.route_config.specs.declared.route.Route.{Route}
use Rattle.route_config.specs.Sound.{IsSound}
use Rattle.access_rules.specs.declared.who.Who.TheVariants.{Anonymous}
use Rattle.access_rules.specs.Access.{MaySearch}
use Rattle.gateway_rules.specs.Answers.{kind_of, letter}
use Rattle.gateway_rules.specs.Marks.{Cause, IsAllowed}
use Rattle.gateway_rules.specs.OneAnswer.{AreMarksPlain}
use Rattle.gateway_rules.specs.Outcomes.{outcome_of, classes_asked}
use Rattle.gateway_rules.specs.Targets.{hits_of}
use Rattle.gateway_rules.specs.Works.{CanBegin, IsAskable, mark_of}
use Rattle.sru_reply.specs.Reply.{reply}
use Rattle.sru_reply.specs.declared.bare.Refusal.{Refusal}
use Rattle.sru_request.specs.declared.faults.HeadFault.{HeadFault}
use Rattle.sru_request.specs.declared.head.HeadGot.{HeadGot}
use Rattle.sru_request.specs.declared.head.HeadGot.TheVariants.{NeedMore}
use Rattle.sru_request.specs.declared.head.Get.{Get}
use Rattle.sru_request.specs.Request.{IsHeadAnswer}
use Rattle.sru_rules.specs.declared.retrieval.Retrieval.{Retrieval}
use Rattle.sru_rules.specs.Answers.{Answers, Ending}
use Rattle.sru_rules.specs.Asking.{search_work, fetch_work}
use Rattle.sru_rules.specs.Course.{Course, ends, IsCourse, IsGetOf, HasGet, HeadLeadsTo}
use Rattle.sru_rules.specs.Reading.{CqlText, IsCqlText, Reading, IsReading}
use Rattle.sru_rules.specs.Run.{due, searches, next_of, get_answer, last_written, taken_at}
use Rattle.sru_rules.specs.Settling.{answered, fetches, fetch_answer, after_hits}
use Rattle.sru_rules.specs.steps.Works.{IsRetrieval, HasFound}

-- ---- what HTTP adds

-- a text is one thing as CQL
abbrev pub HasOneText : Type 0
HasOneText = (text : List ℕ) (a b : CqlText) → IsCqlText text a → IsCqlText text b → a ≡ b

-- no text is nothing as CQL
abbrev pub HasSomeText : Type 0
HasSomeText = (text : List ℕ) → ¬ ((a : CqlText) → ¬ IsCqlText text a)

-- a GET is read in one way
abbrev pub HasOneReading : Type 0
HasOneReading =
    (schemas : List Schema) (get : Get) (a b : Reading)
    → IsReading schemas get a → IsReading schemas get b → a ≡ b

-- a connection has one course
abbrev pub HasOneCourse : Type 0
HasOneCourse =
    (route : Route) (bytes : List ℕ) (a b : Course) → IsCourse route bytes a
    → IsCourse route bytes b → a ≡ b

-- ---- of either kind

-- no octets are without an answer with every mark Plain
abbrev pub HasSomeAnswer : {W : Type 0} → world.Ghosts W → Type 0
HasSomeAnswer w =
    (route : Route) (bytes : List ℕ)
    → ¬ ((marks : List Mark) (out : List ℕ) (end : End) → AreMarksPlain marks
    → ¬ Answers w route bytes marks out end)

-- the same octets, twice answered with every mark Plain, have the same marks, the same octets
-- written and the same end
abbrev pub HasOneAnswer : {W : Type 0} → world.Ghosts W → Type 0
HasOneAnswer w =
    (route : Route) (bytes : List ℕ) (marks others : List Mark) (out other_out : List ℕ)
    (end other_end : End)
    → Answers w route bytes marks out end → Answers w route bytes others other_out other_end
    → AreMarksPlain marks → AreMarksPlain others
    → (marks ≡ others) × (out ≡ other_out) × (end ≡ other_end)

-- the same octets, twice answered, have the same end, whatever the targets and the marks
abbrev pub HasOneEnd : {V W : Type 0} → world.Ghosts V → world.Ghosts W → Type 0
HasOneEnd v w =
    (route : Route) (bytes : List ℕ) (marks others : List Mark) (out other_out : List ℕ)
    (end other_end : End)
    → Answers v route bytes marks out end → Answers w route bytes others other_out other_end
    → end ≡ other_end

-- octets that are answered end as their ending says
abbrev pub AnswersEndSo : {W : Type 0} → world.Ghosts W → Type 0
AnswersEndSo w =
    (route : Route) (bytes : List ℕ) (marks : List Mark) (out : List ℕ) (end : End)
    → Answers w route bytes marks out end → Ending route bytes end

-- ---- the answer to what has come, whatever comes behind it

-- the answer to a GET under a cause that may come is the answer to its connection, under that one
-- mark
abbrev pub GetIsAnswered : {W : Type 0} → world.Ghosts W → Type 0
GetIsAnswered w =
    (route : Route) (bytes more : List ℕ) (database : Database) (reading : Reading) (cause : Cause)
    → kind_of bytes ≡ letter → HasGet route bytes database reading
    → IsAllowed (taken_at route database reading cause)
    → Answers w route (bytes ++ more) (cause.mark ∷ [])
    (reply (get_answer w route database reading cause)) Closed

-- where a head has come that leads to an end, its bare reply is the answer, under no mark
abbrev pub HeadIsRefused : {W : Type 0} → world.Ghosts W → Type 0
HeadIsRefused w =
    (route : Route) (bytes more : List ℕ) (head : Result HeadGot HeadFault)
    (last : Option Refusal) (end : End)
    → kind_of bytes ≡ letter → IsHeadAnswer bytes head → head ≢ Ok NeedMore
    → HeadLeadsTo route (length bytes) head (ends last end)
    → Answers w route (bytes ++ more) [] (last_written last) end

-- where the input ends before its head does, nothing is written
abbrev pub HeadIsCut : {W : Type 0} → world.Ghosts W → Type 0
HeadIsCut w =
    (route : Route) (bytes : List ℕ) → kind_of bytes ≡ letter → IsHeadAnswer bytes (Ok NeedMore)
    → Answers w route bytes [] [] (Cut (length bytes))

-- and a GET that has come stays the same
abbrev pub GetStays : Type 0
GetStays =
    (route : Route) (bytes more : List ℕ) (database : Database) (reading : Reading)
    → HasGet route bytes database reading → HasGet route (bytes ++ more) database reading

-- ---- what the works of a GET lead to

-- where the search ends the GET, under any cause, that is the answer to it
abbrev pub SearchAnswers : {W : Type 0} → world.Ghosts W → Type 0
SearchAnswers w =
    (route : Route) (database : Database) (reading : Reading) (retrieval : Retrieval)
    (cause : Cause) (answer : SruAnswer) → due route database reading ≡ searches retrieval
    → next_of w route retrieval cause ≡ answered answer
    → answer ≡ get_answer w route database reading cause

-- where the fetch ends it, under any cause, that is the answer to it: a mark that comes only then
-- is that of both works
abbrev pub FetchAnswers : {W : Type 0} → world.Ghosts W → Type 0
FetchAnswers w =
    (route : Route) (database : Database) (reading : Reading) (retrieval : Retrieval)
    (hits : List ℕ) (cause : Cause)
    → due route database reading ≡ searches retrieval → HasFound w route retrieval hits
    → fetch_answer route.schemas retrieval.asked (total hits)
    (outcome_of w route (fetch_work route.schemas retrieval hits) cause)
    ≡ get_answer w route database reading cause

-- the hits that a fetch goes by are those that the targets mean
abbrev pub FoundIsMeant : {W : Type 0} → world.Ghosts W → Type 0
FoundIsMeant w =
    (route : Route) (retrieval : Retrieval) (hits : List ℕ) → HasFound w route retrieval hits
    → hits_of w route retrieval.legs retrieval.query ≡ Ok hits

-- what comes of a work under a cause has its mark
abbrev pub MarkIsKept : {W : Type 0} → world.Ghosts W → Type 0
MarkIsKept w =
    (route : Route) (retrieval : Retrieval) (hits : List ℕ) (cause : Cause)
    → (mark_of (outcome_of w route (search_work retrieval) cause) ≡ cause.mark)
    × (mark_of (outcome_of w route (fetch_work route.schemas retrieval hits) cause) ≡ cause.mark)

-- a fetch asks only classes that its search has asked
abbrev pub FetchAsksNoMore : Type 0
FetchAsksNoMore =
    (route : Route) (retrieval : Retrieval) (hits class : List ℕ)
    → Contains (classes_asked route (fetch_work route.schemas retrieval hits)) class
    → Contains (classes_asked route (search_work retrieval)) class

-- ---- the works can begin

-- what a GET searches for is within the bounds of works
abbrev pub GetIsRetrieval : Type 0
GetIsRetrieval =
    (route : Route) (get : Get) (database : Database) (reading : Reading) (retrieval : Retrieval)
    → IsSound route → IsGetOf route get database reading
    → due route database reading ≡ searches retrieval → IsRetrieval retrieval

-- what a GET searches is a database that anyone may search, and the legs are that database's
abbrev pub GetIsOpen : Type 0
GetIsOpen =
    (route : Route) (database : Database) (reading : Reading) (retrieval : Retrieval)
    → due route database reading ≡ searches retrieval
    → MaySearch route Anonymous database.name × (retrieval.legs ≡ database.legs)

-- the search can begin
abbrev pub SearchCanBegin : Type 0
SearchCanBegin =
    (retrieval : Retrieval) → IsRetrieval retrieval
    → CanBegin (search_work retrieval) × IsAskable (search_work retrieval)

-- and so can the fetch, where one follows the hits of all its legs
abbrev pub FetchCanBegin : Type 0
FetchCanBegin =
    (route : Route) (retrieval : Retrieval) (hits : List ℕ)
    → IsSound route → IsRetrieval retrieval → length hits ≡ length retrieval.legs
    → after_hits route.schemas retrieval hits
    ≡ fetches hits (fetch_work route.schemas retrieval hits)
    → CanBegin (fetch_work route.schemas retrieval hits)
    × IsAskable (fetch_work route.schemas retrieval hits)
