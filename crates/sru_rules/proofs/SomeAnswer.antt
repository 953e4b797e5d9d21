-- No octets are without an answer where every mark is Plain: their head is answered, and a GET is read.
use Rattle.std.proofs.Common.{◌≡◌, ◌≢◌, ◌++◌, ℕ, Bool, true, false, List, [], ◌∷◌, length, take, cond, codes, Option, Some, None, Result, Ok, Err, refl, sym, subst}
use Rattle.std.specs.Prelude.{nat_lt}
use Rattle.httparse.specs.Grammar.{RequestHead}
use Rattle.z_types.specs.declared.marks.End.{End}
use Rattle.z_types.specs.declared.marks.End.TheVariants.{Closed, Malformed, Cut}
use Rattle.z_types.specs.declared.marks.Mark.{Mark}
use Rattle.z_types.specs.declared.marks.Mark.TheVariants.{Plain}
use Rattle.z_types.specs.declared.schemas.Schema.{Schema}
use Rattle.z_types.specs.declared.sru.SruDiag.{SruDiag}
use Rattle.z_types.specs.declared.world.World as world
use Rattle.route_config.specs.declared.route.Database.{Database}
use Rattle.route_config.specs.declared.route.Route.{Route}
use Rattle.gateway_rules.proofs.SomeAnswer.{some-answer}
use Rattle.gateway_rules.specs.Answers.{Kind, empty, letter, unit, kind_of}
use Rattle.gateway_rules.specs.Marks.{plain}
use Rattle.gateway_rules.specs.OneAnswer.{AreMarksPlain}
use Rattle.sru_reply.specs.Reply.{reply}
use Rattle.sru_reply.specs.declared.bare.Refusal.TheVariants.{BadRequest, NotFound, MethodNotAllowed}
use Rattle.sru_request.specs.Checks.{faults, form_faults, window_faults, layout_faults, start_faults, maximum_faults, packing_faults, schema_faults, unless_chosen, version_of, IsFirst, IsAsked}
use Rattle.sru_request.specs.Choices.{start_in, maximum_in, packing_in, schema_in}
use Rattle.sru_request.specs.Head.{head_length}
use Rattle.sru_request.specs.Parameters.{parameters_of, value_of}
use Rattle.sru_request.specs.Request.{IsHead, IsAnswerTo, IsAnswerIn, get_of, most_head_octets}
use Rattle.sru_request.specs.declared.faults.HeadFault.{HeadFault}
use Rattle.sru_request.specs.declared.faults.HeadFault.TheVariants.{BadHttp, NotGet, HeadTooLarge, Memory}
use Rattle.sru_request.specs.declared.faults.QueryFault.TheVariants.{Diag}
use Rattle.sru_request.specs.declared.head.Get.{Get}
use Rattle.sru_request.specs.declared.head.HeadGot.{HeadGot}
use Rattle.sru_request.specs.declared.head.HeadGot.TheVariants.{Got, NeedMore}
use Rattle.sru_request.specs.declared.query.SruQuery.{SruQuery}
use Rattle.sru_rules.specs.Answers.{AnswersAs}
use Rattle.sru_rules.specs.Course.{Course, ends, answers, IsCourse, GetLeadsTo, HeadLeadsTo, database_of}
use Rattle.sru_rules.specs.Laws.{HasSomeAnswer, HasSomeText}
use Rattle.sru_rules.specs.Reading.{Reading, refused, taken, IsReading}
use Rattle.sru_rules.specs.Run.{get_answer, last_written}

-- what is so whether a fact holds or not
by_cases : (P : Type 0) (G : Type 0) → (P → ¬ (¬ G)) → (¬ P → ¬ (¬ G)) → ¬ (¬ G)
by_cases P G holds fails none = fails (λ p. holds p none) none

-- ---- a head

-- an answer to octets as a head, which is not want of memory
abbrev IsSomeAnswer : (Result HeadGot HeadFault → Type 0) → Type 0
IsSomeAnswer IsIt = (head : Result HeadGot HeadFault) × IsIt head × (head ≢ Err Memory)

some_whole : (octets : List ℕ) → ¬ (¬ IsSomeAnswer (IsAnswerTo octets))
some_whole octets =
    by_cases ((head : RequestHead) × IsHead octets head) (IsSomeAnswer (IsAnswerTo octets))
    (λ is. by_cases (is.0.method ≡ codes "GET") (IsSomeAnswer (IsAnswerTo octets))
    (λ get none. none (Ok (Got (get_of is.0.target) (length octets)), (refl, (is.0, is.1, get, refl)), λ h. cc))
    (λ other none. none (Err NotGet, (is.0, is.1, other), λ h. cc)))
    (λ bad none. none (Err BadHttp, (λ head is. bad (head, is)), λ h. cc))

-- what is answered where no head ends
abbrev not_ended : Bool → Result HeadGot HeadFault
not_ended fewer = cond fewer (Ok NeedMore) (Err HeadTooLarge)

more_or_large : (fewer : Bool) → not_ended fewer ≢ Err Memory
more_or_large true h = cc
more_or_large false h = cc

some_in : (octets : List ℕ) (len : Option ℕ) → ¬ (¬ IsSomeAnswer (IsAnswerIn octets len))
some_in octets None none =
    none (
      not_ended (nat_lt (length octets) most_head_octets),
      refl,
      more_or_large (nat_lt (length octets) most_head_octets),
    )
some_in octets (Some len) none = some_whole (take len octets) none

-- ---- a GET

no_first : {A : Type 0} (xs ys : List A) → xs ++ ys ≡ [] → xs ≡ []
no_first [] ys h = refl
no_first (x ∷ xs) ys h = absurd cc

no_others : {A : Type 0} (xs ys : List A) → xs ++ ys ≡ [] → ys ≡ []
no_others [] ys h = h
no_others (x ∷ xs) ys h = absurd cc

-- where a check has no fault, something is chosen
chosen : {A : Type 0} (choice : Option A) (diag : SruDiag) → unless_chosen choice diag ≡ [] → (x : A) × (choice ≡ Some x)
chosen None diag h = absurd cc
chosen (Some x) diag h = (x, refl)

start_chosen : (query : List ℕ) → start_faults (parameters_of query) ≡ []
    → (n : ℕ) × (start_in (value_of (codes "startRecord") (parameters_of query)) ≡ Some n)
unfolding start_faults
start_chosen query h = chosen (start_in (value_of (codes "startRecord") (parameters_of query))) _ h

maximum_chosen : (query : List ℕ) → maximum_faults (parameters_of query) ≡ []
    → (n : ℕ) × (maximum_in (value_of (codes "maximumRecords") (parameters_of query)) ≡ Some n)
unfolding maximum_faults
maximum_chosen query h = chosen (maximum_in (value_of (codes "maximumRecords") (parameters_of query))) _ h

packing_chosen : (query : List ℕ) → packing_faults (parameters_of query) ≡ []
    → (b : Bool) × (packing_in (value_of (codes "recordPacking") (parameters_of query)) ≡ Some b)
unfolding packing_faults
packing_chosen query h = chosen (packing_in (value_of (codes "recordPacking") (parameters_of query))) _ h

schema_chosen : (schemas : List Schema) (query : List ℕ) → schema_faults schemas (parameters_of query) ≡ []
    → (n : ℕ) × (schema_in schemas (value_of (codes "recordSchema") (parameters_of query)) ≡ Some n)
unfolding schema_faults
schema_chosen schemas query h = chosen (schema_in schemas (value_of (codes "recordSchema") (parameters_of query))) _ h

-- the parts of the checks
window_none : (schemas : List Schema) (query : List ℕ) → faults schemas (parameters_of query) ≡ []
    → (start_faults (parameters_of query) ≡ []) × (maximum_faults (parameters_of query) ≡ [])
unfolding faults window_faults
window_none schemas query h =
    let behind = no_others (form_faults (parameters_of query)) _ h in
    let window = no_first (start_faults (parameters_of query) ++ maximum_faults (parameters_of query)) _ behind in
    (no_first (start_faults (parameters_of query)) (maximum_faults (parameters_of query)) window, no_others (start_faults (parameters_of query)) (maximum_faults (parameters_of query)) window)

layout_none : (schemas : List Schema) (query : List ℕ) → faults schemas (parameters_of query) ≡ []
    → (packing_faults (parameters_of query) ≡ []) × (schema_faults schemas (parameters_of query) ≡ [])
unfolding faults layout_faults
layout_none schemas query h =
    let behind = no_others (window_faults (parameters_of query)) _ (no_others (form_faults (parameters_of query)) _ h) in
    let layout = no_first (packing_faults (parameters_of query) ++ schema_faults schemas (parameters_of query)) _ behind in (
      no_first (packing_faults (parameters_of query)) (schema_faults schemas (parameters_of query)) layout,
      no_others (packing_faults (parameters_of query)) (schema_faults schemas (parameters_of query)) layout,
    )

-- parameters without a fault ask for something
some_asked : (schemas : List Schema) (query : List ℕ) → faults schemas (parameters_of query) ≡ []
    → (asked : SruQuery) × IsAsked schemas (parameters_of query) asked
some_asked schemas query h =
    let window = window_none schemas query h in
    let layout = layout_none schemas query h in
    let start = start_chosen query window.0 in
    let maximum = maximum_chosen query window.1 in
    let packing = packing_chosen query layout.0 in
    let schema = schema_chosen schemas query layout.1 in (
      record {
        version = version_of (parameters_of query);
        query = value_of (codes "query") (parameters_of query);
        start = start.0;
        maximum = maximum.0;
        escaped = packing.0;
        schema = schema.0;
      },
      record {
        version = refl;
        query = refl;
        start = start.1;
        maximum = maximum.1;
        escaped = packing.1;
        schema = schema.1;
      },
    )

-- a GET is read
some_by : HasSomeText → (schemas : List Schema) (get : Get) (all : List SruDiag)
    → faults schemas (parameters_of get.query) ≡ all → ¬ (¬ ((reading : Reading) × IsReading schemas get reading))
some_by texts schemas get (first ∷ others) is none =
    none (refused first, subst (λ (all : List SruDiag). IsFirst all (Diag first)) (sym is) refl)
some_by texts schemas get [] is none =
    let asked = some_asked schemas get.query is in
    texts asked.0.query
    (λ text so. none (taken asked.0 text, (record { no_fault = is; is = asked.1 }, so)))

-- ---- a course

course_of_get : HasSomeText → (route : Route) (get : Get) (named : Option Database)
    → ¬ (¬ ((whole : Course) × GetLeadsTo route get named whole))
course_of_get texts route get None none = none (ends (Some NotFound) Closed, refl)
course_of_get texts route get (Some database) none =
    some_by texts route.schemas get (faults route.schemas (parameters_of get.query)) refl
    (λ read. none (answers database read.0, (read.0, read.1, refl)))

course_of_head : HasSomeText → (route : Route) (octets : ℕ) (head : Result HeadGot HeadFault) → head ≢ Err Memory
    → ¬ (¬ ((whole : Course) × HeadLeadsTo route octets head whole))
course_of_head texts route octets (Ok NeedMore) known none = none (ends None (Cut octets), refl)
course_of_head texts route octets (Ok (Got get used)) known none =
    course_of_get texts route get (database_of route get) none
course_of_head texts route octets (Err BadHttp) known none = none (ends (Some BadRequest) (Malformed 0), refl)
course_of_head texts route octets (Err HeadTooLarge) known none = none (ends (Some BadRequest) (Malformed 0), refl)
course_of_head texts route octets (Err NotGet) known none = none (ends (Some MethodNotAllowed) Closed, refl)
course_of_head texts route octets (Err Memory) known none = known refl

some_course : HasSomeText → (route : Route) (bytes : List ℕ) → ¬ (¬ ((whole : Course) × IsCourse route bytes whole))
some_course texts route bytes none =
    let seen = take most_head_octets bytes in
    some_in seen (head_length seen)
    (λ is. course_of_head texts route (length bytes) is.0 is.2
    (λ leads. none (leads.0, record { head = is.0; is_head = is.1; leads = leads.1 })))

-- ---- an answer

-- nothing answers octets of a kind under Plain marks
abbrev IsUnanswered : {W : Type 0} → world.Ghosts W → Kind → Route → List ℕ → Type 0
IsUnanswered w kind route bytes =
    (marks : List Mark) (out : List ℕ) (end : End) → AreMarksPlain marks → ¬ AnswersAs kind w route bytes marks out end

of_course : {W : Type 0} (w : world.Ghosts W) (route : Route) (bytes : List ℕ) (whole : Course)
    → IsCourse route bytes whole → ¬ IsUnanswered w letter route bytes
of_course w route bytes (ends last end) course none =
    none [] (last_written last) end tt (record {
      answered = record {
        whole = ends last end;
        is_whole = course;
        causes = [];
        of_marks = refl;
        allowed = tt;
        written = refl;
      };
      served = tt;
      none_left = refl;
      ended = refl;
    })
of_course w route bytes (answers database reading) course none =
    none (Plain ∷ []) (reply (get_answer w route database reading plain)) Closed (refl, tt) (record {
      answered = record {
        whole = answers database reading;
        is_whole = course;
        causes = plain ∷ [];
        of_marks = refl;
        allowed = (tt, tt);
        written = refl;
      };
      served = tt;
      none_left = refl;
      ended = refl;
    })

some_as : {W : Type 0} (w : world.Ghosts W) → HasSomeText → (kind : Kind) (route : Route) (bytes : List ℕ)
    → ¬ IsUnanswered w kind route bytes
some_as w texts letter route bytes none =
    some_course texts route bytes (λ course. of_course w route bytes course.0 course.1 none)
some_as w texts empty route bytes none = some-answer w route bytes none
some_as w texts unit route bytes none = some-answer w route bytes none

pub some_answer : {W : Type 0} (w : world.Ghosts W) → HasSomeText → HasSomeAnswer w
some_answer w texts route bytes none = some_as w texts (kind_of bytes) route bytes none
