-- A GET answered under a cause, which both its works share, and an HTTP connection under causes
-- (this project's own)
use Rattle.std.specs.Prelude.{ℕ, List, [], ◌∷◌, Option, None, Some, Result, Ok, Err}
use Rattle.z_types.specs.MergedOrder.{total}
use Rattle.z_types.specs.declared.marks.End.TheVariants.{Closed}
use Rattle.z_types.specs.declared.query.RpnQuery.{RpnQuery}
use Rattle.z_types.specs.declared.sru.SruAnswer.{SruAnswer}
use Rattle.z_types.specs.declared.sru.SruDiag.{SruDiag}
use Rattle.z_types.specs.declared.world.World as world
use Rattle.route_config.specs.declared.route.Database.{Database}
use Rattle.route_config.specs.declared.route.Route.{Route}
use Rattle.gateway_rules.specs.Marks.{Cause, Taken}
use Rattle.gateway_rules.specs.Outcomes.{outcome_of, classes_asked}
use Rattle.gateway_rules.specs.Session.{Stop, over, wanting}
use Rattle.sru_reply.specs.declared.bare.Refusal.{Refusal}
use Rattle.sru_reply.specs.Bare.{bare}
use Rattle.sru_reply.specs.Reply.{reply}
use Rattle.sru_request.specs.declared.query.SruQuery.{SruQuery}
use Rattle.sru_rules.specs.declared.retrieval.Retrieval.{Retrieval}
use Rattle.sru_rules.specs.Asking.{rpn_of, open_query, search_work}
use Rattle.sru_rules.specs.Course.{Course, ends, answers}
use Rattle.sru_rules.specs.Reading.{Reading, refused, taken}
use Rattle.sru_rules.specs.Settling.{Next, answered, fetches, refusal, fetch_answer, after_search}

-- ---- one GET

-- what a GET is due: an answer at once, or a search and what follows it
pub data Due : Type 0 where
  at_once : SruAnswer → Due
  searches : Retrieval → Due

-- a request whose parameters are taken, by its query
abbrev pub due_by : Database → SruQuery → Result RpnQuery SruDiag → Due
due_by database asked (Err diag) = at_once (refusal diag)
due_by database asked (Ok query) =
    searches (record { legs = database.legs; asked = asked; query = query })

-- what a GET of a virtual database is due
abbrev pub due : Route → Database → Reading → Due
due route database (refused diag) = at_once (refusal diag)
due route database (taken asked text) =
    due_by database asked
    (open_query route database asked.version (rpn_of asked.version route.indexes text))

-- what follows the search under a cause
abbrev pub next_of : {W : Type 0} → world.Ghosts W → Route → Retrieval → Cause → Next
next_of w route retrieval cause =
    after_search route.schemas retrieval (outcome_of w route (search_work retrieval) cause)

-- the answer by what follows the search
abbrev pub next_answer : {W : Type 0} → world.Ghosts W → Route → SruQuery → Cause → Next → SruAnswer
next_answer w route asked cause (answered answer) = answer
next_answer w route asked cause (fetches hits work) =
    fetch_answer route.schemas asked (total hits) (outcome_of w route work cause)

-- the answer to a GET that is due this
abbrev pub answer_to : {W : Type 0} → world.Ghosts W → Route → Cause → Due → SruAnswer
answer_to w route cause (at_once answer) = answer
answer_to w route cause (searches retrieval) =
    next_answer w route retrieval.asked cause (next_of w route retrieval cause)

-- the answer to a GET of a database under a cause
abbrev pub get_answer : {W : Type 0} → world.Ghosts W → Route → Database → Reading
    → Cause → SruAnswer
get_answer w route database reading cause = answer_to w route cause (due route database reading)

-- the names of the classes that a GET asks: those of its search, among which are those of its fetch
abbrev pub classes_of : Route → Due → List (List ℕ)
classes_of route (at_once answer) = []
classes_of route (searches retrieval) = classes_asked route (search_work retrieval)

-- ---- a connection

-- what is written under causes, the causes that were taken, those that are left, and where it stops
pub record Run : Type 0 where
  pub out : List ℕ
  pub taken : List Taken
  pub left : List Cause
  pub stop : Stop

-- the last reply of a connection that has none of SRU, where there is one
abbrev pub last_written : Option Refusal → List ℕ
last_written None = []
last_written (Some refusal) = bare refusal

-- a cause, and the classes that a GET of a database asks
abbrev pub taken_at : Route → Database → Reading → Cause → Taken
taken_at route database reading cause =
    record { classes = classes_of route (due route database reading); cause = cause }

-- a connection, answered under these causes: a GET takes one
abbrev pub run : {W : Type 0} → world.Ghosts W → Route → Course → List Cause → Run
run w route (ends last end) causes =
    record { out = last_written last; taken = []; left = causes; stop = over end }
run w route (answers database reading) [] =
    record { out = []; taken = []; left = []; stop = wanting }
run w route (answers database reading) (cause ∷ causes) = record {
  out = reply (get_answer w route database reading cause);
  taken = taken_at route database reading cause ∷ [];
  left = causes;
  stop = over Closed;
}
