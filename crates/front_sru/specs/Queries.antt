-- For contracts alone: what the parameters and the query of a GET are read as (SRU 1.2, Request
-- Parameters; CQL 1.2)
use Rattle.std.specs.Prelude.{◌≡◌, ℕ, List, Result, Ok, Err, if◌then◌else◌}
use Rattle.z_types.specs.declared.query.RpnQuery.{RpnQuery}
use Rattle.z_types.specs.declared.sru.SruDiag.{SruDiag}
use Rattle.route_config.specs.declared.route.Database.{Database}
use Rattle.route_config.specs.declared.route.Index.{Index}
use Rattle.route_config.specs.declared.route.Route.{Route}
use Rattle.cql_lex.specs.declared.fault.LexFault.{LexFault}
use Rattle.cql_lex.specs.declared.fault.LexFault.TheVariants as lex
use Rattle.cql_map.specs.declared.fault.MapFault.{MapFault}
use Rattle.cql_map.specs.declared.fault.MapFault.TheVariants as map
use Rattle.cql_parse.specs.declared.fault.ParseFault.{ParseFault}
use Rattle.cql_parse.specs.declared.fault.ParseFault.TheVariants as parse
use Rattle.sru_request.specs.declared.faults.QueryFault.{QueryFault}
use Rattle.sru_request.specs.declared.faults.QueryFault.TheVariants.{Diag, Memory}
use Rattle.sru_request.specs.declared.head.Get.{Get}
use Rattle.sru_request.specs.declared.query.SruQuery.{SruQuery}
use Rattle.sru_rules.specs.declared.retrieval.Retrieval.{Retrieval}
use Rattle.sru_rules.specs.Asking.{is_too_large, rpn_of, open_query}
use Rattle.sru_rules.specs.Diagnostics.{query_syntax_error, query_feature_unsupported, not_mapped}
use Rattle.sru_rules.specs.Reading.{CqlText, IsCqlText, Reading, IsReading}
use Rattle.sru_rules.specs.Run.{Due, at_once, searches, due, due_by}
use Rattle.sru_rules.specs.Settling.{refusal}

-- what is read, or the diagnostic that refuses it
abbrev pub as_fault : {A : Type 0} → Result A SruDiag → Result A QueryFault
as_fault (Ok read) = Ok read
as_fault (Err diag) = Err (Diag diag)

-- an answer, or want of memory, which has no cause
abbrev pub IsOrMemory : {A : Type 0} → Result A QueryFault → Result A QueryFault → Type 0
IsOrMemory wanted (Err Memory) = Unit {0}
IsOrMemory wanted answer = answer ≡ wanted

-- a query of type 1 within the limits
abbrev pub limited : (version : List ℕ) → RpnQuery → Result RpnQuery SruDiag
limited version query =
    if is_too_large query.root then Err (query_feature_unsupported version) else Ok query

-- why a text has no tokens, tokens no tree, and a tree no mapping, as a diagnostic; want of memory
-- stays what it is
abbrev pub tokens_fault : (version : List ℕ) → LexFault → QueryFault
tokens_fault version (lex.OpenQuote place) = Diag (query_syntax_error version place)
tokens_fault version (lex.NotUtf8 place) = Diag (query_syntax_error version place)
tokens_fault version lex.Memory = Memory

abbrev pub tree_fault : (version : List ℕ) → ParseFault → QueryFault
tree_fault version (parse.Syntax place) = Diag (query_syntax_error version place)
tree_fault version parse.TooDeep = Diag (query_feature_unsupported version)
tree_fault version parse.Memory = Memory

abbrev pub mapping_fault : (version : List ℕ) → MapFault → QueryFault
mapping_fault version map.Memory = Memory
mapping_fault version fault = Diag (not_mapped version fault)

-- what a text is as CQL, and the query of type 1 that it is
pub record IsReadText (version : List ℕ) (indexes : List Index) (text : List ℕ)
    (answer : Result RpnQuery QueryFault)
    : Type 0 where
  pub read : CqlText
  pub is : IsCqlText text read
  pub answered : answer ≡ as_fault (rpn_of version indexes read)

-- the query of type 1 that a text is, or why it is none; want of memory has no cause
abbrev pub IsReadQuery : (version : List ℕ) → List Index → (text : List ℕ)
    → Result RpnQuery QueryFault → Type 0
IsReadQuery version indexes text (Err Memory) = Unit {0}
IsReadQuery version indexes text answer = IsReadText version indexes text answer

-- what is due is an answer at once by this diagnostic, or this search
abbrev pub IsDueAs : Due → Result Retrieval QueryFault → Type 0
IsDueAs (at_once answer) (Err (Diag diag)) = answer ≡ refusal diag
IsDueAs (searches retrieval) (Ok search) = retrieval ≡ search
IsDueAs other answer = ⊥

-- what the query of a request is as CQL, and what is due by it
pub record IsReadFor (route : Route) (database : Database) (asked : SruQuery)
    (answer : Result Retrieval QueryFault)
    : Type 0 where
  pub read : CqlText
  pub is : IsCqlText asked.query read
  pub answered : IsDueAs (due_by database asked
      (open_query route database asked.version (rpn_of asked.version route.indexes read))) answer

-- what a request whose query is read asks for, or why it asks nothing; want of memory has no cause
abbrev pub IsOpenRequest : Route → Database → SruQuery → RpnQuery → Result Retrieval QueryFault
    → Type 0
IsOpenRequest route database asked query (Err Memory) = Unit {0}
IsOpenRequest route database asked query answer =
    IsDueAs (due_by database asked (open_query route database asked.version (Ok query))) answer

-- what a request whose parameters are taken asks for, or why it asks nothing; want of memory has no
-- cause
abbrev pub IsReadRequest : Route → Database → SruQuery → Result Retrieval QueryFault → Type 0
IsReadRequest route database asked (Err Memory) = Unit {0}
IsReadRequest route database asked answer = IsReadFor route database asked answer

-- what a GET is read as, and what is due by it
pub record IsReadAs (route : Route) (database : Database) (get : Get)
    (answer : Result Retrieval QueryFault) : Type 0 where
  pub reading : Reading
  pub is_reading : IsReading route.schemas get reading
  pub answered : IsDueAs (due route database reading) answer

-- what a GET of a virtual database asks for, or why it asks nothing; want of memory has no cause
abbrev pub IsReadGet : Route → Database → Get → Result Retrieval QueryFault → Type 0
IsReadGet route database get (Err Memory) = Unit {0}
IsReadGet route database get answer = IsReadAs route database get answer
