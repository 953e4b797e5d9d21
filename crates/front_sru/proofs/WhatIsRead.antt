-- What a GET and its query are read as.
use Rattle.std.proofs.Common.{◌≡◌, ℕ, List, [], Some, Result, Ok, Err, refl, sym, ap, subst, inl, inr}
use Rattle.z_types.specs.Tree as rpn
use Rattle.std.specs.Prelude.{IfOk}
use Rattle.z_types.specs.declared.query.RpnQuery.{RpnQuery}
use Rattle.z_types.specs.declared.sru.SruDiag.{SruDiag}
use Rattle.route_config.specs.Sound.{IsSound}
use Rattle.route_config.specs.declared.route.Database.{Database}
use Rattle.route_config.specs.declared.route.Index.{Index}
use Rattle.route_config.specs.declared.route.Route.{Route}
use Rattle.cql_lex.specs.declared.fault.LexFault.{LexFault}
use Rattle.cql_lex.specs.declared.fault.LexFault.TheVariants as lex
use Rattle.cql_lex.specs.declared.token.Token.{Token}
use Rattle.cql_lex.specs.Refusals as lexer
use Rattle.cql_map.specs.Faults as faults
use Rattle.cql_map.specs.declared.fault.MapFault.TheVariants as map
use Rattle.cql_parse.specs.Tree.{Tree}
use Rattle.cql_parse.specs.Refusals as parser
use Rattle.cql_parse.specs.declared.fault.ParseFault.{ParseFault}
use Rattle.cql_parse.specs.declared.fault.ParseFault.TheVariants as parse
use Rattle.sru_request.specs.Checks as checks
use Rattle.sru_request.specs.Parameters.{parameters_of}
use Rattle.sru_request.specs.declared.faults.QueryFault.{QueryFault}
use Rattle.sru_request.specs.declared.faults.QueryFault.TheVariants.{Diag, Memory}
use Rattle.sru_request.specs.declared.head.Get.{Get}
use Rattle.sru_request.specs.declared.query.SruQuery.{SruQuery}
use Rattle.sru_rules.specs.declared.retrieval.Retrieval.{Retrieval}
use Rattle.sru_rules.specs.Asking.{rpn_of, open_query}
use Rattle.sru_rules.specs.Course.{database_of}
use Rattle.sru_rules.specs.Reading.{broken, deep, parsed, IsLexed, IsParsed, refused, taken}
use Rattle.sru_rules.specs.Run.{Due, at_once, searches, due, due_by}
use Rattle.sru_rules.specs.steps.Works.{IsRetrieval}
use Rattle.sru_rules.proofs.CanBegin.{get_is_retrieval}
use Rattle.front_sru.specs.Queries.{as_fault, IsOrMemory, tokens_fault, tree_fault, IsReadText, IsReadQuery, IsDueAs, IsOpenRequest, IsReadRequest, IsReadGet}

-- ---- tokens

read_of : (version : List ℕ) (indexes : List Index) (text : List ℕ) (tokens : List Token) (tree : Tree)
    (answer : Result RpnQuery QueryFault) → IsLexed text tokens → IsParsed text tokens tree
    → answer ≡ as_fault (rpn_of version indexes (parsed tree)) → IsReadText version indexes text answer
read_of version indexes text tokens tree answer lexed is answered =
    record { read = parsed tree; is = inr (tokens, lexed, is); answered = answered }

pub tokens_good : (version : List ℕ) (indexes : List Index) (text : List ℕ) (tokens : List Token) (tree : Tree)
    (answer : Result RpnQuery QueryFault) → IsLexed text tokens → IsParsed text tokens tree
    → IsOrMemory (as_fault (rpn_of version indexes (parsed tree))) answer → IsReadQuery version indexes text answer
tokens_good version indexes text tokens tree (Ok query) lexed is h = read_of version indexes text tokens tree (Ok query) lexed is h
tokens_good version indexes text tokens tree (Err (Diag diag)) lexed is h =
    read_of version indexes text tokens tree (Err (Diag diag)) lexed is h
tokens_good version indexes text tokens tree (Err Memory) lexed is h = tt

refused_tree : (version : List ℕ) (indexes : List Index) (text : List ℕ) (tokens : List Token) (fault : ParseFault)
    → IsLexed text tokens → parser.IsRefusal text tokens fault → IsReadQuery version indexes text (Err (tree_fault version fault))
refused_tree version indexes text tokens (parse.Syntax place) lexed is =
    record { read = broken place; is = inr (tokens, lexed, is); answered = refl }
refused_tree version indexes text tokens parse.TooDeep lexed is =
    record { read = deep; is = inr (tokens, lexed, is); answered = refl }
refused_tree version indexes text tokens parse.Memory lexed is = tt

pub tokens_refused : (version : List ℕ) (indexes : List Index) (text : List ℕ) (tokens : List Token) (fault : ParseFault)
    (answer : QueryFault) → IsLexed text tokens → parser.IsRefusal text tokens fault → answer ≡ tree_fault version fault
    → IsReadQuery version indexes text (Err answer)
tokens_refused version indexes text tokens fault answer lexed is same =
    subst (λ (a : QueryFault). IsReadQuery version indexes text (Err a)) (sym same)
    (refused_tree version indexes text tokens fault lexed is)

-- ---- a text

refused_text : (version : List ℕ) (indexes : List Index) (text : List ℕ) (fault : LexFault) → lexer.IsRefusal text fault
    → IsReadQuery version indexes text (Err (tokens_fault version fault))
refused_text version indexes text (lex.OpenQuote place) is =
    record { read = broken place; is = inl (inr is); answered = refl }
refused_text version indexes text (lex.NotUtf8 place) is =
    record { read = broken place; is = inl (inl is); answered = refl }
refused_text version indexes text lex.Memory is = tt

pub text_refused : (version : List ℕ) (indexes : List Index) (text : List ℕ) (fault : LexFault) (answer : QueryFault)
    → lexer.IsRefusal text fault → answer ≡ tokens_fault version fault → IsReadQuery version indexes text (Err answer)
text_refused version indexes text fault answer is same =
    subst (λ (a : QueryFault). IsReadQuery version indexes text (Err a)) (sym same)
    (refused_text version indexes text fault is)

-- ---- a request

rpn-is : (read : Result RpnQuery SruDiag) (query : RpnQuery) → Ok query ≡ as_fault read → read ≡ Ok query
rpn-is (Ok own) query h = cc
rpn-is (Err diag) query h = absurd cc

rpn-fails : (read : Result RpnQuery SruDiag) (diag : SruDiag) → Err (Diag diag) ≡ as_fault read → read ≡ Err diag
rpn-fails (Ok own) diag h = absurd cc
rpn-fails (Err own) diag h = cc

module _ (route : Route) (database : Database) (asked : SruQuery) where
  -- what is due where the query is read as this
  abbrev due_read : Result RpnQuery SruDiag → Due
  due_read read = due_by database asked (open_query route database asked.version read)

  -- its query was read, and it was asked whether anyone may search the database
  pub query-opened : (query : RpnQuery) (answer : Result Retrieval QueryFault) → IsReadQuery asked.version route.indexes asked.query (Ok query)
      → IsOpenRequest route database asked query answer → IsReadRequest route database asked answer
  query-opened query (Err Memory) is h = tt
  query-opened query (Err (Diag diag)) is h = record {
    read = is.read;
    is = is.is;
    answered = subst (λ (r : Result RpnQuery SruDiag). IsDueAs (due_read r) (Err (Diag diag))) (sym (rpn-is (rpn_of asked.version route.indexes is.read) query is.answered)) h;
  }
  query-opened query (Ok retrieval) is h = record {
    read = is.read;
    is = is.is;
    answered = subst (λ (r : Result RpnQuery SruDiag). IsDueAs (due_read r) (Ok retrieval)) (sym (rpn-is (rpn_of asked.version route.indexes is.read) query is.answered)) h;
  }

  -- it is none
  pub query-refused : (fault : QueryFault) → IsReadQuery asked.version route.indexes asked.query (Err fault) → IsReadRequest route database asked (Err fault)
  query-refused Memory is = tt
  query-refused (Diag diag) is = record {
    read = is.read;
    is = is.is;
    answered = subst (λ (r : Result RpnQuery SruDiag). IsDueAs (due_read r) (Err (Diag diag))) (sym (rpn-fails (rpn_of asked.version route.indexes is.read) diag is.answered)) refl;
  }

-- ---- a GET

pub get_taken : (route : Route) (database : Database) (get : Get) (asked : SruQuery) (answer : Result Retrieval QueryFault)
    → checks.faults route.schemas (parameters_of get.query) ≡ []
    → checks.IsAsked route.schemas (parameters_of get.query) asked
    → IsReadRequest route database asked answer → IsReadGet route database get answer
get_taken route database get asked (Ok retrieval) none is read = record {
  reading = taken asked read.read;
  is_reading = (record { no_fault = none; is = is }, read.is);
  answered = read.answered;
}
get_taken route database get asked (Err (Diag diag)) none is read = record {
  reading = taken asked read.read;
  is_reading = (record { no_fault = none; is = is }, read.is);
  answered = read.answered;
}
get_taken route database get asked (Err Memory) none is read = tt

pub get_refused : (route : Route) (database : Database) (get : Get) (fault : QueryFault)
    → checks.IsRefusal (checks.faults route.schemas (parameters_of get.query)) fault
    → IsReadGet route database get (Err fault)
get_refused route database get Memory is = tt
get_refused route database get (Diag diag) (inl memory) = absurd cc
get_refused route database get (Diag diag) (inr first) =
    record { reading = refused diag; is_reading = first; answered = refl }

due_searches : (asks : Due) (retrieval : Retrieval) → IsDueAs asks (Ok retrieval) → asks ≡ searches retrieval
due_searches (at_once given) retrieval is = absurd is
due_searches (searches own) retrieval is = ap searches is

-- what is searched for is within the bounds of works
get_kept : (route : Route) (database : Database) (get : Get) (retrieval : Retrieval) → IsSound route
    → database_of route get ≡ Some database → IsReadGet route database get (Ok retrieval) → IsRetrieval retrieval
get_kept route database get retrieval sound found read =
    get_is_retrieval route get database read.reading retrieval sound
    (record { found = found; is_reading = read.is_reading })
    (due_searches (due route database read.reading) retrieval read.answered)

pub kept_if_read : (route : Route) (database : Database) (get : Get) (answer : Result Retrieval QueryFault) → IsSound route
    → database_of route get ≡ Some database → IsReadGet route database get answer → IfOk answer IsRetrieval
kept_if_read route database get (Ok retrieval) sound found read = get_kept route database get retrieval sound found read
kept_if_read route database get (Err fault) sound found read = tt
