-- The checks of a request's parameters, in their order, each with the diagnostic that refuses it
-- (SRU 1.2, Request Parameters; the list of diagnostics, info:srw/diagnostic/1)
use Rattle.std.specs.Prelude.{◌≡◌, ◌⊎◌, ℕ, Bool, true, false, ◌||◌, List, [], ◌∷◌, ◌++◌, Option, None, Some, codes, if◌then◌else◌}
use Rattle.z_types.specs.declared.sru.SruDiag.{SruDiag}
use Rattle.z_types.specs.declared.schemas.Schema.{Schema}
use Rattle.sru_request.specs.declared.faults.QueryFault.{QueryFault}
use Rattle.sru_request.specs.declared.faults.QueryFault.TheVariants as fault
use Rattle.sru_request.specs.declared.parameter.Parameter.{Parameter}
use Rattle.sru_request.specs.declared.query.SruQuery.{SruQuery}
use Rattle.z_types.specs.Same.{is_same}
use Rattle.sru_request.specs.Parameters.{value_of}
use Rattle.sru_request.specs.Choices.{is_absent, start_in, maximum_in, packing_in, schema_in, first_other}

-- a diagnostic
abbrev pub diagnostic : List ℕ → ℕ → List ℕ → SruDiag
diagnostic version number details = record { version = version; number = number; details = details }

-- one where a test fails
abbrev pub unless : Bool → SruDiag → List SruDiag
unless true diag = []
unless false diag = diag ∷ []

-- one where nothing is chosen
abbrev pub unless_chosen : {A : Type 0} → Option A → SruDiag → List SruDiag
unless_chosen None diag = diag ∷ []
unless_chosen (Some choice) diag = []

-- the version that is asked for, and the one in which is told that there is none
abbrev pub version_of : List Parameter → List ℕ
version_of given = value_of (codes "version") given

abbrev pub newest : List ℕ
newest = codes "1.2"

-- 1, 2: the operation is there, and is searchRetrieve
unfoldable pub operation_faults : List Parameter → List SruDiag
operation_faults given =
    let operation = value_of (codes "operation") given in
    if is_absent operation then diagnostic newest 7 (codes "operation") ∷ []
    else unless (is_same operation (codes "searchRetrieve")) (diagnostic newest 4 operation)

-- 3, 4: the version is there, and is 1.1 or 1.2
unfoldable pub version_faults : List Parameter → List SruDiag
version_faults given =
    let version = version_of given in
    if is_absent version then diagnostic newest 7 (codes "version") ∷ []
    else unless (is_same version (codes "1.1") || is_same version newest)
    (diagnostic newest 5 newest)

-- 5: the query is there
unfoldable pub query_faults : List Parameter → List SruDiag
query_faults given =
    if is_absent (value_of (codes "query") given)
    then diagnostic (version_of given) 7 (codes "query") ∷ [] else []

-- 6: startRecord
unfoldable pub start_faults : List Parameter → List SruDiag
start_faults given =
    unless_chosen (start_in (value_of (codes "startRecord") given))
    (diagnostic (version_of given) 6 (codes "startRecord"))

-- 7: maximumRecords
unfoldable pub maximum_faults : List Parameter → List SruDiag
maximum_faults given =
    unless_chosen (maximum_in (value_of (codes "maximumRecords") given))
    (diagnostic (version_of given) 6 (codes "maximumRecords"))

-- 8: recordPacking
unfoldable pub packing_faults : List Parameter → List SruDiag
packing_faults given =
    let packing = value_of (codes "recordPacking") given in
    unless_chosen (packing_in packing) (diagnostic (version_of given) 71 packing)

-- 9: recordSchema
unfoldable pub schema_faults : List Schema → List Parameter → List SruDiag
schema_faults schemas given =
    let schema = value_of (codes "recordSchema") given in
    unless_chosen (schema_in schemas schema) (diagnostic (version_of given) 66 schema)

-- 10: no sortKeys
unfoldable pub sort_faults : List Parameter → List SruDiag
sort_faults given =
    if is_absent (value_of (codes "sortKeys") given) then []
    else diagnostic (version_of given) 80 [] ∷ []

-- 11: no other name
abbrev pub other_faults_by : List ℕ → Option (List ℕ) → List SruDiag
other_faults_by version None = []
other_faults_by version (Some name) = diagnostic version 8 name ∷ []

unfoldable pub other_faults : List Parameter → List SruDiag
other_faults given = other_faults_by (version_of given) (first_other given given)

-- 1 to 5
unfoldable pub form_faults : List Parameter → List SruDiag
form_faults given = operation_faults given ++ (version_faults given ++ query_faults given)

-- 6 and 7
unfoldable pub window_faults : List Parameter → List SruDiag
window_faults given = start_faults given ++ maximum_faults given

-- 8 and 9
unfoldable pub layout_faults : List Schema → List Parameter → List SruDiag
layout_faults schemas given = packing_faults given ++ schema_faults schemas given

-- 10 and 11
unfoldable pub rest_faults : List Parameter → List SruDiag
rest_faults given = sort_faults given ++ other_faults given

-- all of them
unfoldable pub faults : List Schema → List Parameter → List SruDiag
faults schemas given =
    form_faults given ++ (window_faults given ++ (layout_faults schemas given ++ rest_faults given))

-- this is the first of them
abbrev pub IsFirst : List SruDiag → QueryFault → Type 0
IsFirst [] e = ⊥
IsFirst (first ∷ rest) e = e ≡ fault.Diag first

-- the first of them is told, or memory is wanting
abbrev pub IsRefusal : List SruDiag → QueryFault → Type 0
IsRefusal faults e = (e ≡ fault.Memory) ⊎ IsFirst faults e

-- what is asked for
pub record IsAsked (schemas : List Schema) (given : List Parameter)
    (asked : SruQuery) : Type 0 where
  pub version : asked.version ≡ version_of given
  pub query : asked.query ≡ value_of (codes "query") given
  pub start : start_in (value_of (codes "startRecord") given) ≡ Some asked.start
  pub maximum : maximum_in (value_of (codes "maximumRecords") given) ≡ Some asked.maximum
  pub escaped : packing_in (value_of (codes "recordPacking") given) ≡ Some asked.escaped
  pub schema : schema_in schemas (value_of (codes "recordSchema") given) ≡ Some asked.schema
