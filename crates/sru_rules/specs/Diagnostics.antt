-- What a request is refused for behind its parameters, and what stands in place of a record (SRU
-- 1.2, Diagnostics, and the list of diagnostics, info:srw/diagnostic/1)
use Rattle.std.specs.Prelude.{ℕ, List, []}
use Rattle.std.specs.Fmt.{decimal}
use Rattle.z_types.specs.declared.diagnostic.Diag.{Diag}
use Rattle.z_types.specs.declared.sru.SruDiag.{SruDiag}
use Rattle.z_bib1.specs.SruDiagnostics.{sru_of_diag}
use Rattle.cql_map.specs.declared.fault.MapFault.{MapFault}
use Rattle.cql_map.specs.Fault.{diagnostic_of, detail_of}
use Rattle.sru_request.specs.Checks.{diagnostic}

-- 10, query syntax error: the text is no query from this octet on
abbrev pub query_syntax_error : (version : List ℕ) → (place : ℕ) → SruDiag
query_syntax_error version place = diagnostic version 10 (decimal place)

-- 48, query feature unsupported: the query is too deep, too large or too costly
abbrev pub query_feature_unsupported : (version : List ℕ) → SruDiag
query_feature_unsupported version = diagnostic version 48 []

-- a part of the query that has no mapping
abbrev pub not_mapped : (version : List ℕ) → MapFault → SruDiag
not_mapped version fault = diagnostic version (diagnostic_of fault) (detail_of fault)

-- 61, first record position out of range
abbrev pub out_of_range : (version : List ℕ) → (start : ℕ) → SruDiag
out_of_range version start = diagnostic version 61 (decimal start)

-- 67, record not available in this schema
abbrev pub not_in_schema : (version : List ℕ) → SruDiag
not_in_schema version = diagnostic version 67 []

-- a diagnostic of a target, or of a mark, with its addinfo
abbrev pub of_target : (version : List ℕ) → Diag → SruDiag
of_target version diag = diagnostic version (sru_of_diag diag) diag.addinfo
