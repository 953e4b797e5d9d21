-- What is printed of a query that is not mapped (this project's own).
use Rattle.std.specs.Prelude.{ℕ, List, [], ◌++◌, cond, codes, length, nat_eq}
use Rattle.std.specs.Str.{is_utf8}
use Rattle.cql_map.specs.Fault.{detail_of}
use Rattle.cql_map.specs.declared.fault.MapFault.{MapFault}
use Rattle.cql_map.specs.declared.fault.MapFault.TheVariants.{ContextSet, Index, Relation, Modifier, Boolean, Masking, EmptyTerm, Sort, BooleanModifier, Anchoring, Memory}

-- its rule
abbrev pub text_of : MapFault → List ℕ
text_of (ContextSet text) = codes "unsupported context set"
text_of (Index text) = codes "unsupported index"
text_of (Relation text) = codes "unsupported relation"
text_of (Modifier text) = codes "unsupported relation modifier"
text_of (Boolean text) = codes "unsupported boolean operator"
text_of (Masking text) = codes "masking character not supported"
text_of (EmptyTerm text) = codes "empty term unsupported"
text_of (Sort text) = codes "sort not supported"
text_of (BooleanModifier text) = codes "unsupported boolean modifier"
text_of (Anchoring text) = codes "anchoring character not supported"
text_of Memory = codes "out of memory"

-- the detail, where it is UTF-8
abbrev pub printed_detail : List ℕ → List ℕ
printed_detail detail = cond (is_utf8 detail) detail []

-- behind the rule stands a detail, where there is one
abbrev pub with_detail : List ℕ → List ℕ → List ℕ
with_detail text detail = cond (nat_eq (length detail) 0) text (text ++ codes ": " ++ detail)

-- its rule, with its detail
abbrev pub sentence : MapFault → List ℕ
sentence fault = with_detail (text_of fault) (printed_detail (detail_of fault))
