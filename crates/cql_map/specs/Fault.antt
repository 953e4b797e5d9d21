-- The numbers and details of the refusals (this project's own), and of their diagnostics (SRU 1.2,
-- list of diagnostics).
use Rattle.std.specs.Prelude.{ℕ, List, []}
use Rattle.cql_map.specs.declared.fault.MapFault.{MapFault}
use Rattle.cql_map.specs.declared.fault.MapFault.TheVariants.{ContextSet, Index, Relation, Modifier, Boolean, Masking, EmptyTerm, Sort, BooleanModifier, Anchoring, Memory}

-- 0 for want of memory, which is no refusal
abbrev pub fault_number : MapFault → ℕ
fault_number (ContextSet text) = 1
fault_number (Index text) = 2
fault_number (Relation text) = 3
fault_number (Modifier text) = 4
fault_number (Boolean text) = 5
fault_number (Masking text) = 6
fault_number (EmptyTerm text) = 7
fault_number (Sort text) = 8
fault_number (BooleanModifier text) = 9
fault_number (Anchoring text) = 10
fault_number Memory = 0

-- unsupported context set, index, relation, relation modifier, boolean, masking character, empty
-- term, sort, boolean modifier, anchoring character
abbrev pub diagnostic_of : MapFault → ℕ
diagnostic_of (ContextSet text) = 15
diagnostic_of (Index text) = 16
diagnostic_of (Relation text) = 19
diagnostic_of (Modifier text) = 20
diagnostic_of (Boolean text) = 37
diagnostic_of (Masking text) = 28
diagnostic_of (EmptyTerm text) = 27
diagnostic_of (Sort text) = 80
diagnostic_of (BooleanModifier text) = 46
diagnostic_of (Anchoring text) = 31
diagnostic_of Memory = 0

abbrev pub detail_of : MapFault → List ℕ
detail_of (ContextSet text) = text
detail_of (Index text) = text
detail_of (Relation text) = text
detail_of (Modifier text) = text
detail_of (Boolean text) = text
detail_of (Masking text) = text
detail_of (EmptyTerm text) = text
detail_of (Sort text) = text
detail_of (BooleanModifier text) = text
detail_of (Anchoring text) = text
detail_of Memory = []
