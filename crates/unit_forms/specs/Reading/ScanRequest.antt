-- A Scan as it is read (ANSI/NISO Z39.50-2003, ScanRequest).
use Rattle.std.specs.Prelude.{ℕ, List, [], ◌∷◌, Option, Result}
use Rattle.z_types.specs.declared.query.Attr.{Attr}
use Rattle.z_types.specs.declared.query.Term.{Term}
use Rattle.z_types.specs.declared.requests.Asked.{Asked}
use Rattle.z_types.specs.declared.requests.Scan.{Scan}
use Rattle.z_types.specs.declared.scan.ScanAsk.{ScanAsk}
use Rattle.z_ber.specs.Element.{Forest}
use Rattle.unit_forms.specs.declared.refusal.Refusal.{Refusal}
use Rattle.unit_forms.specs.Reading.Answers.{◌⊗◌, read_as, asked_as}
use Rattle.unit_forms.specs.Reading.Attributes.{attrs_and_term_in}
use Rattle.unit_forms.specs.Reading.Rows.{octets_of, number_of, oid_of, universal, required, optional, optional_of, within}
use Rattle.unit_forms.specs.Reading.SearchRequest.{databases_of}
use Rattle.unit_forms.specs.Tags as numbers

-- the attribute set, the attributes and the term, stepSize, numberOfTermsRequested,
-- preferredPositionInResponse
abbrev pub Start : Type 0
Start = Option (List ℕ) × (Asked (List Attr × Term) × (Option ℕ × (ℕ × Option ℕ)))

abbrev pub ask_with : Option (List ℕ) → Option ℕ → ℕ → Option ℕ → List Attr × Term → ScanAsk
ask_with attr_set step number position (attrs, term) = record {
  attr_set = attr_set;
  attrs = attrs;
  term = term;
  step = step;
  number = number;
  position = position;
}

-- what is asked, where the attributes and the term are served
abbrev pub as_ask : Start → Asked ScanAsk
as_ask (attr_set, (operand, (step, (number, position)))) =
    asked_as (ask_with attr_set step number position) operand

-- attributeSet OPTIONAL, an OBJECT IDENTIFIER; termListAndStartPoint [102]; stepSize [5] OPTIONAL;
-- numberOfTermsRequested [6]; preferredPositionInResponse [7] OPTIONAL
unfoldable pub start_in : Forest → Result Start Refusal
start_in fields =
    optional_of (universal numbers.object_identifier ∷ []) oid_of fields
    ⊗ required numbers.term_list_and_start_point (within attrs_and_term_in) fields
    ⊗ optional numbers.step_size number_of fields
    ⊗ required numbers.number_of_terms_requested number_of fields
    ⊗ optional numbers.preferred_position_in_response number_of fields

unfoldable pub ask_in : Forest → Result (Asked ScanAsk) Refusal
ask_in fields = read_as as_ask (start_in fields)

abbrev as_scan : Option (List ℕ) × (List (List ℕ) × Asked ScanAsk) → Scan
as_scan (ref_id, (dbs, ask)) = record { ref_id = ref_id; dbs = dbs; ask = ask }

-- referenceId [2] OPTIONAL, databaseNames [3], and what is asked for
unfoldable pub scan_in : Forest → Result Scan Refusal
scan_in fields =
    read_as as_scan (
    optional numbers.reference_id octets_of fields
    ⊗ required numbers.scan_database_names databases_of fields
    ⊗ ask_in fields)
