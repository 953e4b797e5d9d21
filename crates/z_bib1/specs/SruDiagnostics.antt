-- The diagnostics of SRU (SRU 1.2, the list of diagnostics, info:srw/diagnostic/1), and those that
-- conditions of the bib-1 set are told as (ANSI/NISO Z39.50-2003, Appendix 4 ERR)
use Rattle.std.specs.Prelude.{ℕ, List, [], ◌∷◌, codes, if◌then◌else◌}
use Rattle.z_types.specs.Bib1.{bib1_diagnostics, condition_number}
use Rattle.z_types.specs.Same.{is_same}
use Rattle.z_types.specs.declared.diagnostic.Diag.{Diag}
use Rattle.z_types.specs.declared.conditions.Condition.TheVariants as condition
use Rattle.z_bib1.specs.Table.{beside_or}

-- each diagnostic that the gateway gives, with its text
abbrev pub sru_texts : List (ℕ × List ℕ)
sru_texts =
    (1, codes "General system error")
    ∷ (2, codes "System temporarily unavailable")
    ∷ (4, codes "Unsupported operation")
    ∷ (5, codes "Unsupported version")
    ∷ (6, codes "Unsupported parameter value")
    ∷ (7, codes "Mandatory parameter not supplied")
    ∷ (8, codes "Unsupported parameter")
    ∷ (10, codes "Query syntax error")
    ∷ (15, codes "Unsupported context set")
    ∷ (16, codes "Unsupported index")
    ∷ (19, codes "Unsupported relation")
    ∷ (20, codes "Unsupported relation modifier")
    ∷ (27, codes "Empty term unsupported")
    ∷ (28, codes "Masking character not supported")
    ∷ (31, codes "Anchoring character not supported")
    ∷ (37, codes "Unsupported boolean operator")
    ∷ (46, codes "Unsupported boolean modifier")
    ∷ (48, codes "Query feature unsupported")
    ∷ (61, codes "First record position out of range")
    ∷ (66, codes "Unknown schema for retrieval")
    ∷ (67, codes "Record not available in this schema")
    ∷ (71, codes "Unsupported record packing")
    ∷ (80, codes "Sort not supported")
    ∷ []

-- the text of a diagnostic; none for another number
abbrev pub sru_text : ℕ → List ℕ
sru_text number = beside_or [] sru_texts number

-- the conditions that SRU tells in a diagnostic of their own
abbrev pub sru_numbers : List (ℕ × ℕ)
sru_numbers =
    (condition_number condition.TemporarySystemError, 2)
    ∷ (condition_number condition.PresentRequestOutOfRange, 61)
    ∷ (condition_number condition.ElementSetNameNotValid, 66)
    ∷ (condition_number condition.MalformedQuery, 10)
    ∷ (condition_number condition.DatabaseUnavailable, 2)
    ∷ (condition_number condition.OperatorUnsupported, 37)
    ∷ (condition_number condition.UnsupportedUseAttribute, 16)
    ∷ (condition_number condition.RecordSyntaxNotSupported, 67)
    ∷ []

-- the diagnostic of a condition: every other is a general system error
abbrev pub sru_of : ℕ → ℕ
sru_of condition = beside_or 1 sru_numbers condition

-- the diagnostic that a diagnostic is told as: by its condition where it is of bib-1; one of
-- another set is a general system error
abbrev pub sru_of_diag : Diag → ℕ
sru_of_diag diag = if is_same diag.set bib1_diagnostics then sru_of diag.condition else 1
