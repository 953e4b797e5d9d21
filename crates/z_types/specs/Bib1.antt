-- The bib-1 diagnostic set (ANSI/NISO Z39.50-2003, Appendix 4 ERR): its conditions that the gateway
-- and the test targets give or know
use Rattle.std.specs.Prelude.{◌≡◌, ◌⊎◌, ℕ, Bool, ◌==◌, ◌&&◌, ◌||◌, List, [], ◌∷◌}
use Rattle.z_types.specs.Same.{is_same}
use Rattle.z_types.specs.declared.conditions.Condition.{Condition}
use Rattle.z_types.specs.declared.conditions.Condition.TheVariants as condition
use Rattle.z_types.specs.declared.diagnostic.Diag.{Diag}

-- its object identifier, 1.2.840.10003.4.1
abbrev pub bib1_diagnostics : List ℕ
bib1_diagnostics = 1 ∷ 2 ∷ 840 ∷ 10003 ∷ 4 ∷ 1 ∷ []

-- the number of a condition
abbrev pub condition_number : Condition → ℕ
condition_number condition.TemporarySystemError = 2
condition_number condition.TooManyRecordsRetrieved = 12
condition_number condition.PresentRequestOutOfRange = 13
condition_number condition.RecordExceedsPreferredMessageSize = 16
condition_number condition.RecordExceedsExceptionalRecordSize = 17
condition_number condition.ResultSetExists = 21
condition_number condition.CombinationOfDatabasesNotSupported = 23
condition_number condition.ElementSetNameNotValid = 25
condition_number condition.ResultSetNoLongerExists = 27
condition_number condition.ResultSetDoesNotExist = 30
condition_number condition.ResourcesExhausted = 31
condition_number condition.QueryTypeNotSupported = 107
condition_number condition.MalformedQuery = 108
condition_number condition.DatabaseUnavailable = 109
condition_number condition.OperatorUnsupported = 110
condition_number condition.TooManyDatabases = 111
condition_number condition.TooManyResultSets = 112
condition_number condition.UnsupportedUseAttribute = 114
condition_number condition.DatabaseDoesNotExist = 235
condition_number condition.AccessToDatabaseDenied = 236
condition_number condition.RecordSyntaxNotSupported = 239

-- the diagnostic of a condition, and what it is about
abbrev pub bib1 : Condition → List ℕ → Diag
bib1 condition addinfo =
    record { set = bib1_diagnostics; condition = condition_number condition; addinfo = addinfo }

-- the diagnostic says that the target has no such result set, or no longer
abbrev pub is_gone : Diag → Bool
is_gone diag =
    is_same diag.set bib1_diagnostics
    && ((diag.condition == condition_number condition.ResultSetNoLongerExists)
    || (diag.condition == condition_number condition.ResultSetDoesNotExist))

-- the same, as a fact
pub record IsGone (diag : Diag) : Type 0 where
  pub set : diag.set ≡ bib1_diagnostics
  pub condition : (diag.condition ≡ condition_number condition.ResultSetNoLongerExists)
      ⊎ (diag.condition ≡ condition_number condition.ResultSetDoesNotExist)
