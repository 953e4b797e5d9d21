-- What the test targets mean: the built-in target n answers as below, inside a login as the target
-- of another number, and no other can be asked here (this project's own)
use Rattle.std.specs.Prelude.{ℕ, ◌+◌, ◌%◌, List, [], sum, Option, None, Some, Result, Err}
use Rattle.z_types.specs.declared.address.Address.{Address}
use Rattle.z_types.specs.declared.address.Address.TheVariants.{Test, Tcp, Login}
use Rattle.z_types.specs.declared.address.Site.TheVariants as site
use Rattle.z_types.specs.declared.key.SetKey.{SetKey}
use Rattle.z_types.specs.declared.diagnostic.Diag.{Diag}
use Rattle.z_types.specs.declared.records.Item.{Item}
use Rattle.z_types.specs.declared.scan.ScanAsk.{ScanAsk}
use Rattle.z_types.specs.declared.scan.ScanAnswer.{ScanAnswer}
use Rattle.z_types.specs.Bib1.{bib1}
use Rattle.z_types.specs.declared.conditions.Condition.TheVariants.{DatabaseUnavailable}
use Rattle.test_target.specs.Searches.{search_at}
use Rattle.test_target.specs.Records.{record_at}
use Rattle.test_target.specs.Scans.{scan_at}

-- the number as which the target n answers inside a login: the sum of its octets, modulo 7, further
abbrev pub number_inside : Option (List ℕ) → ℕ → ℕ
number_inside None n = n
number_inside (Some login) n = n + sum login % 7

-- the number as which a target answers, where it is a built-in one
abbrev pub number_at : Address → Option ℕ
number_at (Test n) = Some n
number_at (Tcp host port) = None
number_at (Login (site.Test n) login) = Some (number_inside (Some login) n)
number_at (Login (site.Tcp host port) login) = None

-- the built-in targets are told, by themselves and inside any login
abbrev pub told_of : Address → Type 0
told_of (Test n) = Unit {0}
told_of (Tcp host port) = ⊥
told_of (Login (site.Test n) login) = Unit {0}
told_of (Login (site.Tcp host port) login) = ⊥

-- what the target of a number answers, or that there is none
abbrev pub answer_of : {A : Type 0} → (ℕ → Result A Diag) → Option ℕ → Result A Diag
answer_of answer None = Err (bib1 DatabaseUnavailable [])
answer_of answer (Some n) = answer n

-- the hits of a search, or its diagnostic
abbrev pub search_of : Address → SetKey → Result ℕ Diag
search_of address key = answer_of (λ n. search_at n key) (number_at address)

-- the record at a position, from 1 to the hits, in a syntax and an element set, or the diagnostic
-- of the whole
abbrev pub record_of : Address → SetKey → ℕ → Option (List ℕ) → Option (List ℕ) → Result Item Diag
record_of address key position syntax element =
    answer_of (λ n. record_at n key position syntax element) (number_at address)

-- the answer to a scan of databases, or its diagnostic
abbrev pub scan_of : Address → List (List ℕ) → ScanAsk → Result ScanAnswer Diag
scan_of address names ask = answer_of (λ n. scan_at n names ask) (number_at address)
