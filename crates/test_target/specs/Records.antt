-- The records of the test target n (this project's own)
use Rattle.std.specs.Prelude.{ℕ, ◌-◌, ◌<◌, ◌==◌, ◌&&◌, ◌||◌, List, [], ◌∷◌, ◌++◌, length, Option, Some, None, Result, Ok, Err, codes, slice_get, if◌then◌else◌}
use Rattle.std.specs.Fmt.{decimal}
use Rattle.z_types.specs.declared.key.SetKey.{SetKey}
use Rattle.z_types.specs.declared.diagnostic.Diag.{Diag}
use Rattle.z_types.specs.declared.records.Item.{Item}
use Rattle.z_types.specs.declared.records.Item.TheVariants.{Surrogate}
use Rattle.z_types.specs.Bib1.{bib1}
use Rattle.z_types.specs.declared.conditions.Condition.TheVariants.{TemporarySystemError, PresentRequestOutOfRange, ElementSetNameNotValid}
use Rattle.gw_outside.specs.declared.targets.TargetAnswer.{TargetAnswer}
use Rattle.gw_outside.specs.declared.targets.TargetAnswer.TheVariants.{Good, Refused, Memory}
use Rattle.test_target.specs.declared.places.Location.{Location}
use Rattle.test_target.specs.declared.syntaxes.Syntax.{Syntax}
use Rattle.z_types.specs.Same.{is_same}
use Rattle.test_target.specs.Places.{places}
use Rattle.test_target.specs.Syntaxes.{syntax_in, in_syntax}

-- the full text of a record: the target, the database and the record's number
abbrev pub full_text : ℕ → Location → List ℕ
full_text n place =
    decimal n ++ 46 ∷ [] ++ place.name ++ 46 ∷ [] ++ decimal place.number

-- the text of a record in an element set: F, dc and none are full, B is the number, and there is no
-- other
abbrev pub text_in : ℕ → Location → Option (List ℕ) → Result (List ℕ) Diag
text_in n place None = Ok (full_text n place)
text_in n place (Some element) =
    if is_same element (codes "F") || is_same element (codes "dc") then Ok (full_text n place)
    else (if is_same element (codes "B") then Ok (decimal place.number)
    else Err (bib1 ElementSetNameNotValid element))

-- a text that has a length of one octet, where there is one
abbrev pub IsShort : TargetAnswer (List ℕ) → Type 0
IsShort (Good text) = length text < 128
IsShort (Refused diag) = Unit {0}
IsShort Memory = Unit {0}

-- record 13 of Default is a diagnostic in its place
abbrev pub shown_at : Location → Item → Item
shown_at place item =
    if is_same place.name (codes "Default") && (place.number == 13)
    then Surrogate (bib1 TemporarySystemError (codes "13")) else item

-- the record in its form, or the diagnostic of its syntax, or else of its element set
abbrev pub written : Location → Result Syntax Diag → Result (List ℕ) Diag → Result Item Diag
written place (Err diag) text = Err diag
written place (Ok syntax) (Err diag) = Err diag
written place (Ok syntax) (Ok text) = Ok (shown_at place (in_syntax syntax text))

-- what is answered for a place; there is none past the hits
abbrev pub record_in : ℕ → Option Location → Option (List ℕ) → Option (List ℕ) → Result Item Diag
record_in n None syntax element = Err (bib1 PresentRequestOutOfRange [])
record_in n (Some place) syntax element = written place (syntax_in syntax) (text_in n place element)

-- the record at a position, counted from 1, in a syntax and an element set
abbrev pub record_at : ℕ → SetKey → ℕ → Option (List ℕ) → Option (List ℕ) → Result Item Diag
record_at n key position syntax element =
    record_in n (slice_get (places n key) (position - 1)) syntax element
