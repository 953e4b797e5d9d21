-- What a scan answers, part by part.
use Rattle.std.proofs.Common.{◌≡◌, ◌∙◌, ◌+◌, ◌-◌, ℕ, List, Option, length, map, take, drop, ap}
use Rattle.z_types.specs.declared.scan.ScanAnswer.{ScanAnswer}
use Rattle.z_types.specs.declared.scan.ScanAsk.{ScanAsk}
use Rattle.z_types.specs.declared.scan.ScanEntry.{ScanEntry}
use Rattle.test_target.specs.Scans.{scan_answer, entries_of, entry_of, first_term, letters, place_among, position_among, preferred, terms_below}

-- the parts of an answer
abbrev pub answer_with : Option ℕ → List ScanEntry → ScanAnswer
answer_with position entries = record { position = position; entries = entries }

-- an answer of the right parts
pub answer_by : (n : ℕ) (names : List (List ℕ)) (ask : ScanAsk) (below wish first : ℕ) (entries : List ScanEntry)
    (position : Option ℕ) → below ≡ terms_below ask.term → wish ≡ preferred ask → first ≡ below + 1 - wish
    → entries ≡ map (entry_of n names ask.attrs) (take ask.number (drop first letters))
    → position ≡ place_among (below - first) (length entries) → answer_with position entries ≡ scan_answer n names ask
answer_by n names ask below wish first entries position is_below is_wish is_first are_entries is_position =
    let is_term : first ≡ first_term ask = is_first ∙ (λ i. is_below i + 1 - is_wish i) in
    let are_all : entries ≡ entries_of n names ask =
    are_entries ∙ ap (λ (k : ℕ). map (entry_of n names ask.attrs) (take ask.number (drop k letters))) is_term in
    let is_place : position ≡ position_among ask (length (entries_of n names ask)) =
    is_position ∙ (λ i. place_among (is_below i - is_term i) (length (are_all i))) in
    λ i. answer_with (is_place i) (are_all i)
