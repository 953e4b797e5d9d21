-- What a scan of the test target n answers (this project's own; ANSI/NISO Z39.50-2003, ScanRequest
-- and ListEntries)
use Rattle.std.specs.Prelude.{ℕ, ◌+◌, ◌-◌, List, [], ◌∷◌, length, map, count_by, take, drop, min, max, Option, Some, None, unwrap_or, Result, nat_lt, if◌then◌else◌}
use Rattle.std.specs.List.{range_with_len}
use Rattle.std.specs.Ordering.{is_lt, nat_cmp}
use Rattle.std.specs.Cmp.Lexicographic.{slice_cmp}
use Rattle.std.specs.Option.{option_or}
use Rattle.z_types.specs.Tree.{leaf}
use Rattle.z_types.specs.declared.query.Attr.{Attr}
use Rattle.z_types.specs.declared.query.Term.{Term}
use Rattle.z_types.specs.declared.query.Term.TheVariants.{General}
use Rattle.z_types.specs.declared.scan.ScanAsk.{ScanAsk}
use Rattle.z_types.specs.declared.scan.ScanEntry.{ScanEntry}
use Rattle.z_types.specs.declared.scan.ScanAnswer.{ScanAnswer}
use Rattle.z_types.specs.declared.diagnostic.Diag.{Diag}
use Rattle.test_target.specs.Operands.{octets_of}
use Rattle.test_target.specs.Searches.{hits, database_fault, operand_fault, answer_unless}

-- the terms of each index, a to z
abbrev pub letters : List ℕ
letters = range_with_len 97 26

-- how many terms are below the asked one, octet by octet
abbrev pub terms_below : Term → ℕ
terms_below term =
    count_by (λ letter. is_lt (slice_cmp nat_cmp (letter ∷ []) (octets_of term))) letters

-- the position that is preferred for the asked term, 1 where absent, brought into 1 to the number
-- asked for
abbrev pub preferred : ScanAsk → ℕ
preferred ask = min (max (unwrap_or ask.position 1) 1) (max ask.number 1)

-- the number of the first entry's term, counted from 0
abbrev pub first_term : ScanAsk → ℕ
first_term ask = (terms_below ask.term + 1) - preferred ask

-- a term, and how many records it finds
abbrev pub entry_of : ℕ → List (List ℕ) → List Attr → ℕ → ScanEntry
entry_of n names attrs letter =
    record {
      term = General (letter ∷ []);
      occurrences = Some (hits n (leaf attrs (General (letter ∷ []))) names);
    }

-- the entries, at most as many as asked for
abbrev pub entries_of : ℕ → List (List ℕ) → ScanAsk → List ScanEntry
entries_of n names ask =
    map (entry_of n names ask.attrs) (take ask.number (drop (first_term ask) letters))

-- the place, counted from 1, of a term that has `before` others before it among `count` entries,
-- where it is one of them
abbrev pub place_among : ℕ → ℕ → Option ℕ
place_among before count = if nat_lt before count then Some (before + 1) else None

-- the place of the asked term among the first entries, where it is one of them
abbrev pub position_among : ScanAsk → ℕ → Option ℕ
position_among ask count = place_among (terms_below ask.term - first_term ask) count

-- the entries, and the place of the asked term among them
abbrev pub scan_answer : ℕ → List (List ℕ) → ScanAsk → ScanAnswer
scan_answer n names ask = record {
  position = position_among ask (length (entries_of n names ask));
  entries = entries_of n names ask;
}

-- the entries of a scan, or the diagnostic of its databases, or else of its operand
abbrev pub scan_at : ℕ → List (List ℕ) → ScanAsk → Result ScanAnswer Diag
scan_at n names ask =
    answer_unless (option_or (database_fault n names) (operand_fault (leaf ask.attrs ask.term)))
    (scan_answer n names ask)
