-- When the lexer refuses a text (CQL 1.2; RFC 3629 for UTF-8). Whether it is UTF-8 is asked first.
use Rattle.std.specs.Prelude.{ℕ, ◌≤◌, List, length, take}
use Rattle.std.specs.Str.{IsUtf8}
use Rattle.cql_lex.specs.Tokens.{IsUnclosed}
use Rattle.cql_lex.specs.declared.fault.LexFault.{LexFault}
use Rattle.cql_lex.specs.declared.fault.LexFault.TheVariants.{OpenQuote, NotUtf8, Memory}

-- the longest prefix that is UTF-8 has this length
abbrev pub IsUtf8UpTo : List ℕ → ℕ → Type 0
IsUtf8UpTo text len =
    (len ≤ length text) × IsUtf8 (take len text)
    × ((longer : ℕ) → longer ≤ length text → IsUtf8 (take longer text) → longer ≤ len)

-- this is why the text has no tokens
abbrev pub IsRefusal : List ℕ → LexFault → Type 0
IsRefusal text Memory = Unit {0}
IsRefusal text (NotUtf8 len) = (¬ (IsUtf8 text)) × IsUtf8UpTo text len
IsRefusal text (OpenQuote place) = IsUtf8 text × IsUnclosed text place
