-- The numbers of the lexer's refusals (this project's own).
use Rattle.std.specs.Prelude.{ℕ}
use Rattle.cql_lex.specs.declared.fault.LexFault.{LexFault}
use Rattle.cql_lex.specs.declared.fault.LexFault.TheVariants.{OpenQuote, NotUtf8, Memory}

-- 1 a string or a backslash without its end, 2 no UTF-8, 0 want of memory
abbrev pub fault_number : LexFault → ℕ
fault_number Memory = 0
fault_number (OpenQuote place) = 1
fault_number (NotUtf8 len) = 2
