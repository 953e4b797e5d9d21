-- The numbers of the parser's refusals (this project's own).
use Rattle.std.specs.Prelude.{ℕ}
use Rattle.cql_parse.specs.declared.fault.ParseFault.{ParseFault}
use Rattle.cql_parse.specs.declared.fault.ParseFault.TheVariants.{Syntax, TooDeep, Memory}

-- 1 no query, 2 a query nested too deep, 0 want of memory
abbrev pub fault_number : ParseFault → ℕ
fault_number Memory = 0
fault_number (Syntax place) = 1
fault_number TooDeep = 2
