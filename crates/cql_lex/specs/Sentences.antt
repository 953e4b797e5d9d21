-- What is printed of a text that has no tokens (this project's own).
use Rattle.std.specs.Prelude.{ℕ, List, ◌++◌, codes}
use Rattle.std.specs.Fmt.{decimal}
use Rattle.cql_lex.specs.declared.fault.LexFault.{LexFault}
use Rattle.cql_lex.specs.declared.fault.LexFault.TheVariants.{OpenQuote, NotUtf8, Memory}

-- its rule, with its place
abbrev pub sentence : LexFault → List ℕ
sentence (OpenQuote place) = codes "what begins at octet " ++ decimal place ++ codes " has no end"
sentence (NotUtf8 len) = codes "no UTF-8 behind the first " ++ decimal len ++ codes " octets"
sentence Memory = codes "out of memory"
