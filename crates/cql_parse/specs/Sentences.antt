-- What is printed of tokens that are no query that is taken (this project's own).
use Rattle.std.specs.Prelude.{ℕ, List, ◌++◌, codes}
use Rattle.std.specs.Fmt.{decimal}
use Rattle.cql_parse.specs.declared.fault.ParseFault.{ParseFault}
use Rattle.cql_parse.specs.declared.fault.ParseFault.TheVariants.{Syntax, TooDeep, Memory}

-- its rule, with its place
abbrev pub sentence : ParseFault → List ℕ
sentence (Syntax place) = codes "no query goes on so at octet " ++ decimal place
sentence TooDeep = codes "nested too deep"
sentence Memory = codes "out of memory"
