use Rattle.std.proofs.Common.{◌≡◌, ◌++◌, drop}
use Rattle.cql_map.specs.Indexes.{use_in}
use Rattle.cql_map.proofs.index.use_in.Given as goal

-- no index of this name is passed
abbrev pub invariant-loop-index : goal.invariant-loop-index
invariant-loop-index l = use_in (drop l.index-index l.indexes) (l.prefix ++ l.name) ≡ use_in l.indexes (l.prefix ++ l.name)
