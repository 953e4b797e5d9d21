use Rattle.std.proofs.Common.{◌≡◌, drop}
use Rattle.cql_map.specs.Indexes.{is_known_prefix}
use Rattle.cql_map.proofs.index.is_known_prefix.Given as goal

-- no index of this prefix is passed
abbrev pub invariant-loop-index : goal.invariant-loop-index
invariant-loop-index l = is_known_prefix (drop l.index-index l.indexes) l.prefix ≡ is_known_prefix l.indexes l.prefix
