use Rattle.std.proofs.Common.{◌≡◌, ◌++◌, take, drop}
use Rattle.cql_map.specs.Names.{has_dot, prefix_of}
use Rattle.cql_map.proofs.index.prefix_of.Given as goal

-- what is passed has no dot
abbrev pub invariant-loop-index : goal.invariant-loop-index
invariant-loop-index l =
    (has_dot (drop l.index l.name) ≡ has_dot l.name) × (take l.index l.name ++ prefix_of (drop l.index l.name) ≡ prefix_of l.name)
