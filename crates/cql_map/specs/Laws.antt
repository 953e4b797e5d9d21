-- What is true of every query (this project's own)
use Rattle.std.specs.Prelude.{◌≡◌, List, [], Some}
use Rattle.z_types.specs.Tree as rpn
use Rattle.route_config.specs.declared.route.Index.{Index}
use Rattle.cql_parse.specs.Tree.{Tree}
use Rattle.cql_map.specs.Faults.{all_faults}
use Rattle.cql_map.specs.Mapped.{mapped}

-- a query without a fault is mapped
abbrev pub IsMappedUnlessFaulty : List Index → Tree → Type 0
IsMappedUnlessFaulty indexes q =
    all_faults indexes q ≡ [] → (root : rpn.Tree) × (mapped indexes q ≡ Some root)
