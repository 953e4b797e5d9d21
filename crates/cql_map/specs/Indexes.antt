-- The Use attribute of an index (CQL 1.2, context sets; which indexes there are is the route's).
use Rattle.std.specs.Prelude.{ℕ, ◌||◌, Bool, List, [], ◌∷◌, ◌++◌, codes, Option, Some, None, if◌then◌else◌}
use Rattle.route_config.specs.declared.route.Index.{Index}
use Rattle.cql_map.specs.Names.{is_same_name, has_dot, has_prefix}
use Rattle.cql_map.specs.Bib1.{anywhere}

-- that of the first index of this name
abbrev pub use_in : List Index → List ℕ → Option ℕ
use_in [] name = None
use_in (i ∷ rest) name = if is_same_name i.name name then Some i.value else use_in rest name

-- cql.serverChoice is the same for every route
abbrev pub use_named : List Index → List ℕ → Option ℕ
use_named indexes name =
    if is_same_name (codes "cql.serverChoice") name then Some anywhere else use_in indexes name

-- the first of two, or the second where there is none
abbrev pub or_else : Option ℕ → Option ℕ → Option ℕ
or_else None other = other
or_else (Some value) other = Some value

-- an index without a prefix is one of dc, else of cql
abbrev pub use_of : List Index → List ℕ → Option ℕ
use_of indexes name =
    if has_dot name then use_named indexes name
    else or_else (use_named indexes (codes "dc." ++ name))
    (use_named indexes (codes "cql." ++ name))

-- some index has this prefix, or it is cql
abbrev pub is_known_prefix : List Index → List ℕ → Bool
is_known_prefix [] prefix = is_same_name (codes "cql") prefix
is_known_prefix (i ∷ rest) prefix = has_prefix i.name prefix || is_known_prefix rest prefix
