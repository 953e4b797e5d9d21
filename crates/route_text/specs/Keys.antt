-- The keys of a configuration (this project's own): the one table from which every refusal of a key
-- is read.
use Rattle.std.specs.Prelude.{ℕ, List, [], ◌∷◌, codes, pos, Bool, false}
use Rattle.z_types.specs.Bounds.{most_number}
use Rattle.toml.specs.Data.{Data, string, integer, boolean, array, table, no_items, item, no_members, member}
use Rattle.route_text.specs.declared.rule.TextRule.TheVariants.{Any, Name, DatabaseName, UpTo, IndexName, UserName, Effect}
use Rattle.route_text.specs.Kinds.{Need, required, default, Text, Address, Number, Flag, Array, Table, Keys, keys}

-- the defaults: an integer, no items, an empty table
abbrev pub number : ℕ → Need
number n = default (integer (pos n))

abbrev pub flag : Bool → Need
flag b = default (boolean b)

abbrev pub nothing : Need
nothing = default (array no_items)

abbrev pub empty : Need
empty = default (table no_members)

unfoldable pub target_keys : Keys
target_keys = keys (
    (codes "name", required, Text Name) ∷
    (codes "address", required, Address) ∷ [])

unfoldable pub group_keys : Keys
group_keys = keys (
    (codes "name", required, Text Name) ∷
    (codes "targets", required, Array 1 16 (Text Any)) ∷ [])

unfoldable pub leg_keys : Keys
leg_keys = keys (
    (codes "via", required, Text Any) ∷
    (codes "databases", required, Array 1 16 (Text (UpTo 64))) ∷ [])

unfoldable pub database_keys : Keys
database_keys = keys (
    (codes "name", required, Text DatabaseName) ∷
    (codes "hide_errors", flag false, Flag) ∷
    (codes "leg", required, Array 1 16 (Table leg_keys)) ∷ [])

unfoldable pub pool_keys : Keys
pool_keys = keys (
    (codes "max_sessions", number 64, Number 1 1000) ∷
    (codes "sets_max", number 10, Number 1 100) ∷
    (codes "session_ttl", number 300, Number 1 86400) ∷
    (codes "set_ttl", number 60, Number 1 86400) ∷
    (codes "repeats", number 2, Number 0 10) ∷
    (codes "patience", number 1000, Number 1 1000000) ∷ [])

unfoldable pub limit_keys : Keys
limit_keys = keys (
    (codes "units", number 100000, Number 1 1000000) ∷
    (codes "searches", number 10000, Number 1 1000000) ∷
    (codes "records", number 100000, Number 1 1000000) ∷
    (codes "sets", number 32, Number 1 1000) ∷ [])

unfoldable pub index_keys : Keys
index_keys = keys (
    (codes "name", required, Text IndexName) ∷
    (codes "use", required, Number 0 most_number) ∷ [])

unfoldable pub schema_keys : Keys
schema_keys = keys (
    (codes "name", required, Text (UpTo 128)) ∷
    (codes "uri", required, Text (UpTo 128)) ∷
    (codes "element", required, Text (UpTo 128)) ∷ [])

unfoldable pub user_keys : Keys
user_keys = keys (
    (codes "name", required, Text UserName) ∷
    (codes "password", required, Text (UpTo 64)) ∷ [])

unfoldable pub rule_keys : Keys
rule_keys = keys (
    (codes "name", required, Text Name) ∷
    (codes "effect", required, Text Effect) ∷
    (codes "user", required, Text (UpTo 64)) ∷
    (codes "databases", required, Array 1 64 (Text (UpTo 64))) ∷ [])

unfoldable pub cache_keys : Keys
cache_keys = keys (
    (codes "records", number 0, Number 0 10000) ∷
    (codes "record_bytes", number 4096, Number 1 65536) ∷ [])

-- an index and a schema, as the file would write them
abbrev pub index : List ℕ → ℕ → Data
index name use_attribute =
    table (member (codes "name") (string name)
    (member (codes "use") (integer (pos use_attribute)) no_members))

abbrev pub schema : List ℕ → List ℕ → List ℕ → Data
schema name uri element = table (
    member (codes "element") (string element) (
    member (codes "name") (string name) (
    member (codes "uri") (string uri) no_members)))

-- the indexes and the schema where the file has none
unfoldable pub default_indexes : Data
default_indexes = array (
    item (index (codes "dc.title") 4) (
    item (index (codes "dc.creator") 1003) (
    item (index (codes "dc.subject") 21) (
    item (index (codes "bath.isbn") 7) (
    item (index (codes "bath.issn") 8) (
    item (index (codes "cql.anywhere") 1016) no_items))))))

unfoldable pub default_schemas : Data
default_schemas =
    array (item (schema (codes "dc") (codes "info:srw/schema/1/dc-v1.1") (codes "dc")) no_items)

-- the whole file
unfoldable pub top_keys : Keys
top_keys = keys (
    (codes "target", required, Array 1 64 (Table target_keys)) ∷
    (codes "group", nothing, Array 0 64 (Table group_keys)) ∷
    (codes "database", required, Array 1 64 (Table database_keys)) ∷
    (codes "pool", empty, Table pool_keys) ∷
    (codes "limit", empty, Table limit_keys) ∷
    (codes "index", default default_indexes, Array 0 64 (Table index_keys)) ∷
    (codes "schema", default default_schemas, Array 1 16 (Table schema_keys)) ∷
    (codes "user", nothing, Array 0 1000 (Table user_keys)) ∷
    (codes "rule", nothing, Array 0 1000 (Table rule_keys)) ∷
    (codes "cache", empty, Table cache_keys) ∷ [])
