-- What keys hold, or their defaults.
use Rattle.std.specs.Option.{option_or}
use Rattle.std.proofs.Common.{◌≡◌, ℕ, codes, List, Option, Some, None, option_map, unwrap_or, refl}
use Rattle.z_types.specs.declared.limits.Limits.{Limits}
use Rattle.z_types.specs.declared.schemas.Schema.{Schema}
use Rattle.route_config.specs.declared.route.Target.{Target}
use Rattle.route_config.specs.declared.route.PoolNumbers.{PoolNumbers}
use Rattle.route_config.specs.declared.route.Index.{Index}
use Rattle.route_config.specs.declared.route.User.{User}
use Rattle.route_config.specs.declared.route.Rule.{Rule}
use Rattle.route_config.specs.Smallest.{smallest_route}
use Rattle.toml.specs.Data.{Data, Members, as_table, get}
use Rattle.route_text.specs.declared.values.CacheNumbers.{CacheNumbers}
use Rattle.route_text.specs.declared.values.GroupValues.{GroupValues}
use Rattle.route_text.specs.declared.values.DatabaseValues.{DatabaseValues}
use Rattle.route_text.specs.Kinds.{required, default, Table, Keys, key_names}
use Rattle.route_text.specs.Keys.{empty, nothing, index_keys, schema_keys, top_keys, default_indexes, default_schemas}
use Rattle.route_text.specs.declared.fault.RouteFault.{RouteFault}
use Rattle.route_text.specs.Refusal.{refusal, of_keys, of_others}
use Rattle.route_text.specs.Values.{held, list, target_in, group_in, database_in, pool_in, limits_in, index_in, schema_in, user_in, rule_in, cache_in, values_in}

-- a list that is given where a key is not there, and is what its default is read as
pub held-list : {A : Type 0} (found : Data → A) (other : Data) (given : List A) (here : Option Data) → given ≡ list found other → unwrap_or (option_map (list found) here) given ≡ list found (held (default other) here)
held-list found other given None same = same
held-list found other given (Some value) same = refl

-- the indexes and schemas that a route has by itself are those of a file that has none
pub indexes-held : smallest_route.indexes ≡ list index_in default_indexes
unfolding index_keys default_indexes index_in
indexes-held = refl

pub schemas-held : smallest_route.schemas ≡ list schema_in default_schemas
unfolding schema_keys default_schemas schema_in
schemas-held = refl

-- the values of a file, one by one
pub values-in : (file : Data) (targets : List Target) (groups : List GroupValues) (databases : List DatabaseValues) (pool : PoolNumbers) (limits : Limits) (indexes : List Index) (schemas : List Schema) (users : List User) (rules : List Rule) (cache : CacheNumbers)
    → targets ≡ list target_in (held required (get (codes "target") file))
    → groups ≡ list group_in (held nothing (get (codes "group") file))
    → databases ≡ list database_in (held required (get (codes "database") file))
    → pool ≡ pool_in (held empty (get (codes "pool") file))
    → limits ≡ limits_in (held empty (get (codes "limit") file))
    → indexes ≡ list index_in (held (default default_indexes) (get (codes "index") file))
    → schemas ≡ list schema_in (held (default default_schemas) (get (codes "schema") file))
    → users ≡ list user_in (held nothing (get (codes "user") file))
    → rules ≡ list rule_in (held nothing (get (codes "rule") file))
    → cache ≡ cache_in (held empty (get (codes "cache") file))
    → record { targets = targets; groups = groups; databases = databases; pool = pool; limits = limits; indexes = indexes; schemas = schemas; users = users; rules = rules; cache = cache } ≡ values_in file
unfolding top_keys values_in
values-in file targets groups databases pool limits indexes schemas users rules cache a b c d e f g h i j = rw (a, b, c, d, e, f, g, h, i, j)

-- of two refusals, one after the other, there is none where each is none
pub both : {one other : Option RouteFault} → one ≡ None → other ≡ None → option_or one other ≡ None
both first second = rw (first, second)

-- a table with its members is refused for nothing where neither its keys nor others are
pub passes : (keys : Keys) (path : List ℕ) (value : Data) (members : Members) → as_table value ≡ Some members → of_keys keys path value ≡ None → of_others (key_names keys) path members ≡ None → refusal (Table keys) path value ≡ None
passes rows path value inside here keys others = rw (here, keys, others)
