-- The values of the keys (this project's own): what each key holds, or its default.
use Rattle.std.specs.Prelude.{ℕ, nat_abs, Bool, false, List, [], ◌∷◌, Option, Some, None, codes, if◌then◌else◌}
use Rattle.std.specs.Option.{option_map, unwrap_or}
use Rattle.toml.specs.Data.{Data, boolean, Items, no_items, item, get, as_str, as_integer, as_bool, as_array}
use Rattle.z_types.specs.declared.address.Address.{Address}
use Rattle.z_types.specs.declared.address.Address.TheVariants.{Test}
use Rattle.z_types.specs.declared.limits.Limits.{Limits}
use Rattle.z_types.specs.declared.schemas.Schema.{Schema}
use Rattle.route_config.specs.declared.route.Target.{Target}
use Rattle.route_config.specs.declared.route.PoolNumbers.{PoolNumbers}
use Rattle.route_config.specs.declared.route.Index.{Index}
use Rattle.route_config.specs.declared.route.User.{User}
use Rattle.route_config.specs.declared.route.Rule.{Rule}
use Rattle.route_text.specs.declared.values.CacheNumbers.{CacheNumbers}
use Rattle.route_text.specs.declared.values.GroupValues.{GroupValues}
use Rattle.route_text.specs.declared.values.LegValues.{LegValues}
use Rattle.route_text.specs.declared.values.DatabaseValues.{DatabaseValues}
use Rattle.route_text.specs.declared.values.Values.{Values}
use Rattle.z_types.specs.Same.{is_same}
use Rattle.route_text.specs.Texts.{address, is_allow}
use Rattle.route_text.specs.Kinds.{Need, required, default, Keys, no_keys, key}
use Rattle.route_text.specs.Keys.{target_keys, group_keys, leg_keys, database_keys, pool_keys}
use Rattle.route_text.specs.Keys.{limit_keys, index_keys, schema_keys, user_keys, rule_keys, cache_keys, top_keys}

-- what a key holds, or its default; any value where a required key is not there, which is refused
abbrev pub held : Need → Option Data → Data
held need (Some value) = value
held (default value) None = value
held required None = boolean false

-- whether the key of a name is needed
abbrev pub need_of : List ℕ → Keys → Need
need_of name no_keys = required
need_of name (key other need kind rest) = if is_same name other then need else need_of name rest

-- the value of a key, by the rows of its table
abbrev pub at : Keys → List ℕ → Data → Data
at keys name value = held (need_of name keys) (get name value)

-- values by their kinds; any where the kind is another, which is refused
abbrev pub text : Data → List ℕ
text value = unwrap_or (as_str value) []

abbrev pub number : Data → ℕ
number value = unwrap_or (option_map nat_abs (as_integer value)) 0

abbrev pub flag : Data → Bool
flag value = unwrap_or (as_bool value) false

abbrev pub list_of : {A : Type 0} → (Data → A) → Items → List A
list_of read no_items = []
list_of read (item value rest) = read value ∷ list_of read rest

abbrev pub list : {A : Type 0} → (Data → A) → Data → List A
list read value = list_of read (unwrap_or (as_array value) no_items)

-- the address that a text writes; any where it writes none, which is refused
abbrev pub address_in : Data → Address
address_in value = unwrap_or (address (text value)) (Test 0)

unfoldable pub target_in : Data → Target
target_in value = record {
  name = text (at target_keys (codes "name") value);
  address = address_in (at target_keys (codes "address") value);
}

unfoldable pub group_in : Data → GroupValues
group_in value = record {
  name = text (at group_keys (codes "name") value);
  targets = list text (at group_keys (codes "targets") value);
}

unfoldable pub leg_in : Data → LegValues
leg_in value = record {
  via = text (at leg_keys (codes "via") value);
  databases = list text (at leg_keys (codes "databases") value);
}

unfoldable pub database_in : Data → DatabaseValues
database_in value = record {
  name = text (at database_keys (codes "name") value);
  hide_errors = flag (at database_keys (codes "hide_errors") value);
  legs = list leg_in (at database_keys (codes "leg") value);
}

unfoldable pub pool_in : Data → PoolNumbers
pool_in value = record {
  max_sessions = number (at pool_keys (codes "max_sessions") value);
  sets_max = number (at pool_keys (codes "sets_max") value);
  session_ttl = number (at pool_keys (codes "session_ttl") value);
  set_ttl = number (at pool_keys (codes "set_ttl") value);
  repeats = number (at pool_keys (codes "repeats") value);
  patience = number (at pool_keys (codes "patience") value);
}

unfoldable pub limits_in : Data → Limits
limits_in value = record {
  units = number (at limit_keys (codes "units") value);
  searches = number (at limit_keys (codes "searches") value);
  records = number (at limit_keys (codes "records") value);
  sets = number (at limit_keys (codes "sets") value);
}

unfoldable pub index_in : Data → Index
index_in value = record {
  name = text (at index_keys (codes "name") value);
  value = number (at index_keys (codes "use") value);
}

unfoldable pub schema_in : Data → Schema
schema_in value = record {
  name = text (at schema_keys (codes "name") value);
  uri = text (at schema_keys (codes "uri") value);
  element = text (at schema_keys (codes "element") value);
}

unfoldable pub user_in : Data → User
user_in value = record {
  name = text (at user_keys (codes "name") value);
  password = text (at user_keys (codes "password") value);
}

unfoldable pub rule_in : Data → Rule
rule_in value = record {
  name = text (at rule_keys (codes "name") value);
  allow = is_allow (text (at rule_keys (codes "effect") value));
  user = text (at rule_keys (codes "user") value);
  databases = list text (at rule_keys (codes "databases") value);
}

unfoldable pub cache_in : Data → CacheNumbers
cache_in value = record {
  records = number (at cache_keys (codes "records") value);
  record_bytes = number (at cache_keys (codes "record_bytes") value);
}

-- the whole file
unfoldable pub values_in : Data → Values
values_in value = record {
  targets = list target_in (at top_keys (codes "target") value);
  groups = list group_in (at top_keys (codes "group") value);
  databases = list database_in (at top_keys (codes "database") value);
  pool = pool_in (at top_keys (codes "pool") value);
  limits = limits_in (at top_keys (codes "limit") value);
  indexes = list index_in (at top_keys (codes "index") value);
  schemas = list schema_in (at top_keys (codes "schema") value);
  users = list user_in (at top_keys (codes "user") value);
  rules = list rule_in (at top_keys (codes "rule") value);
  cache = cache_in (at top_keys (codes "cache") value);
}
