-- What every route keeps (this project's own): its numbers are in their ranges, its lists in their
-- sizes, a place is one of the list that it is a place of, and rules name users and databases that
-- are there.
use Rattle.std.specs.Prelude.{ℕ, ◌<◌, ◌≤◌, List, length, All, IsTrue}
use Rattle.z_types.specs.Bounds.{most_number}
use Rattle.z_types.specs.declared.address.Address.{Address}
use Rattle.z_types.specs.declared.address.Address.TheVariants.{Test, Tcp, Login}
use Rattle.z_types.specs.declared.limits.Limits.{Limits}
use Rattle.route_config.specs.declared.route.PoolNumbers.{PoolNumbers}
use Rattle.z_types.specs.declared.schemas.Schema.{Schema}
use Rattle.route_config.specs.declared.route.Target.{Target}
use Rattle.route_config.specs.declared.route.Group.{Group}
use Rattle.route_config.specs.declared.route.Database.{Database}
use Rattle.route_config.specs.declared.route.RouteLeg.{RouteLeg}
use Rattle.route_config.specs.declared.route.Index.{Index}
use Rattle.route_config.specs.declared.route.User.{User}
use Rattle.route_config.specs.declared.route.Rule.{Rule}
use Rattle.route_config.specs.declared.route.RouteParts.{RouteParts}
use Rattle.route_config.specs.Names.{is_name, is_database_name, is_index_name, is_user_name}
use Rattle.route_config.specs.Rules.{NameUsers, NameDatabases}

-- a number from one to another
abbrev pub IsFrom : ℕ → ℕ → ℕ → Type 0
IsFrom low high n = (low ≤ n) × (n ≤ high)

-- `low` to `high` items
abbrev pub HasFrom : {A : Type 0} → ℕ → ℕ → List A → Type 0
HasFrom low high items = IsFrom low high (length items)

pub record ArePoolNumbers (pool : PoolNumbers) : Type 0 where
  pub max_sessions : IsFrom 1 1000 pool.max_sessions
  pub sets_max : IsFrom 1 100 pool.sets_max
  pub session_ttl : IsFrom 1 86400 pool.session_ttl
  pub set_ttl : IsFrom 1 86400 pool.set_ttl
  pub repeats : IsFrom 0 10 pool.repeats
  pub patience : IsFrom 1 1000000 pool.patience
  pub order : pool.set_ttl ≤ pool.session_ttl

pub record AreLimits (limits : Limits) : Type 0 where
  pub units : IsFrom 1 1000000 limits.units
  pub searches : IsFrom 1 1000000 limits.searches
  pub records : IsFrom 1 1000000 limits.records
  pub sets : IsFrom 1 1000 limits.sets

-- places below a number
abbrev pub AllBelow : ℕ → List ℕ → Type 0
AllBelow n places = All (λ place. place < n) places

pub record KeepsPlaces (route : RouteParts) : Type 0 where
  pub members : All (λ group. AllBelow (length route.targets) group.targets) route.groups
  pub legs : All (λ database. AllBelow (length route.legs) database.legs) route.databases
  pub databases : All (λ leg. leg.database < length route.databases) route.legs
  pub classes : All (λ leg. leg.class < length route.classes) route.legs

pub record KeepsSizes (route : RouteParts) : Type 0 where
  pub targets : HasFrom 1 64 route.targets
  pub groups : HasFrom 0 64 route.groups
  pub databases : HasFrom 1 64 route.databases
  pub indexes : HasFrom 0 64 route.indexes
  pub schemas : HasFrom 1 16 route.schemas
  pub users : HasFrom 0 1000 route.users
  pub rules : HasFrom 0 1000 route.rules

-- the number of a test target, or a host and a port, inside no login
abbrev pub IsAddress : Address → Type 0
IsAddress (Test number) = number ≤ 999999
IsAddress (Tcp host port) = HasFrom 1 64 host × IsFrom 1 65535 port
IsAddress (Login at login) = ⊥

abbrev pub IsTarget : Target → Type 0
IsTarget target = IsTrue (is_name target.name) × IsAddress target.address

-- a name, and 1 to 16 members
abbrev pub IsGroup : Group → Type 0
IsGroup group = IsTrue (is_name group.name) × HasFrom 1 16 group.targets

-- a name, and 1 to 16 legs
abbrev pub IsDatabase : Database → Type 0
IsDatabase database = IsTrue (is_database_name database.name) × HasFrom 1 16 database.legs

-- 1 to 16 databases of 1 to 64 octets
abbrev pub IsLeg : RouteLeg → Type 0
IsLeg leg = HasFrom 1 16 leg.databases × All (HasFrom 1 64) leg.databases

-- a name, and a Use attribute
abbrev pub IsIndex : Index → Type 0
IsIndex index = IsTrue (is_index_name index.name) × (index.value ≤ most_number)

-- texts of 1 to 128 octets
abbrev pub IsSchema : Schema → Type 0
IsSchema schema =
    HasFrom 1 128 schema.name × HasFrom 1 128 schema.uri × HasFrom 1 128 schema.element

-- a name, and a password of 1 to 64 octets
abbrev pub IsUser : User → Type 0
IsUser user = IsTrue (is_user_name user.name) × HasFrom 1 64 user.password

-- a name, and 1 to 64 databases
abbrev pub IsRule : Rule → Type 0
IsRule rule = IsTrue (is_name rule.name) × HasFrom 1 64 rule.databases

pub record KeepsItems (route : RouteParts) : Type 0 where
  pub targets : All IsTarget route.targets
  pub groups : All IsGroup route.groups
  pub databases : All IsDatabase route.databases
  pub legs : All IsLeg route.legs
  pub classes : All (λ class. All IsAddress class.addresses) route.classes
  pub indexes : All IsIndex route.indexes
  pub schemas : All IsSchema route.schemas
  pub users : All IsUser route.users
  pub rules : All IsRule route.rules

-- each rule is for `*`, `anonymous` or a user, and for databases that are `*` or virtual databases
pub record KeepsRules (route : RouteParts) : Type 0 where
  pub users : NameUsers route.users route.rules
  pub databases : NameDatabases route.databases route.rules

-- how many records are kept, and of how many octets each
pub record AreCacheNumbers (route : RouteParts) : Type 0 where
  pub records : IsFrom 0 10000 route.cache_records
  pub record_bytes : IsFrom 1 65536 route.cache_record_bytes

pub record IsSound (route : RouteParts) : Type 0 where
  pub places : KeepsPlaces route
  pub sizes : KeepsSizes route
  pub items : KeepsItems route
  pub pool : ArePoolNumbers route.pool
  pub limits : AreLimits route.limits
  pub rules : KeepsRules route
  pub cache : AreCacheNumbers route
