-- The route of the values (this project's own): names become places.
use Rattle.std.specs.Prelude.{ℕ, ◌+◌, if◌then◌else◌, List, [], ◌∷◌, ◌++◌, map, length}
use Rattle.std.specs.Option.{unwrap_or, option_map}
use Rattle.std.specs.List.{find, position, range_with_len}
use Rattle.z_types.specs.declared.address.Address.{Address}
use Rattle.z_types.specs.declared.address.Address.TheVariants.{Test}
use Rattle.route_config.specs.declared.route.Target.{Target}
use Rattle.route_config.specs.declared.route.Group.{Group}
use Rattle.route_config.specs.declared.route.Database.{Database}
use Rattle.route_config.specs.declared.route.RouteLeg.{RouteLeg}
use Rattle.route_config.specs.declared.route.Class.{Class}
use Rattle.route_config.specs.declared.route.Route.{Route}
use Rattle.route_text.specs.declared.values.GroupValues.{GroupValues}
use Rattle.route_text.specs.declared.values.LegValues.{LegValues}
use Rattle.route_text.specs.declared.values.DatabaseValues.{DatabaseValues}
use Rattle.route_text.specs.declared.values.Values.{Values}
use Rattle.z_types.specs.Same.{is_same}
use Rattle.route_text.specs.Whole.{target_names, vias, is_among}

-- the place of a name
abbrev pub place_of : List (List ℕ) → List ℕ → ℕ
place_of names name = unwrap_or (position (is_same name) names) 0

-- of names in order, those that come for the first time after some that are known
abbrev pub firsts : List (List ℕ) → List (List ℕ) → List (List ℕ)
firsts known [] = []
firsts known (name ∷ names) =
    if is_among known name then firsts known names else name ∷ firsts (known ++ name ∷ []) names

-- the names, and another where it is not among them
abbrev pub with_name : List (List ℕ) → List ℕ → List (List ℕ)
with_name known name = if is_among known name then known else known ++ name ∷ []

-- the targets and groups that legs go to, in the order in which legs first name them
abbrev pub class_names : Values → List (List ℕ)
class_names values = firsts [] (vias values)

abbrev pub group_of : List (List ℕ) → GroupValues → Group
group_of targets group =
    record { name = group.name; targets = map (place_of targets) group.targets }

-- the address of the target of a name; any where there is none, which is refused
abbrev pub address_of : List Target → List ℕ → Address
address_of targets name =
    unwrap_or (option_map (λ target. target.address)
    (find (λ target. is_same name target.name) targets)) (Test 0)

-- whom a leg goes to by a name: the group's members, or the target itself
abbrev pub members_of : List GroupValues → List ℕ → List (List ℕ)
members_of groups name =
    unwrap_or (option_map (λ group. group.targets) (find (λ group. is_same name group.name) groups))
    (name ∷ [])

-- their addresses
abbrev pub addresses_of : Values → List ℕ → List Address
addresses_of values name = map (address_of values.targets) (members_of values.groups name)

abbrev pub class_of : Values → List ℕ → Class
class_of values name = record { name = name; addresses = addresses_of values name }

-- the databases, whose legs have the places from one on
abbrev pub databases_from : ℕ → List DatabaseValues → List Database
databases_from first [] = []
databases_from first (database ∷ rest) =
    record {
      name = database.name;
      hide_errors = database.hide_errors;
      legs = range_with_len first (length database.legs);
    }
    ∷ databases_from (first + length database.legs) rest

abbrev pub leg_of : List (List ℕ) → ℕ → LegValues → RouteLeg
leg_of classes place leg =
    record { database = place; class = place_of classes leg.via; databases = leg.databases }

-- the legs of the databases, which have the places from one on
abbrev pub legs_from : List (List ℕ) → ℕ → List DatabaseValues → List RouteLeg
legs_from classes place [] = []
legs_from classes place (database ∷ rest) =
    map (leg_of classes place) database.legs ++ legs_from classes (place + 1) rest

unfoldable pub route_of : Values → Route
route_of values = record {
  targets = values.targets;
  groups = map (group_of (target_names values)) values.groups;
  databases = databases_from 0 values.databases;
  legs = legs_from (class_names values) 0 values.databases;
  classes = map (class_of values) (class_names values);
  pool = values.pool;
  limits = values.limits;
  indexes = values.indexes;
  schemas = values.schemas;
  users = values.users;
  rules = values.rules;
  cache_records = values.cache.records;
  cache_record_bytes = values.cache.record_bytes;
}
