-- What the octets of a configuration are (this project's own): a route, or the first refusal.
use Rattle.std.specs.Prelude.{◌≡◌, ◌≢◌, ℕ, List, [], Option, Some, None, if◌then◌else◌, Result, Ok, Err}
use Rattle.std.specs.Option.{option_map, option_or}
use Rattle.std.specs.Str.{is_utf8}
use Rattle.toml.specs.Data.{Data, table}
use Rattle.toml.specs.Parse.{parse_document}
use Rattle.route_config.specs.declared.route.Route.{Route}
use Rattle.route_text.specs.declared.fault.RouteFault.{RouteFault}
use Rattle.route_text.specs.declared.fault.RouteFault.TheVariants.{Toml, Memory}
use Rattle.route_text.specs.Kinds.{Table}
use Rattle.route_text.specs.Keys.{top_keys}
use Rattle.route_text.specs.Refusal.{refusal}
use Rattle.route_text.specs.Values.{values_in}
use Rattle.route_text.specs.Whole.{of_whole}
use Rattle.route_text.specs.RouteOf.{route_of}

-- the table that octets write, where they are UTF-8 and TOML 1.1
abbrev pub tree_of : List ℕ → Option Data
tree_of octets = if is_utf8 octets then option_map table (parse_document octets) else None

-- the first refusal of a tree: of its keys, and then of the whole
abbrev pub first_fault : Data → Option RouteFault
first_fault tree = option_or (refusal (Table top_keys) [] tree) (of_whole (values_in tree))

-- a value, unless there is a refusal
abbrev pub value_or : {A : Type 0} → Option RouteFault → A → Result A RouteFault
value_or None value = Ok value
value_or (Some fault) value = Err fault

-- what is read from a tree, or from none
abbrev pub route_or_refusal : Option Data → Result Route RouteFault
route_or_refusal None = Err Toml
route_or_refusal (Some tree) = value_or (first_fault tree) (route_of (values_in tree))

-- the route of a configuration's octets, or their first refusal
abbrev pub configuration : List ℕ → Result Route RouteFault
configuration octets = route_or_refusal (tree_of octets)

-- it is read so; want of memory says nothing
abbrev pub IsConfiguration : List ℕ → Result Route RouteFault → Type 0
IsConfiguration octets result = result ≢ Err Memory → result ≡ configuration octets
