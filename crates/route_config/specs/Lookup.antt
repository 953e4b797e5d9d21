-- What stands at the places of a route (this project's own)
use Rattle.std.specs.Prelude.{ℕ, List, Option, find, map, slice_get}
use Rattle.std.specs.Str.{str_eq_ignore_ascii_case}
use Rattle.std.specs.Option.{option_and_then}
use Rattle.z_types.specs.declared.address.Address.{Address}
use Rattle.route_config.specs.declared.route.Route.{Route}
use Rattle.route_config.specs.declared.route.Database.{Database}

-- the first virtual database of that name, in any case of ASCII letters
abbrev pub database_named : Route → List ℕ → Option Database
database_named route name =
    find (λ database. str_eq_ignore_ascii_case database.name name) route.databases

-- the address of the first member of a class
abbrev pub first_address : Route → ℕ → Option Address
first_address route place =
    option_and_then (λ class. slice_get class.addresses 0) (slice_get route.classes place)

-- the names of the targets, in order
abbrev pub target_names : Route → List (List ℕ)
target_names route = map (λ target. target.name) route.targets
