-- Which legs a list of database names is, and where each goes (this project's own)
use Rattle.std.specs.Prelude.{ℕ, ◌==◌, not, List, [], ◌∷◌, length, Option, None, Some, option_map, option_and_then, filter, find}
use Rattle.std.specs.Prelude.{flat_map, is_none, slice_get, nat_lt, Result, Ok, Err, if◌then◌else◌}
use Rattle.std.specs.Str.{str_eq_ignore_ascii_case}
use Rattle.z_types.specs.Bounds.{most_databases, most_legs}
use Rattle.z_types.specs.declared.address.Address.{Address}
use Rattle.route_config.specs.declared.route.Route.{Route}
use Rattle.route_config.specs.declared.route.RouteLeg.{RouteLeg}
use Rattle.route_config.specs.declared.route.Database.{Database}
use Rattle.route_config.specs.declared.route.Class.{Class}
use Rattle.route_config.specs.Lookup.{database_named}
use Rattle.virt_db.specs.declared.fault.DbFault.{DbFault}
use Rattle.virt_db.specs.declared.fault.DbFault.TheVariants.{Unknown, TooMany}

-- ---- the legs of names

-- the names in order, one that was named before left out, in any case of ASCII letters
abbrev pub distinct : List (List ℕ) → List (List ℕ)
distinct [] = []
distinct (name ∷ names) =
    name ∷ filter (λ other. not (str_eq_ignore_ascii_case name other)) (distinct names)

-- the first name that is no virtual database
abbrev pub first_unknown : Route → List (List ℕ) → Option (List ℕ)
first_unknown route names = find (λ name. is_none (database_named route name)) names

-- why names of which each differs from the others are no databases: there is none, there are too
-- many, or one is not there
abbrev pub fault_among : Route → List (List ℕ) → Option DbFault
fault_among route names =
    if length names == 0 then Some (Unknown [])
    else if nat_lt most_databases (length names) then Some (TooMany (length names))
    else option_map Unknown (first_unknown route names)

-- why names are no databases
abbrev pub why_none : Route → List (List ℕ) → Option DbFault
why_none route names = fault_among route (distinct names)

-- the legs of a virtual database, by their places in the route
abbrev pub legs_behind : Option Database → List ℕ
legs_behind None = []
legs_behind (Some database) = database.legs

-- the legs of the virtual databases of names of which each differs from the others, in the order
-- named
abbrev pub legs_among : Route → List (List ℕ) → List ℕ
legs_among route names = flat_map (λ name. legs_behind (database_named route name)) names

-- the legs of the virtual databases of these names, in the order named
abbrev pub legs_of : Route → List (List ℕ) → List ℕ
legs_of route names = legs_among route (distinct names)

-- legs that are not too many
abbrev pub few_legs : List ℕ → Result (List ℕ) DbFault
few_legs legs = if nat_lt most_legs (length legs) then Err (TooMany (length legs)) else Ok legs

-- ---- where a leg goes

-- what a leg is: the virtual database that it is of, the class that it goes to, the target that
-- answers for the class, which is its first member, and the databases that it is there
pub record LegAt : Type 0 where
  pub database : Database
  pub class : Class
  pub address : Address
  pub dbs : List (List ℕ)

-- a leg with its class and its database
abbrev pub leg_with : RouteLeg → Option Database → Option Class → Option LegAt
leg_with leg (Some database) (Some class) =
    option_map (λ address.
    record { database = database; class = class; address = address; dbs = leg.databases })
    (slice_get class.addresses 0)
leg_with leg _ _ = None

-- the leg at a place of the route
abbrev pub leg_at : Route → ℕ → Option LegAt
leg_at route place =
    option_and_then (λ leg.
    leg_with leg (slice_get route.databases leg.database) (slice_get route.classes leg.class))
    (slice_get route.legs place)
