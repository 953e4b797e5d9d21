-- What a configuration is refused for as a whole (this project's own), once each key by itself is
-- right.
use Rattle.std.specs.Prelude.{ℕ, nat_le, ◌||◌, Bool, true, false, not, List, [], ◌∷◌, ◌++◌, map, Option, Some, None, if◌then◌else◌}
use Rattle.std.specs.Option.{option_map, option_or}
use Rattle.std.specs.List.{find, list_any, flat_map}
use Rattle.std.specs.Str.{str_eq_ignore_ascii_case}
use Rattle.route_text.specs.declared.fault.RouteFault.{RouteFault}
use Rattle.route_text.specs.declared.fault.RouteFault.TheVariants.{Twice, NoSuchTarget, NoSuchUser, NoSuchDatabase, TtlOrder}
use Rattle.route_text.specs.declared.values.Values.{Values}
use Rattle.z_types.specs.Same.{is_same}
use Rattle.route_config.specs.Names.{anonymous, every}
use Rattle.route_text.specs.Refusal.{unless}

-- the first of some refusals
abbrev pub first_of : List (Option RouteFault) → Option RouteFault
first_of [] = None
first_of (refusal ∷ rest) = option_or refusal (first_of rest)

-- the first name that is the same as one before it
abbrev pub again : (List ℕ → List ℕ → Bool) → List (List ℕ) → List (List ℕ) → Option (List ℕ)
again same before [] = None
again same before (name ∷ names) =
    if list_any (same name) before then Some name else again same (before ++ name ∷ []) names

-- two names are the same: octet by octet, or in any case of ASCII letters
abbrev pub sameness : Bool → List ℕ → List ℕ → Bool
sameness true one other = str_eq_ignore_ascii_case one other
sameness false one other = is_same one other

abbrev pub twice : Bool → List (List ℕ) → Option RouteFault
twice ignore_case names = option_map Twice (again (sameness ignore_case) [] names)

-- whether a name is one of the known
abbrev pub is_among : List (List ℕ) → List ℕ → Bool
is_among known name = list_any (is_same name) known

-- the first name that is none of the known
abbrev pub no_such_target : List (List ℕ) → List (List ℕ) → Option RouteFault
no_such_target known names =
    option_map NoSuchTarget (find (λ name. not (is_among known name)) names)

-- the members of all groups, in file order
abbrev pub member_names : Values → List (List ℕ)
member_names values = flat_map (λ group. group.targets) values.groups

abbrev pub target_names : Values → List (List ℕ)
target_names values = map (λ target. target.name) values.targets

abbrev pub group_names : Values → List (List ℕ)
group_names values = map (λ group. group.name) values.groups

-- what legs go to, in file order
abbrev pub vias : Values → List (List ℕ)
vias values = flat_map (λ database. map (λ leg. leg.via) database.legs) values.databases

-- whom rules are for, and the databases that they are for, in file order
abbrev pub ruled_users : Values → List (List ℕ)
ruled_users values = map (λ rule. rule.user) values.rules

abbrev pub ruled_databases : Values → List (List ℕ)
ruled_databases values = flat_map (λ rule. rule.databases) values.rules

-- a rule may be for `*`, for `anonymous`, or for a user
abbrev pub is_ruled_user : List (List ℕ) → List ℕ → Bool
is_ruled_user users name = (is_same name every || is_same name anonymous) || is_among users name

-- and for the database `*`, or a virtual database in any case of ASCII letters
abbrev pub is_ruled_database : List (List ℕ) → List ℕ → Bool
is_ruled_database databases name = is_same name every || list_any (sameness true name) databases

-- the first user of a rule, and the first database of one, that is none of these
abbrev pub no_such_user : List (List ℕ) → List (List ℕ) → Option RouteFault
no_such_user users names =
    option_map NoSuchUser (find (λ name. not (is_ruled_user users name)) names)

abbrev pub no_such_database : List (List ℕ) → List (List ℕ) → Option RouteFault
no_such_database databases names =
    option_map NoSuchDatabase (find (λ name. not (is_ruled_database databases name)) names)

unfoldable pub of_whole : Values → Option RouteFault
of_whole values = first_of (
    twice false (target_names values ++ group_names values) ∷
    twice true (map (λ database. database.name) values.databases) ∷
    twice true (map (λ index. index.name) values.indexes) ∷
    twice false (map (λ schema. schema.name) values.schemas) ∷
    twice false (map (λ user. user.name) values.users) ∷
    twice false (map (λ rule. rule.name) values.rules) ∷
    no_such_target (target_names values) (member_names values) ∷
    no_such_target (target_names values ++ group_names values) (vias values) ∷
    no_such_user (map (λ user. user.name) values.users) (ruled_users values) ∷
    no_such_database (map (λ database. database.name) values.databases) (ruled_databases values) ∷
    unless (nat_le values.pool.set_ttl values.pool.session_ttl) TtlOrder ∷ [])
