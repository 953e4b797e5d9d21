-- Configurations worked out from their octets by computation alone: routes, and refusals.
use Rattle.std.proofs.Common.{◌≡◌, ℕ, false, List, [], ◌∷◌, ◌++◌, Option, Some, None, option_map, map, codes, refl}
use Rattle.std.specs.Option.{option_and_then}
use Rattle.std.specs.List.{flat_map}
use Rattle.z_types.specs.declared.address.Address.TheVariants.{Test}
use Rattle.toml.specs.Data.{table}
use Rattle.toml.specs.Parse.{parse_document}
use Rattle.route_config.specs.declared.route.Route.{Route}
use Rattle.route_config.specs.Smallest.{smallest_text, smallest_route}
use Rattle.route_text.specs.declared.fault.RouteFault.{RouteFault}
use Rattle.route_text.specs.declared.fault.RouteFault.TheVariants.{Missing, WrongKind, OutOfRange, TooMany, Unknown, Twice, NoSuchTarget, TtlOrder, NoSuchUser, NoSuchDatabase}
use Rattle.route_text.specs.Values.{values_in}
use Rattle.route_text.specs.RouteOf.{route_of}
use Rattle.route_text.specs.Configuration.{first_fault}
use Rattle.route_text.proofs.OnLiterals.{configuration_on_literals}

-- lines, each ended by LF
abbrev lines : List (List ℕ) → List ℕ
lines = flat_map (λ line. line ++ 10 ∷ [])

-- the route of octets, where they are refused for nothing
abbrev route : List ℕ → Option Route
route text = option_map (λ members. route_of (values_in (table members))) (parse_document text)

-- what octets that are TOML are refused for
abbrev refused : List ℕ → Option RouteFault
refused text = option_and_then (λ members. first_fault (table members)) (parse_document text)

-- the smallest configuration, and more lines
abbrev smallest_and : List (List ℕ) → List ℕ
smallest_and more = smallest_text ++ lines more

-- the smallest configuration is refused for nothing, and has the smallest route
smallest-refused : refused smallest_text ≡ None
unfolding configuration_on_literals
smallest-refused = refl

smallest-route : route smallest_text ≡ Some smallest_route
unfolding configuration_on_literals
smallest-route = refl

-- a result set that is kept longer than its session
ttl-order : refused (smallest_and (codes "[pool]" ∷ codes "set_ttl = 301" ∷ [])) ≡ Some TtlOrder
unfolding configuration_on_literals
ttl-order = refl

-- a number above its range, and one below
repeats-11 : refused (smallest_and (codes "[pool]" ∷ codes "repeats = 11" ∷ [])) ≡ Some (OutOfRange (codes "pool.repeats") (codes "11"))
unfolding configuration_on_literals
repeats-11 = refl

repeats-below : refused (smallest_and (codes "[pool]" ∷ codes "repeats = -1" ∷ [])) ≡ Some (OutOfRange (codes "pool.repeats") (codes "-1"))
unfolding configuration_on_literals
repeats-below = refl

-- a target without a name; the target goes before the database, which is not there either
nameless : refused (lines (codes "[[target]]" ∷ codes "address = \"test:0\"" ∷ [])) ≡ Some (Missing (codes "target[0].name"))
unfolding configuration_on_literals
nameless = refl

-- an empty file
empty-refused : refused [] ≡ Some (Missing (codes "target"))
unfolding configuration_on_literals
empty-refused = refl

-- a via that no target or group has, in the first leg: the key is right, the whole is not
no-such-via : refused (lines (codes "[[target]]" ∷ codes "name = \"alpha\"" ∷ codes "address = \"test:0\"" ∷ codes "[[database]]" ∷ codes "name = \"Default\"" ∷ codes "[[database.leg]]" ∷ codes "via = \"beta\"" ∷ codes "databases = [\"Default\"]" ∷ [])) ≡ Some (NoSuchTarget (codes "beta"))
unfolding configuration_on_literals
no-such-via = refl

-- a via that is a number, named by its whole path; no array of legs that is empty
via-number : refused (lines (codes "target = [{name = \"a\", address = \"tcp:h:9\"}]" ∷ codes "database = [{name = \"D\", leg = [{via = \"a\", databases = [\"D\"]}, {databases = [\"D\"], via = 1}]}]" ∷ [])) ≡ Some (WrongKind (codes "database[0].leg[1].via"))
unfolding configuration_on_literals
via-number = refl

no-legs : refused (lines (codes "target = [{name = \"a\", address = \"tcp:h:9\"}]" ∷ codes "database = [{name = \"D\", leg = []}]" ∷ [])) ≡ Some (TooMany (codes "database[0].leg") 0)
unfolding configuration_on_literals
no-legs = refl

-- the least unknown key of the first table that has one, before what is wrong further on
least-unknown : refused (lines (codes "[[target]]" ∷ codes "zone = 1" ∷ codes "name = \"alpha\"" ∷ codes "port = 1" ∷ codes "address = \"test:0\"" ∷ codes "[pool]" ∷ codes "repeats = 11" ∷ [])) ≡ Some (Unknown (codes "target[0].port"))
unfolding configuration_on_literals
least-unknown = refl

-- the top table's unknown keys come last of the keys, and before the whole
top-unknown : refused (codes "wild = 1\n" ++ smallest_and (codes "[pool]" ∷ codes "set_ttl = 301" ∷ [])) ≡ Some (Unknown (codes "wild"))
unfolding configuration_on_literals
top-unknown = refl

-- addresses have no leading zeros
leading-zero : refused (lines (codes "[[target]]" ∷ codes "name = \"alpha\"" ∷ codes "address = \"test:01\"" ∷ [])) ≡ Some (OutOfRange (codes "target[0].address") (codes "test:01"))
unfolding configuration_on_literals
leading-zero = refl

-- databases are the same in any case of letters
twice-database : refused (smallest_and (codes "[[database]]" ∷ codes "name = \"dEFAULT\"" ∷ codes "[[database.leg]]" ∷ codes "via = \"alpha\"" ∷ codes "databases = [\"Default\"]" ∷ [])) ≡ Some (Twice (codes "dEFAULT"))
unfolding configuration_on_literals
twice-database = refl

-- a user, and a rule for it; a rule for nobody that is there, and one for no database
abbrev ann : List (List ℕ)
ann = codes "[[user]]" ∷ codes "name = \"ann\"" ∷ codes "password = \"pw\"" ∷ []

abbrev rule : (user databases : List ℕ) → List (List ℕ)
rule user databases =
    codes "[[rule]]" ∷ codes "name = \"r\"" ∷ codes "effect = \"deny\"" ∷ user ∷ databases ∷ []

ruled : refused (smallest_and (ann ++ rule (codes "user = \"ann\"") (codes "databases = [\"*\", \"DEFAULT\"]"))) ≡ None
unfolding configuration_on_literals
ruled = refl

ruled-route : option_map (λ route. route.rules) (route (smallest_and (ann ++ rule (codes "user = \"ann\"") (codes "databases = [\"DEFAULT\"]"))))
    ≡ Some ((record { name = codes "r"; allow = false; user = codes "ann"; databases = codes "DEFAULT" ∷ [] }) ∷ [])
unfolding configuration_on_literals
ruled-route = refl

no-such-user : refused (smallest_and (ann ++ rule (codes "user = \"Ann\"") (codes "databases = [\"x\"]"))) ≡ Some (NoSuchUser (codes "Ann"))
unfolding configuration_on_literals
no-such-user = refl

no-such-database : refused (smallest_and (rule (codes "user = \"anonymous\"") (codes "databases = [\"Default\", \"x\"]"))) ≡ Some (NoSuchDatabase (codes "x"))
unfolding configuration_on_literals
no-such-database = refl

-- the numbers of the cache, and one of a record that is too many
cached : option_map (λ route. route.cache_records) (route (smallest_and (codes "[cache]" ∷ codes "records = 10" ∷ []))) ≡ Some 10
unfolding configuration_on_literals
cached = refl

cached-octets : option_map (λ route. route.cache_record_bytes) (route (smallest_and (codes "[cache]" ∷ codes "records = 10" ∷ []))) ≡ Some 4096
unfolding configuration_on_literals
cached-octets = refl

record_bytes-0 : refused (smallest_and (codes "[cache]" ∷ codes "record_bytes = 0" ∷ [])) ≡ Some (OutOfRange (codes "cache.record_bytes") (codes "0"))
unfolding configuration_on_literals
record_bytes-0 = refl

-- two targets in a group, a third, and two databases: two classes, of two addresses and of one, and three legs
abbrev realistic : List ℕ
realistic = lines (
    codes "[[target]]" ∷ codes "name = \"alpha\"" ∷ codes "address = \"test:0\"" ∷
    codes "[[target]]" ∷ codes "name = \"beta\"" ∷ codes "address = \"test:0\"" ∷
    codes "[[target]]" ∷ codes "name = \"gamma\"" ∷ codes "address = \"test:5\"" ∷
    codes "[[group]]" ∷ codes "name = \"pair\"" ∷ codes "targets = [\"alpha\", \"beta\"]" ∷
    codes "[[database]]" ∷ codes "name = \"Books\"" ∷ codes "[[database.leg]]" ∷ codes "via = \"pair\"" ∷ codes "databases = [\"Default\"]" ∷
    codes "[[database]]" ∷ codes "name = \"All\"" ∷ codes "[[database.leg]]" ∷ codes "via = \"pair\"" ∷ codes "databases = [\"Default\"]" ∷
    codes "[[database.leg]]" ∷ codes "via = \"gamma\"" ∷ codes "databases = [\"Default\"]" ∷ codes "[limit]" ∷ [])

realistic-refused : refused realistic ≡ None
unfolding configuration_on_literals
realistic-refused = refl

realistic-classes : option_map (λ route. map (λ class. class.name) route.classes) (route realistic) ≡ Some (codes "pair" ∷ codes "gamma" ∷ [])
unfolding configuration_on_literals
realistic-classes = refl

realistic-addresses : option_map (λ route. map (λ class. class.addresses) route.classes) (route realistic) ≡ Some ((Test 0 ∷ Test 0 ∷ []) ∷ (Test 5 ∷ []) ∷ [])
unfolding configuration_on_literals
realistic-addresses = refl

realistic-databases : option_map (λ route. map (λ database. database.legs) route.databases) (route realistic) ≡ Some ((0 ∷ []) ∷ (1 ∷ 2 ∷ []) ∷ [])
unfolding configuration_on_literals
realistic-databases = refl

realistic-legs : option_map (λ route. map (λ leg. leg.database) route.legs) (route realistic) ≡ Some (0 ∷ 1 ∷ 1 ∷ [])
unfolding configuration_on_literals
realistic-legs = refl

realistic-leg-classes : option_map (λ route. map (λ leg. leg.class) route.legs) (route realistic) ≡ Some (0 ∷ 0 ∷ 1 ∷ [])
unfolding configuration_on_literals
realistic-leg-classes = refl

realistic-groups : option_map (λ route. map (λ group. group.targets) route.groups) (route realistic) ≡ Some ((0 ∷ 1 ∷ []) ∷ [])
unfolding configuration_on_literals
realistic-groups = refl
