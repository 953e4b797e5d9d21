-- Sizes: of values that are refused for nothing, and of the classes and legs that they make.
use Rattle.std.proofs.Common.{◌≡◌, ℕ, ◌≤◌, ◌<◌, suc, ◌*◌, ◌^◌, Bool, true, false, ◌&&◌, if◌then◌else◌, cond, List, [], ◌∷◌, ◌++◌, map, length, Option, Some, None, option_map, codes, All, refl, arith}
use Rattle.std.specs.Option.{unwrap_or}
use Rattle.std.specs.List.{AllByRecursion, find, flat_map}
use Rattle.std.proofs.lemmas.List.{length-map, length-append}
use Rattle.std.proofs.lemmas.List.Elements.{All-cons, All-nil}
use Rattle.toml.specs.Data.{Data, Items, no_items, item, get, array, as_array}
use Rattle.z_types.specs.declared.address.Address.{Address}
use Rattle.z_types.specs.declared.address.Address.TheVariants.{Test, Tcp, Login}
use Rattle.z_types.specs.Members.{IsMember, AreMembers}
use Rattle.route_config.specs.declared.route.Target.{Target}
use Rattle.route_text.specs.declared.values.GroupValues.{GroupValues}
use Rattle.route_text.specs.declared.values.DatabaseValues.{DatabaseValues}
use Rattle.route_text.specs.declared.values.Values.{Values}
use Rattle.route_text.specs.declared.rule.TextRule.TheVariants.{Any}
use Rattle.route_config.specs.Names.{is_from}
use Rattle.z_types.specs.Same.{is_same}
use Rattle.route_text.specs.Texts.{is_decimal, number_of_digits, address_of, parts}
use Rattle.route_text.specs.Path.{key_path}
use Rattle.route_text.specs.Kinds.{Text, Array, Table}
use Rattle.route_text.specs.Keys.{target_keys, group_keys, leg_keys, database_keys, top_keys}
use Rattle.route_text.specs.Refusal.{refusal}
use Rattle.route_text.specs.Values.{at, list_of, text, address_in, target_in, group_in, leg_in, database_in, values_in}
use Rattle.route_text.specs.Whole.{is_among, target_names, vias}
use Rattle.route_text.specs.RouteOf.{address_of as address_named, addresses_of, members_of, firsts, class_names, class_of}
use Rattle.route_config.specs.Sound.{IsFrom, HasFrom, IsAddress}
use Rattle.route_text.specs.Sizes.{HasSizes}
use Rattle.route_text.specs.Configuration.{first_fault}
use Rattle.route_text.proofs.RangeLemmas.{neither, from-parts, list-within, array-all, keys-passed, required-passed, default-passed}

nought : IsAddress (Test 0)
nought = omega arith

-- an address is in its ranges, where its text was tested to be
test_kept : (test decimal within : Bool) (n : ℕ) → (within ≡ true → IsFrom 0 999999 n) → IsAddress (unwrap_or (if test then option_map Test (if decimal && within then Some n else None) else None) (Test 0))
test_kept false decimal within n h = nought
test_kept true false within n h = nought
test_kept true true false n h = nought
test_kept true true true n h = (h refl).1

tcp_kept : (test small decimal within : Bool) (host : List ℕ) (n : ℕ) → (small ≡ true → HasFrom 1 64 host) → (within ≡ true → IsFrom 1 65535 n)
    → IsAddress (unwrap_or (if test && small then option_map (Tcp host) (if decimal && within then Some n else None) else None) (Test 0))
tcp_kept false small decimal within host n h g = nought
tcp_kept true false decimal within host n h g = nought
tcp_kept true true false within host n h g = nought
tcp_kept true true true false host n h g = nought
tcp_kept true true true true host n h g = (h refl, g refl)

kept_of_parts : (parts : List (List ℕ)) → IsAddress (unwrap_or (address_of parts) (Test 0))
kept_of_parts [] = nought
kept_of_parts (a ∷ []) = nought
kept_of_parts (a ∷ b ∷ []) =
    let n = number_of_digits b in
    test_kept (is_same a (codes "test")) (is_decimal b) (is_from 0 999999 n) n (from-parts 0 999999 n)
kept_of_parts (a ∷ b ∷ c ∷ []) =
    let n = number_of_digits c in
    tcp_kept (is_same a (codes "tcp")) (is_from 1 64 (length b)) (is_decimal c) (is_from 1 65535 n) b n (from-parts 1 64 (length b)) (from-parts 1 65535 n)
kept_of_parts (a ∷ b ∷ c ∷ d ∷ rest) = nought

all_listed : {A : Type 0} (read : Data → A) (P : A → Type 0) → ((value : Data) → P (read value)) → (items : Items) → AllByRecursion P (list_of read items)
all_listed read P each no_items = tt
all_listed read P each (item value rest) = (each value, all_listed read P each rest)

-- an address that is read is in its ranges
pub address-kept : (value : Data) → IsAddress (address_in value)
address-kept value = kept_of_parts (parts (text value))

target_kept : (value : Data) → IsAddress (target_in value).address
unfolding target_in
target_kept value = address-kept (at target_keys (codes "address") value)

-- a group has 1 to 16 members
pub group-size : (path : List ℕ) (value : Data) → refusal (Table group_keys) path value ≡ None → HasFrom 1 16 (group_in value).targets
unfolding group_in group_keys
group-size path value h =
    let keys = neither _ None (neither _ _ (keys-passed group_keys path value h)).1 in
    list-within text (Text Any) 1 16 (key_path path (codes "targets")) (at group_keys (codes "targets") value) (required-passed (refusal (Array 1 16 (Text Any))) (key_path path (codes "targets")) (get (codes "targets") value) keys.0)

-- a database has 1 to 16 legs
pub database-size : (path : List ℕ) (value : Data) → refusal (Table database_keys) path value ≡ None → HasFrom 1 16 (database_in value).legs
unfolding database_in database_keys
database-size path value h =
    let keys = neither _ None (neither _ _ (neither _ _ (keys-passed database_keys path value h)).1).1 in
    list-within leg_in (Table leg_keys) 1 16 (key_path path (codes "leg")) (at database_keys (codes "leg") value) (required-passed (refusal (Array 1 16 (Table leg_keys))) (key_path path (codes "leg")) (get (codes "leg") value) keys.0)

-- the values of a tree that is refused for nothing have their sizes
pub sizes : (tree : Data) → first_fault tree ≡ None → HasSizes (values_in tree)
unfolding top_keys values_in
sizes tree h =
    let from_target = keys-passed top_keys [] tree (neither _ _ h).0 in
    let from_group = (neither _ _ from_target).1 in
    let from_database = (neither _ _ from_group).1 in
    let targets = required-passed (refusal (Array 1 64 (Table target_keys))) (codes "target") (get (codes "target") tree) (neither _ _ from_target).0 in
    let groups = default-passed (array no_items) (refusal (Array 0 64 (Table group_keys))) (codes "group") (get (codes "group") tree) refl (neither _ _ from_group).0 in
    let databases = required-passed (refusal (Array 1 64 (Table database_keys))) (codes "database") (get (codes "database") tree) (neither _ _ from_database).0 in
    record {
      targets = list-within target_in (Table target_keys) 1 64 (codes "target") (at top_keys (codes "target") tree) targets;
      addresses = all_listed target_in (λ target. IsAddress target.address) target_kept (unwrap_or (as_array (at top_keys (codes "target") tree)) no_items);
      groups = array-all group_in (Table group_keys) (λ group. HasFrom 1 16 group.targets) group-size 0 64 (codes "group") (at top_keys (codes "group") tree) groups;
      databases = list-within database_in (Table database_keys) 1 64 (codes "database") (at top_keys (codes "database") tree) databases;
      legs = array-all database_in (Table database_keys) (λ database. HasFrom 1 16 database.legs) database-size 1 64 (codes "database") (at top_keys (codes "database") tree) databases;
    }

-- the address of a target's name is in its ranges, also where there is none
picked : (b : Bool) (target : Target) (rest : Option Target) → IsAddress target.address → IsAddress (unwrap_or (option_map (λ target. target.address) rest) (Test 0))
    → IsAddress (unwrap_or (option_map (λ target. target.address) (cond b (Some target) rest)) (Test 0))
picked true target rest one other = one
picked false target rest one other = other

named : (targets : List Target) (name : List ℕ) → AllByRecursion (λ target. IsAddress target.address) targets → IsAddress (address_named targets name)
named [] name all = nought
named (target ∷ targets) name all = picked (is_same name target.name) target (find (λ target. is_same name target.name) targets) all.0 (named targets name all.1)

-- and so it is one that a class may have
member : (address : Address) → IsAddress address → IsMember address
member (Test number) h = tt
member (Tcp host port) h = h.0.1
member (Login at login) h = absurd h

picked_group : (b : Bool) (group : GroupValues) (rest : Option GroupValues) (name : List ℕ) → HasFrom 1 16 group.targets → HasFrom 1 16 (unwrap_or (option_map (λ group. group.targets) rest) (name ∷ []))
    → HasFrom 1 16 (unwrap_or (option_map (λ group. group.targets) (cond b (Some group) rest)) (name ∷ []))
picked_group true group rest name one other = one
picked_group false group rest name one other = other

members_size : (groups : List GroupValues) (name : List ℕ) → AllByRecursion (λ group. HasFrom 1 16 group.targets) groups → HasFrom 1 16 (members_of groups name)
members_size [] name all = (omega arith, omega arith)
members_size (group ∷ groups) name all = picked_group (is_same name group.name) group (find (λ group. is_same name group.name) groups) name all.0 (members_size groups name all.1)

all_of_each : {A : Type 0} (P : A → Type 0) (f : List ℕ → A) → ((name : List ℕ) → P (f name)) → (names : List (List ℕ)) → All P (map f names)
all_of_each P f each [] = All-nil P
all_of_each P f each (name ∷ names) = All-cons P (f name) (map f names) (each name) (all_of_each P f each names)

-- a class has members
pub members-named : (values : Values) (name : List ℕ) → HasSizes values → AreMembers (addresses_of values name)
members-named values name sizes =
    let size = members_size values.groups name sizes.groups in
    let same = length-map (members_of values.groups name) (address_named values.targets) in
    record {
      some = rw same size.0;
      few = rw same size.1;
      each = all_of_each IsMember (address_named values.targets) (λ name. member (address_named values.targets name) (named values.targets name sizes.addresses)) (members_of values.groups name);
    }

-- a class's addresses are in their ranges
pub classes-kept : (values : Values) → HasSizes values → All (λ class. All IsAddress class.addresses) (map (class_of values) (class_names values))
classes-kept values sizes =
    all_of_each (λ class. All IsAddress class.addresses) (class_of values)
    (λ name. all_of_each IsAddress (address_named values.targets) (λ member. named values.targets member sizes.addresses) (members_of values.groups name)) (class_names values)

-- no more names come for the first time than come at all
if_known : (b : Bool) (n : ℕ) (known more : List (List ℕ)) (name : List ℕ) → length known ≤ n → length more ≤ n → length (if b then known else name ∷ more) ≤ suc n
if_known true n known more name a b = omega arith
if_known false n known more name a b = omega arith

firsts_size : (known names : List (List ℕ)) → length (firsts known names) ≤ length names
firsts_size known [] = omega arith
firsts_size known (name ∷ names) = if_known (is_among known name) (length names) (firsts known names) (firsts (known ++ name ∷ []) names) name (firsts_size known names) (firsts_size (known ++ name ∷ []) names)

vias_size : (databases : List DatabaseValues) → AllByRecursion (λ database. HasFrom 1 16 database.legs) databases → length (flat_map (λ database. map (λ leg. leg.via) database.legs) databases) ≤ 16 * length databases
vias_size [] all = omega arith
vias_size (database ∷ databases) all = grind (arith, length-append (map (λ leg. leg.via) database.legs) (flat_map (λ database. map (λ leg. leg.via) database.legs) databases), length-map database.legs (λ leg. leg.via), vias_size databases all.1, all.0.1)

pub class-count : (values : Values) → HasSizes values → length (class_names values) < 2 ^ 32
class-count values sizes = grind (arith, firsts_size [] (vias values), vias_size values.databases sizes.legs, sizes.databases.1)

pub target-count : (values : Values) → HasSizes values → length (target_names values) < 2 ^ 32
target-count values sizes = grind (arith, length-map values.targets (λ target. target.name), sizes.targets.1)

pub database-count : (values : Values) → HasSizes values → length values.databases < 2 ^ 32
database-count values sizes = grind (arith, sizes.databases.1)

pub databases-few : (values : Values) → HasSizes values → length values.databases ≤ 64
databases-few values sizes = sizes.databases.1

few_legs : (databases : List DatabaseValues) → AllByRecursion (λ database. HasFrom 1 16 database.legs) databases → AllByRecursion (λ database. length database.legs ≤ 16) databases
few_legs [] all = tt
few_legs (database ∷ databases) all = (all.0.1, few_legs databases all.1)

pub legs-few : (values : Values) → HasSizes values → AllByRecursion (λ database. length database.legs ≤ 16) values.databases
legs-few values sizes = few_legs values.databases sizes.legs

pub ruleset counts = (class-count, target-count, database-count, databases-few, legs-few)

pub ruleset members = (members-named)
