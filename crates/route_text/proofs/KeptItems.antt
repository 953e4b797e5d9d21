-- The items of a route that is read keep the ranges of their keys.
use Rattle.std.proofs.Common.{◌≡◌, ℕ, ◌+◌, true, IsTrue, List, [], ◌∷◌, map, length, Option, Some, None, codes, All, refl}
use Rattle.std.specs.Option.{unwrap_or}
use Rattle.std.specs.List.{AllByRecursion}
use Rattle.std.proofs.lemmas.List.{length-map}
use Rattle.std.proofs.lemmas.List.FromFn.{length-range_with_len}
use Rattle.std.proofs.lemmas.List.Elements.{All-cons, All-nil, All-append, All-from_recursion}
use Rattle.toml.specs.Data.{Data, get, as_str, array, no_items}
use Rattle.route_config.specs.Names.{is_name, is_database_name}
use Rattle.route_config.specs.Sound.{HasFrom, IsTarget, IsGroup, IsDatabase, IsLeg, IsIndex, IsSchema, IsUser, IsRule, KeepsItems}
use Rattle.route_text.specs.declared.fault.RouteFault.TheVariants.{OutOfRange}
use Rattle.route_text.specs.declared.rule.TextRule.{TextRule}
use Rattle.route_text.specs.declared.rule.TextRule.TheVariants.{Name, DatabaseName, UpTo, IndexName, UserName}
use Rattle.route_text.specs.declared.values.GroupValues.{GroupValues}
use Rattle.route_text.specs.declared.values.LegValues.{LegValues}
use Rattle.route_text.specs.declared.values.DatabaseValues.{DatabaseValues}
use Rattle.route_text.specs.Texts.{fits}
use Rattle.route_text.specs.Path.{key_path}
use Rattle.route_text.specs.Kinds.{Text, Number, Array, Table}
use Rattle.route_text.specs.Keys.{target_keys, group_keys, leg_keys, database_keys, index_keys, schema_keys, user_keys, rule_keys, top_keys, default_indexes, default_schemas}
use Rattle.route_text.specs.Refusal.{refusal, of_kind, unless}
use Rattle.route_text.specs.Values.{at, text, target_in, group_in, leg_in, database_in, index_in, schema_in, user_in, rule_in, values_in}
use Rattle.route_text.specs.Whole.{target_names}
use Rattle.route_text.specs.RouteOf.{place_of, group_of, databases_from, leg_of, legs_from, class_names, route_of}
use Rattle.route_text.specs.Configuration.{first_fault}
use Rattle.route_text.proofs.RangeLemmas.{neither, passed, from-parts, list-within, array-all, keys-passed, required-passed, default-passed, number-within}
use Rattle.route_text.proofs.SizeLemmas.{address-kept, group-size, database-size, sizes, classes-kept}

text_fits : (rule : TextRule) (path : List ℕ) (content : Option (List ℕ)) → of_kind path content (λ text. unless (fits rule text) (OutOfRange path text)) ≡ None
    → fits rule (unwrap_or content []) ≡ true
text_fits rule path None h = absurd (cc)
text_fits rule path (Some text) h = passed _ _ h

-- a text keeps its rule
text-fits : (rule : TextRule) (path : List ℕ) (value : Data) → refusal (Text rule) path value ≡ None → fits rule (text value) ≡ true
text-fits rule path value h = text_fits rule path (as_str value) h

text_size : (most : ℕ) (path : List ℕ) (value : Data) → refusal (Text (UpTo most)) path value ≡ None → HasFrom 1 most (text value)
text_size most path value h = from-parts 1 most (length (text value)) (text-fits (UpTo most) path value h)

target_item : (path : List ℕ) (value : Data) → refusal (Table target_keys) path value ≡ None → IsTarget (target_in value)
unfolding target_in target_keys
target_item path value h =
    let key = (neither _ _ (keys-passed target_keys path value h)).0 in
    let held = required-passed (refusal (Text Name)) (key_path path (codes "name")) (get (codes "name") value) key in
    (text-fits Name (key_path path (codes "name")) (at target_keys (codes "name") value) held, address-kept (at target_keys (codes "address") value))

-- a name, and 1 to 16 members
abbrev AreMembers : GroupValues → Type 0
AreMembers group = IsTrue (is_name group.name) × HasFrom 1 16 group.targets

group_item : (path : List ℕ) (value : Data) → refusal (Table group_keys) path value ≡ None → AreMembers (group_in value)
unfolding group_in group_keys
group_item path value h =
    let key = (neither _ _ (keys-passed group_keys path value h)).0 in
    let held = required-passed (refusal (Text Name)) (key_path path (codes "name")) (get (codes "name") value) key in
    (text-fits Name (key_path path (codes "name")) (at group_keys (codes "name") value) held, group-size path value h)

-- 1 to 16 databases of 1 to 64 octets
abbrev AreSought : LegValues → Type 0
AreSought leg = HasFrom 1 16 leg.databases × AllByRecursion (HasFrom 1 64) leg.databases

leg_item : (path : List ℕ) (value : Data) → refusal (Table leg_keys) path value ≡ None → AreSought (leg_in value)
unfolding leg_in leg_keys
leg_item path value h =
    let key = (neither _ None (neither _ _ (keys-passed leg_keys path value h)).1).0 in
    let place = key_path path (codes "databases") in
    let here = at leg_keys (codes "databases") value in
    let held = required-passed (refusal (Array 1 16 (Text (UpTo 64)))) place (get (codes "databases") value) key in
    (list-within text (Text (UpTo 64)) 1 16 place here held, array-all text (Text (UpTo 64)) (HasFrom 1 64) (text_size 64) 1 16 place here held)

-- a name, and 1 to 16 legs
abbrev KeepsLegs : DatabaseValues → Type 0
KeepsLegs database = IsTrue (is_database_name database.name) × HasFrom 1 16 database.legs × AllByRecursion AreSought database.legs

database_item : (path : List ℕ) (value : Data) → refusal (Table database_keys) path value ≡ None → KeepsLegs (database_in value)
unfolding database_in database_keys
database_item path value h =
    let keys = neither _ _ (keys-passed database_keys path value h) in
    let named = required-passed (refusal (Text DatabaseName)) (key_path path (codes "name")) (get (codes "name") value) keys.0 in
    let fitting = text-fits DatabaseName (key_path path (codes "name")) (at database_keys (codes "name") value) named in
    let place = key_path path (codes "leg") in
    let held = required-passed (refusal (Array 1 16 (Table leg_keys))) place (get (codes "leg") value) (neither _ None (neither _ _ keys.1).1).0 in
    (fitting, database-size path value h, array-all leg_in (Table leg_keys) AreSought leg_item 1 16 place (at database_keys (codes "leg") value) held)

index_item : (path : List ℕ) (value : Data) → refusal (Table index_keys) path value ≡ None → IsIndex (index_in value)
unfolding index_in index_keys
index_item path value h =
    let keys = neither _ _ (keys-passed index_keys path value h) in
    let name = key_path path (codes "name") in
    let use_place = key_path path (codes "use") in
    let named = required-passed (refusal (Text IndexName)) name (get (codes "name") value) keys.0 in
    let held = required-passed (refusal (Number 0 2147483647)) use_place (get (codes "use") value) (neither _ None keys.1).0 in
    (text-fits IndexName name (at index_keys (codes "name") value) named, (number-within 0 2147483647 use_place (at index_keys (codes "use") value) held).1)

schema_item : (path : List ℕ) (value : Data) → refusal (Table schema_keys) path value ≡ None → IsSchema (schema_in value)
unfolding schema_in schema_keys
schema_item path value h =
    let one = neither _ _ (keys-passed schema_keys path value h) in
    let two = neither _ _ one.1 in
    let three = neither _ None two.1 in
    let check = refusal (Text (UpTo 128)) in (
      text_size 128 (key_path path (codes "name")) (at schema_keys (codes "name") value) (required-passed check (key_path path (codes "name")) (get (codes "name") value) one.0),
      text_size 128 (key_path path (codes "uri")) (at schema_keys (codes "uri") value) (required-passed check (key_path path (codes "uri")) (get (codes "uri") value) two.0),
      text_size 128 (key_path path (codes "element")) (at schema_keys (codes "element") value) (required-passed check (key_path path (codes "element")) (get (codes "element") value) three.0),
    )

user_item : (path : List ℕ) (value : Data) → refusal (Table user_keys) path value ≡ None → IsUser (user_in value)
unfolding user_in user_keys
user_item path value h =
    let keys = neither _ _ (keys-passed user_keys path value h) in
    let name = key_path path (codes "name") in
    let password = key_path path (codes "password") in
    let named = required-passed (refusal (Text UserName)) name (get (codes "name") value) keys.0 in
    let held = required-passed (refusal (Text (UpTo 64))) password (get (codes "password") value) (neither _ None keys.1).0 in
    (text-fits UserName name (at user_keys (codes "name") value) named, text_size 64 password (at user_keys (codes "password") value) held)

rule_item : (path : List ℕ) (value : Data) → refusal (Table rule_keys) path value ≡ None → IsRule (rule_in value)
unfolding rule_in rule_keys
rule_item path value h =
    let one = neither _ _ (keys-passed rule_keys path value h) in
    let three = neither _ _ (neither _ _ one.1).1 in
    let name = key_path path (codes "name") in
    let place = key_path path (codes "databases") in
    let named = required-passed (refusal (Text Name)) name (get (codes "name") value) one.0 in
    let held = required-passed (refusal (Array 1 64 (Text (UpTo 64)))) place (get (codes "databases") value) (neither _ None three.1).0 in
    (text-fits Name name (at rule_keys (codes "name") value) named, list-within text (Text (UpTo 64)) 1 64 place (at rule_keys (codes "databases") value) held)

kept_groups : (names : List (List ℕ)) (groups : List GroupValues) → AllByRecursion AreMembers groups → All IsGroup (map (group_of names) groups)
kept_groups names [] all = All-nil IsGroup
kept_groups names (group ∷ groups) all =
    All-cons IsGroup (group_of names group) (map (group_of names) groups) (all.0.0, rw (length-map group.targets (place_of names)) all.0.1) (kept_groups names groups all.1)

kept_databases : (first : ℕ) (databases : List DatabaseValues) → AllByRecursion KeepsLegs databases → All IsDatabase (databases_from first databases)
kept_databases first [] all = All-nil IsDatabase
kept_databases first (database ∷ databases) all =
    All-cons IsDatabase _ (databases_from (first + length database.legs) databases) (all.0.0, rw (length-range_with_len first (length database.legs)) all.0.1) (kept_databases (first + length database.legs) databases all.1)

sought : (names : List (List ℕ)) (place : ℕ) (legs : List LegValues) → AllByRecursion AreSought legs → All IsLeg (map (leg_of names place) legs)
sought names place [] all = All-nil IsLeg
sought names place (leg ∷ legs) all =
    All-cons IsLeg (leg_of names place leg) (map (leg_of names place) legs) (all.0.0, All-from_recursion (HasFrom 1 64) leg.databases all.0.1) (sought names place legs all.1)

kept_legs : (names : List (List ℕ)) (place : ℕ) (databases : List DatabaseValues) → AllByRecursion KeepsLegs databases → All IsLeg (legs_from names place databases)
kept_legs names place [] all = All-nil IsLeg
kept_legs names place (database ∷ databases) all =
    All-append IsLeg (map (leg_of names place) database.legs) (legs_from names (place + 1) databases) (sought names place database.legs all.0.2) (kept_legs names (place + 1) databases all.1)

-- the default indexes and schemas are refused for nothing
pub indexes-pass : refusal (Array 0 64 (Table index_keys)) (codes "index") default_indexes ≡ None
unfolding index_keys default_indexes
indexes-pass = refl

pub schemas-pass : refusal (Array 1 16 (Table schema_keys)) (codes "schema") default_schemas ≡ None
unfolding schema_keys default_schemas
schemas-pass = refl

-- the items of the route of a tree that is refused for nothing keep their ranges
pub kept-items : (tree : Data) → first_fault tree ≡ None → KeepsItems (route_of (values_in tree))
unfolding top_keys values_in route_of
kept-items tree h =
    let values = values_in tree in
    let one = neither _ _ (keys-passed top_keys [] tree (neither _ _ h).0) in
    let two = neither _ _ one.1 in
    let three = neither _ _ two.1 in
    let six = neither _ _ (neither _ _ (neither _ _ three.1).1).1 in
    let seven = neither _ _ six.1 in
    let eight = neither _ _ seven.1 in
    let nine = neither _ _ eight.1 in
    let targets = required-passed (refusal (Array 1 64 (Table target_keys))) (codes "target") (get (codes "target") tree) one.0 in
    let groups = default-passed (array no_items) (refusal (Array 0 64 (Table group_keys))) (codes "group") (get (codes "group") tree) refl two.0 in
    let databases = required-passed (refusal (Array 1 64 (Table database_keys))) (codes "database") (get (codes "database") tree) three.0 in
    let indexes = default-passed default_indexes (refusal (Array 0 64 (Table index_keys))) (codes "index") (get (codes "index") tree) indexes-pass six.0 in
    let schemas = default-passed default_schemas (refusal (Array 1 16 (Table schema_keys))) (codes "schema") (get (codes "schema") tree) schemas-pass seven.0 in
    let users = default-passed (array no_items) (refusal (Array 0 1000 (Table user_keys))) (codes "user") (get (codes "user") tree) refl eight.0 in
    let rules = default-passed (array no_items) (refusal (Array 0 1000 (Table rule_keys))) (codes "rule") (get (codes "rule") tree) refl nine.0 in
    let kept = array-all database_in (Table database_keys) KeepsLegs database_item 1 64 (codes "database") (at top_keys (codes "database") tree) databases in
    record {
      targets = All-from_recursion IsTarget values.targets (array-all target_in (Table target_keys) IsTarget target_item 1 64 (codes "target") (at top_keys (codes "target") tree) targets);
      groups = kept_groups (target_names values) values.groups (array-all group_in (Table group_keys) AreMembers group_item 0 64 (codes "group") (at top_keys (codes "group") tree) groups);
      databases = kept_databases 0 values.databases kept;
      legs = kept_legs (class_names values) 0 values.databases kept;
      classes = classes-kept values (sizes tree h);
      indexes = All-from_recursion IsIndex values.indexes (array-all index_in (Table index_keys) IsIndex index_item 0 64 (codes "index") (at top_keys (codes "index") tree) indexes);
      schemas = All-from_recursion IsSchema values.schemas (array-all schema_in (Table schema_keys) IsSchema schema_item 1 16 (codes "schema") (at top_keys (codes "schema") tree) schemas);
      users = All-from_recursion IsUser values.users (array-all user_in (Table user_keys) IsUser user_item 0 1000 (codes "user") (at top_keys (codes "user") tree) users);
      rules = All-from_recursion IsRule values.rules (array-all rule_in (Table rule_keys) IsRule rule_item 0 1000 (codes "rule") (at top_keys (codes "rule") tree) rules);
    }
