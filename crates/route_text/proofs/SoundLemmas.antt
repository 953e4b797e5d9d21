-- The route of a tree that is refused for nothing keeps its ranges, sizes and places.
use Rattle.std.proofs.Common.{◌≡◌, ℕ, ◌≤◌, pos, nat_le, true, false, List, [], ◌++◌, codes, None, map, refl, arith}
use Rattle.std.proofs.lemmas.List.{length-map}
use Rattle.std.proofs.lemmas.Bool.Decides.{nat_tests}
use Rattle.toml.specs.Data.{Data, get, integer, array, no_items, table, no_members}
use Rattle.route_text.specs.declared.fault.RouteFault.TheVariants.{TtlOrder}
use Rattle.route_text.specs.declared.values.Values.{Values}
use Rattle.route_text.specs.Path.{key_path}
use Rattle.route_text.specs.Kinds.{Number, Array, Table}
use Rattle.route_text.specs.Keys.{number as number_of, pool_keys, limit_keys, index_keys, schema_keys, group_keys, user_keys, rule_keys, cache_keys, top_keys, default_indexes, default_schemas}
use Rattle.route_text.specs.Refusal.{refusal, of_key, of_keys}
use Rattle.route_text.specs.Values.{held, number, pool_in, limits_in, group_in, index_in, schema_in, user_in, rule_in, cache_in, values_in, at}
use Rattle.route_text.specs.Whole.{twice, no_such_target, no_such_user, no_such_database, target_names, group_names, member_names, vias, ruled_users, ruled_databases, of_whole}
use Rattle.route_text.specs.RouteOf.{route_of}
use Rattle.route_config.specs.Sound.{IsFrom, ArePoolNumbers, AreLimits, IsSound}
use Rattle.route_text.proofs.RuleLemmas.{users_named, databases_named}
use Rattle.route_text.specs.Configuration.{first_fault}
use Rattle.route_text.proofs.RangeLemmas.{neither, passed, list-within, keys-passed, default-passed, number-within}
use Rattle.route_text.proofs.SizeLemmas.{sizes}
use Rattle.route_text.proofs.KeptItems.{indexes-pass, schemas-pass, kept-items}
use Rattle.route_text.proofs.PlaceLemmas.{places, databases_length}

-- a number with a default in its range is in its range
number_held : (low high other : ℕ) (path name : List ℕ) (value : Data) → refusal (Number low high) (key_path path name) (integer (pos other)) ≡ None
    → of_key (number_of other) (refusal (Number low high)) path name value ≡ None → IsFrom low high (number (held (number_of other) (get name value)))
number_held low high other path name value passes h =
    number-within low high (key_path path name) (held (number_of other) (get name value)) (default-passed (integer (pos other)) (refusal (Number low high)) (key_path path name) (get name value) passes h)

pool_numbers : (value : Data) → of_keys pool_keys (codes "pool") value ≡ None → (pool_in value).set_ttl ≤ (pool_in value).session_ttl → ArePoolNumbers (pool_in value)
unfolding pool_keys pool_in
pool_numbers value h order =
    let one = neither _ _ h in
    let two = neither _ _ one.1 in
    let three = neither _ _ two.1 in
    let four = neither _ _ three.1 in
    let five = neither _ _ four.1 in
    let six = neither _ None five.1 in
    record {
      max_sessions = number_held 1 1000 64 (codes "pool") (codes "max_sessions") value refl one.0;
      sets_max = number_held 1 100 10 (codes "pool") (codes "sets_max") value refl two.0;
      session_ttl = number_held 1 86400 300 (codes "pool") (codes "session_ttl") value refl three.0;
      set_ttl = number_held 1 86400 60 (codes "pool") (codes "set_ttl") value refl four.0;
      repeats = number_held 0 10 2 (codes "pool") (codes "repeats") value refl five.0;
      patience = number_held 1 1000000 1000 (codes "pool") (codes "patience") value refl six.0;
      order = order;
    }

limit_numbers : (value : Data) → of_keys limit_keys (codes "limit") value ≡ None → AreLimits (limits_in value)
unfolding limit_keys limits_in
limit_numbers value h =
    let one = neither _ _ h in
    let two = neither _ _ one.1 in
    let three = neither _ _ two.1 in
    let four = neither _ None three.1 in
    record {
      units = number_held 1 1000000 100000 (codes "limit") (codes "units") value refl one.0;
      searches = number_held 1 1000000 10000 (codes "limit") (codes "searches") value refl two.0;
      records = number_held 1 1000000 100000 (codes "limit") (codes "records") value refl three.0;
      sets = number_held 1 1000 32 (codes "limit") (codes "sets") value refl four.0;
    }

-- what the whole is not refused for: rules name what is there, and result sets are kept no longer than their sessions
record HoldsWhole (values : Values) : Type 0 where
  users : no_such_user (map (λ user. user.name) values.users) (ruled_users values) ≡ None
  databases : no_such_database (map (λ database. database.name) values.databases) (ruled_databases values) ≡ None
  order : values.pool.set_ttl ≤ values.pool.session_ttl

whole_holds : (values : Values) → of_whole values ≡ None → HoldsWhole values
unfolding of_whole
whole_holds values h =
    let names = target_names values ++ group_names values in
    let one = (neither (twice false names) _ h).1 in
    let two = (neither (twice true (map (λ database. database.name) values.databases)) _ one).1 in
    let three = (neither (twice true (map (λ index. index.name) values.indexes)) _ two).1 in
    let four = (neither (twice false (map (λ schema. schema.name) values.schemas)) _ three).1 in
    let five = (neither (twice false (map (λ user. user.name) values.users)) _ four).1 in
    let six = (neither (twice false (map (λ rule. rule.name) values.rules)) _ five).1 in
    let seven = (neither (no_such_target (target_names values) (member_names values)) _ six).1 in
    let eight = neither (no_such_target names (vias values)) _ seven in
    let nine = neither (no_such_user (map (λ user. user.name) values.users) (ruled_users values)) _ eight.1 in
    let ten = neither (no_such_database (map (λ database. database.name) values.databases) (ruled_databases values)) _ nine.1 in
    record {
      users = nine.0;
      databases = ten.0;
      order = grind (arith, nat_tests, passed (nat_le values.pool.set_ttl values.pool.session_ttl) TtlOrder (neither _ None ten.1).0);
    }

empty_pool : refusal (Table pool_keys) (codes "pool") (table no_members) ≡ None
unfolding pool_keys
empty_pool = refl

empty_limits : refusal (Table limit_keys) (codes "limit") (table no_members) ≡ None
unfolding limit_keys
empty_limits = refl

cache_numbers : (value : Data) → of_keys cache_keys (codes "cache") value ≡ None
    → IsFrom 0 10000 (cache_in value).records × IsFrom 1 65536 (cache_in value).record_bytes
unfolding cache_keys cache_in
cache_numbers value h =
    let one = neither _ _ h in
    let two = neither _ None one.1 in (
      number_held 0 10000 0 (codes "cache") (codes "records") value refl one.0,
      number_held 1 65536 4096 (codes "cache") (codes "record_bytes") value refl two.0,
    )

empty_cache : refusal (Table cache_keys) (codes "cache") (table no_members) ≡ None
unfolding cache_keys
empty_cache = refl

-- what is read from a tree that is refused for nothing is sound
pub sound : (tree : Data) → first_fault tree ≡ None → IsSound (route_of (values_in tree))
unfolding top_keys values_in route_of
sound tree h =
    let kept = sizes tree h in
    let one = neither _ _ (keys-passed top_keys [] tree (neither _ _ h).0) in
    let two = neither _ _ one.1 in
    let three = neither _ _ two.1 in
    let four = neither _ _ three.1 in
    let five = neither _ _ four.1 in
    let six = neither _ _ five.1 in
    let seven = neither _ _ six.1 in
    let eight = neither _ _ seven.1 in
    let nine = neither _ _ eight.1 in
    let ten = neither _ None nine.1 in
    let whole = whole_holds (values_in tree) (neither _ _ h).1 in
    let pool = default-passed (table no_members) (refusal (Table pool_keys)) (codes "pool") (get (codes "pool") tree) empty_pool four.0 in
    let limits = default-passed (table no_members) (refusal (Table limit_keys)) (codes "limit") (get (codes "limit") tree) empty_limits five.0 in
    let indexes = default-passed default_indexes (refusal (Array 0 64 (Table index_keys))) (codes "index") (get (codes "index") tree) indexes-pass six.0 in
    let schemas = default-passed default_schemas (refusal (Array 1 16 (Table schema_keys))) (codes "schema") (get (codes "schema") tree) schemas-pass seven.0 in
    let users = default-passed (array no_items) (refusal (Array 0 1000 (Table user_keys))) (codes "user") (get (codes "user") tree) refl eight.0 in
    let rules = default-passed (array no_items) (refusal (Array 0 1000 (Table rule_keys))) (codes "rule") (get (codes "rule") tree) refl nine.0 in
    let cache = default-passed (table no_members) (refusal (Table cache_keys)) (codes "cache") (get (codes "cache") tree) empty_cache ten.0 in
    let cached = cache_numbers (at top_keys (codes "cache") tree) (keys-passed cache_keys (codes "cache") (at top_keys (codes "cache") tree) cache) in
    let groups = default-passed (array no_items) (refusal (Array 0 64 (Table group_keys))) (codes "group") (get (codes "group") tree) refl two.0 in
    record {
      places = places (values_in tree) kept;
      sizes = record {
        targets = kept.targets;
        groups = rw (length-map (values_in tree).groups _) (list-within group_in (Table group_keys) 0 64 (codes "group") (at top_keys (codes "group") tree) groups);
        databases = rw (databases_length 0 (values_in tree).databases) kept.databases;
        indexes = list-within index_in (Table index_keys) 0 64 (codes "index") (at top_keys (codes "index") tree) indexes;
        schemas = list-within schema_in (Table schema_keys) 1 16 (codes "schema") (at top_keys (codes "schema") tree) schemas;
        users = list-within user_in (Table user_keys) 0 1000 (codes "user") (at top_keys (codes "user") tree) users;
        rules = list-within rule_in (Table rule_keys) 0 1000 (codes "rule") (at top_keys (codes "rule") tree) rules;
      };
      items = kept-items tree h;
      pool = pool_numbers (at top_keys (codes "pool") tree) (keys-passed pool_keys (codes "pool") (at top_keys (codes "pool") tree) pool) whole.order;
      limits = limit_numbers (at top_keys (codes "limit") tree) (keys-passed limit_keys (codes "limit") (at top_keys (codes "limit") tree) limits);
      rules = record {
        users = users_named (values_in tree).users (values_in tree).rules whole.users;
        databases = databases_named (values_in tree).databases (values_in tree).rules whole.databases;
      };
      cache = record { records = cached.0; record_bytes = cached.1 };
    }
