-- What an equation unfolds to compute a configuration from its octets.
use Rattle.std.specs.Prelude.{⊤}
use Rattle.std.specs.Fmt.{digits}
use Rattle.toml.proofs.OnLiterals.{toml_on_literals}
use Rattle.route_text.specs.Keys.{target_keys, group_keys, leg_keys, database_keys, pool_keys, limit_keys, index_keys, schema_keys, user_keys, rule_keys, cache_keys, default_indexes, default_schemas, top_keys}
use Rattle.route_text.specs.Values.{target_in, group_in, leg_in, database_in, pool_in, limits_in, index_in, schema_in, user_in, rule_in, cache_in, values_in}
use Rattle.route_text.specs.Whole.{of_whole}
use Rattle.route_text.specs.RouteOf.{route_of}

unfoldable pub configuration_on_literals : ⊤
unfolding toml_on_literals digits target_keys group_keys leg_keys database_keys pool_keys limit_keys index_keys schema_keys user_keys rule_keys cache_keys default_indexes default_schemas top_keys target_in group_in leg_in database_in pool_in limits_in index_in schema_in user_in rule_in cache_in values_in of_whole route_of
configuration_on_literals = tt
