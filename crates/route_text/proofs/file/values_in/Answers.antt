use Rattle.std.proofs.Common.{[], ◌∙◌, codes, refl}
use Rattle.toml.specs.Data.{get, array, no_items}
use Rattle.toml.specs.View.{view}
use Rattle.route_text.specs.Keys.{pool_keys, limit_keys, cache_keys, top_keys, default_indexes, default_schemas}
use Rattle.route_text.specs.Values.{group_in, index_in, schema_in, user_in, rule_in}
use Rattle.route_text.proofs.HeldLemmas.{held-list, values-in, both, passes, indexes-held, schemas-held}
use Rattle.route_text.proofs.file.values_in.Goals as goal

pub entry_or_empty-requires : goal.entry_or_empty-requires
unfolding pool_keys
entry_or_empty-requires c = refl

pub entry_or_empty-requires-2 : goal.entry_or_empty-requires-2
unfolding limit_keys
entry_or_empty-requires-2 c = refl

pub entry_or_empty-requires-3 : goal.entry_or_empty-requires-3
unfolding cache_keys
entry_or_empty-requires-3 c = refl

pub returns : goal.returns
unfolding top_keys
returns c =
    let file = view c.args.file.now in
    let groups = held-list group_in (array no_items) c.new.result (get (codes "group") file) c.new.ensures in
    let indexes = held-list index_in default_indexes c.in_ok-default_indexes.field-0 (get (codes "index") file) (c.in_ok-default_indexes.ensures ∙ indexes-held) in
    let schemas = held-list schema_in default_schemas c.in_ok-default_schemas.field-0 (get (codes "schema") file) (c.in_ok-default_schemas.ensures ∙ schemas-held) in
    let users = held-list user_in (array no_items) c.new-2.result (get (codes "user") file) c.new-2.ensures in
    let rules = held-list rule_in (array no_items) c.new-3.result (get (codes "rule") file) c.new-3.ensures in (
      passes top_keys [] file _ c.in_ok-members.ensures
          (both c.in_ok-targets.ensures.0 (both c.in_ok-groups.ensures.0 (both c.in_ok-databases.ensures.0 (both c.in_ok-pool.ensures.0
          (both c.in_ok-limits.ensures.0 (both c.in_ok-indexes.ensures.0 (both c.in_ok-schemas.ensures.0 (both c.in_ok-users.ensures.0 (both c.in_ok-rules.ensures.0
          (both c.in_ok-cache.ensures.0 refl))))))))))
          c.in_ok-no_others.ensures,
      values-in file _ _ _ _ _ _ _ _ _ _ c.in_ok-targets.ensures.1 (c.in_ok-groups.ensures.1 ∙ groups) c.in_ok-databases.ensures.1
          c.in_ok-pool.ensures.1 c.in_ok-limits.ensures.1 (c.in_ok-indexes.ensures.1 ∙ indexes) (c.in_ok-schemas.ensures.1 ∙ schemas)
          (c.in_ok-users.ensures.1 ∙ users) (c.in_ok-rules.ensures.1 ∙ rules) c.in_ok-cache.ensures.1,
    )
