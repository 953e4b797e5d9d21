-- Items beside the values that they stand for.
use Rattle.std.proofs.Common.{◌≡◌, List, [], ◌∷◌, length, refl, arith}
use Rattle.toml.specs.declared.value.Value.{Value}
use Rattle.toml.specs.View.{items_view}
use Rattle.route_text.specs.Refusal.{count}

pub count_items : (values : List Value) → count (items_view values) ≡ length values
count_items [] = refl
count_items (value ∷ values) = grind (arith, count_items values)

pub ruleset item_steps = (count_items)
