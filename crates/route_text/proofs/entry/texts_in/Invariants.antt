use Rattle.std.proofs.Common.{◌≡◌, ◌++◌, drop}
use Rattle.toml.specs.View.{items_view}
use Rattle.route_text.specs.Kinds.{Text as TextKind}
use Rattle.route_text.specs.Refusal.{refusal, of_items}
use Rattle.route_text.specs.Values.{list_of, text}
use Rattle.route_text.proofs.entry.texts_in.Given as goal

-- what is refused is refused of the items that are left, and what is left makes the list whole
abbrev pub invariant-loop-place : goal.invariant-loop-place
invariant-loop-place l = record {
  refused : of_items (refusal (TextKind l.rule)) l.path 0 (items_view l.items) ≡ of_items (refusal (TextKind l.rule)) l.path l.place (items_view (drop l.place l.items));
  listed : l.texts ++ list_of text (items_view (drop l.place l.items)) ≡ list_of text (items_view l.items);
}
