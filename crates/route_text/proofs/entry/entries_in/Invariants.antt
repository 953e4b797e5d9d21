use Rattle.std.proofs.Common.{◌≡◌, ◌++◌, drop}
use Rattle.toml.specs.View.{items_view}
use Rattle.route_text.specs.Refusal.{refusal, of_items}
use Rattle.route_text.specs.Values.{list_of}
use Rattle.route_text.proofs.entry.entries_in.Given as goal

-- what is refused is refused of the items that are left, and what is left makes the list whole
abbrev pub invariant-loop-place : goal.invariant-loop-place
invariant-loop-place g l = record {
  refused : of_items (refusal g.E.Entry.kind) l.path 0 (items_view l.items) ≡ of_items (refusal g.E.Entry.kind) l.path l.place (items_view (drop l.place l.items));
  listed : l.entries ++ list_of g.E.Entry.found (items_view (drop l.place l.items)) ≡ list_of g.E.Entry.found (items_view l.items);
}
