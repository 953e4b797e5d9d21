use Rattle.std.proofs.Common.{◌∙◌, ap, not, map, length, string_bytes, String, Global, rules, tests}
use Rattle.std.specs.List.{find}
use Rattle.std.specs.Map.Iter.{TakesFirst, deref}
use Rattle.std.proofs.lemmas.Iterator.Consumers.{YieldsList-from_shown}
use Rattle.std.proofs.lemmas.Iterator.Search.{find_from_yields_List}
use Rattle.route_text.specs.Refusal.{is_key}
use Rattle.route_text.proofs.TextLemmas.{least-keys}
use Rattle.route_text.proofs.others.least_other.Goals as goal

pub returns : goal.returns
returns c =
    let found = find_from_yields_List (λ k. not (is_key (map (λ key. key.now) c.args.known.now) (string_bytes k))) _ _ c.find.result c.find.ensures.ran
    (YieldsList-from_shown (TakesFirst (deref {X = String Global})) (λ x. x.now) (λ s. s) (λ s t h. ap length h.0) (λ s x t h. h) c.keys.result) (λ x b q k. search (rules, tests)) in
    least-keys (map (λ key. key.now) c.args.known.now) c.args.table.now c.find.result c.keys.ensures.ordered
    (found ∙ ap (find (λ k. not (is_key (map (λ key. key.now) c.args.known.now) (string_bytes k)))) c.keys.ensures.rest)
